-- What is joined over a rectangle: cut between rows or between columns, and by the first that counts. Assumes nothing.
use Prim.Native.Nat.{ℕ, zero, suc, ◌+◌, ◌*◌, ◌≤◌, ◌<◌}
use mathlib.Core.Path.{◌≡◌, refl, sym, ap, ap₂, ◌∙◌}
use mathlib.Core.List.{List, [], ◌∷◌, ◌++◌}
use mathlib.Core.Logic.{◌⊎◌, ⊎_elim, by_cases}
use native.Mathlib.Decide.{dec_le}
use native.Mathlib.Omega.{arith}
use Rattle.wire.specs.Tests.{sum_below}
use Rattle.blocks.specs.Folds.{fold_below, fold_rectangle, Joins}

module _ {A : Type 0} (op : A → A → A) (unit : A) where
  pub fold_same : (n : ℕ) (f g : ℕ → A) → ((i : ℕ) → i < n → f i ≡ g i) → fold_below op unit n f ≡ fold_below op unit n g
  unfolding fold_below
  fold_same zero f g e = refl
  fold_same (suc n) f g e = ap₂ op (fold_same n f g (λ i h. e i (omega arith))) (e n (omega arith))

  -- where two count for nothing together, each does, and so each of many
  pub fold_each :
      ((x y : A) → op x y ≡ unit → (x ≡ unit) × (y ≡ unit)) → (n : ℕ) (f : ℕ → A) → fold_below op unit n f ≡ unit → (i : ℕ) → i < n → f i ≡ unit
  unfolding fold_below
  fold_each s zero f e i h = absurd (omega arith)
  fold_each s (suc n) f e i h =
      by_cases (dec_le (i + 1) n) (λ k. fold_each s n f (s _ _ e).0 i (omega arith)) (λ k. let z : i ≡ n = omega arith in rw z (s (fold_below op unit n f) (f n) e).1)

  -- where one of two comes out, so does one of many, unless none counts
  pub fold_found :
      ((x y : A) → (op x y ≡ x) ⊎ (op x y ≡ y)) → (n : ℕ) (f : ℕ → A) → (fold_below op unit n f ≡ unit → ⊥) → (i : ℕ) × (i < n) × (f i ≡ fold_below op unit n f)
  unfolding fold_below
  fold_found s zero f h = absurd (h refl)
  fold_found s (suc n) f h =
      ⊎_elim
      (λ e.
      let z = fold_found s n f (λ u. h (e ∙ u)) in
      (z.0, omega arith, z.2 ∙ sym e))
      (λ e. (n, omega arith, sym e)) (s (fold_below op unit n f) (f n))

  module _ (j : Joins op unit) where
    -- a row cut in two
    pub fold_cut : (m n : ℕ) (f : ℕ → A) → fold_below op unit (m + n) f ≡ op (fold_below op unit m f) (fold_below op unit n (λ i. f (m + i)))
    unfolding fold_below
    fold_cut m zero f = let z : m + 0 ≡ m = omega arith in rw z (sym (j.unit_right _))
    fold_cut m (suc n) f =
        let z : m + suc n ≡ suc (m + n) = omega arith in
        rw z (ap (λ (x : A). op x (f (m + n))) (fold_cut m n f) ∙ j.assoc _ _ _)

    -- where none counts, and where the one at i is the first that does: nothing behind it changes x
    pub fold_none : (n : ℕ) (f : ℕ → A) → ((i : ℕ) → i < n → f i ≡ unit) → fold_below op unit n f ≡ unit
    unfolding fold_below
    fold_none zero f e = refl
    fold_none (suc n) f e = ap₂ op (fold_none n f (λ i h. e i (omega arith))) (e n (omega arith)) ∙ j.unit_left unit

    pub fold_first :
        (n i : ℕ) (f : ℕ → A) (x : A) → i < n → ((k : ℕ) → k < i → f k ≡ unit) → f i ≡ x → ((y : A) → op x y ≡ x) → fold_below op unit n f ≡ x
    unfolding fold_below
    fold_first zero i f x h e q s = absurd (omega arith)
    fold_first (suc n) i f x h e q s =
        by_cases (dec_le (i + 1) n) (λ k. ap (λ (y : A). op y (f n)) (fold_first n i f x (omega arith) e q s) ∙ s (f n))
        (λ k. let z : n ≡ i = omega arith in rw z (ap₂ op (fold_none i f e) q ∙ j.unit_left x))

    -- a rectangle cut between rows
    pub rows_cut :
        (a m p c n : ℕ) (f : ℕ → ℕ → A) →
        fold_rectangle op unit a (m + p) c n f ≡ op (fold_rectangle op unit a m c n f) (fold_rectangle op unit (a + m) p c n f)
    unfolding fold_rectangle
    rows_cut a m p c n f =
        let row : ℕ → A = λ i. fold_below op unit n (λ k. f (a + i) (c + k)) in
        fold_cut m p row ∙ ap (op (fold_below op unit m row)) (fold_same p _ _ (λ i h. let z : a + (m + i) ≡ a + m + i = omega arith in rw z))

    -- where none of its cells counts, and where the one in row r and column k of it is the first by rows that does
    pub cells_none : (a m c n : ℕ) (f : ℕ → ℕ → A) → ((i k : ℕ) → i < m → k < n → f (a + i) (c + k) ≡ unit) → fold_rectangle op unit a m c n f ≡ unit
    unfolding fold_rectangle
    cells_none a m c n f e = fold_none m _ (λ i h. fold_none n _ (λ k l. e i k h l))

    pub cell_first :
        (a m c n r k : ℕ) (f : ℕ → ℕ → A) (x : A) → r < m → k < n → ((i l : ℕ) → i < r → l < n → f (a + i) (c + l) ≡ unit) →
        ((l : ℕ) → l < k → f (a + r) (c + l) ≡ unit) → f (a + r) (c + k) ≡ x → ((y : A) → op x y ≡ x) → fold_rectangle op unit a m c n f ≡ x
    unfolding fold_rectangle
    cell_first a m c n r k f x h l above before q s =
        fold_first m r _ x h (λ i g. fold_none n _ (λ b t. above i b g t)) (fold_first n k _ x l before q s) s

    module _ (comm : (x y : A) → op x y ≡ op y x) where
      swap : (w x y z : A) → op (op w x) (op y z) ≡ op (op w y) (op x z)
      swap w x y z =
          j.assoc w x (op y z) ∙ ap (op w) (sym (j.assoc x y z) ∙ ap (λ (u : A). op u z) (comm x y) ∙ j.assoc y x z) ∙ sym (j.assoc w y (op x z))

      pub fold_both : (n : ℕ) (f g : ℕ → A) → fold_below op unit n (λ i. op (f i) (g i)) ≡ op (fold_below op unit n f) (fold_below op unit n g)
      unfolding fold_below
      fold_both zero f g = sym (j.unit_left unit)
      fold_both (suc n) f g = ap (λ (x : A). op x (op (f n) (g n))) (fold_both n f g) ∙ swap _ _ _ _

      -- one that is among them already changes nothing, where none does twice
      pub fold_absorbs : ((x : A) → op x x ≡ x) → (n : ℕ) (f : ℕ → A) (i : ℕ) → i < n → op (fold_below op unit n f) (f i) ≡ fold_below op unit n f
      unfolding fold_below
      fold_absorbs d zero f i h = absurd (omega arith)
      fold_absorbs d (suc n) f i h =
          let w : A = fold_below op unit n f in
          by_cases (dec_le (i + 1) n)
          (λ k.
          j.assoc w (f n) (f i) ∙ ap (op w) (comm (f n) (f i)) ∙ sym (j.assoc w (f i) (f n)) ∙ ap (λ (x : A). op x (f n)) (fold_absorbs d n f i (omega arith)))
          (λ k. let z : i ≡ n = omega arith in rw z (j.assoc w (f n) (f n) ∙ ap (op w) (d (f n))))

      -- cut between columns, where the order does not count
      pub columns_cut :
          (a m c n p : ℕ) (f : ℕ → ℕ → A) →
          fold_rectangle op unit a m c (n + p) f ≡ op (fold_rectangle op unit a m c n f) (fold_rectangle op unit a m (c + n) p f)
      unfolding fold_rectangle
      columns_cut a m c n p f =
          fold_same m _ _
          (λ i h.
          fold_cut n p (λ k. f (a + i) (c + k))
          ∙ ap (op (fold_below op unit n (λ k. f (a + i) (c + k)))) (fold_same p _ _ (λ k l. let z : c + (n + k) ≡ c + n + k = omega arith in rw z)))
          ∙ fold_both m _ _

-- a part of what is joined is the join of the parts
module _ {A B : Type 0} (op : A → A → A) (unit : A) (op2 : B → B → B) (unit2 : B) (part : A → B) (p : part unit ≡ unit2) where
  pub fold_part : ((x y : A) → part (op x y) ≡ op2 (part x) (part y)) → (n : ℕ) (f : ℕ → A) → part (fold_below op unit n f) ≡ fold_below op2 unit2 n (λ i. part (f i))
  unfolding fold_below
  fold_part q zero f = p
  fold_part q (suc n) f = q (fold_below op unit n f) (f n) ∙ ap (λ (y : B). op2 y (part (f n))) (fold_part q n f)

-- lists are put together
pub lists : {A : Type 0} → Joins (◌++◌ {A = A}) []
lists = record { unit_left = λ x. refl; unit_right = right; assoc = assoc }
  where
    right : {A : Type 0} (x : List A) → x ++ [] ≡ x
    right [] = refl
    right (y ∷ x) = ap (λ (l : List _). y ∷ l) (right x)

    assoc : {A : Type 0} (x y z : List A) → (x ++ y) ++ z ≡ x ++ (y ++ z)
    assoc [] y z = refl
    assoc (w ∷ x) y z = ap (λ (l : List _). w ∷ l) (assoc x y z)

-- a sum is such a fold
pub sums : Joins ◌+◌ 0
sums = record { unit_left = λ x. omega arith; unit_right = λ x. omega arith; assoc = λ x y z. omega arith }

pub sum_folds : (n : ℕ) (f : ℕ → ℕ) → sum_below n f ≡ fold_below ◌+◌ 0 n f
unfolding sum_below fold_below
sum_folds zero f = refl
sum_folds (suc n) f = rw (sum_folds n f)

-- and of numbers that are one, as often as it is added
pub fold_alike : (n k : ℕ) (f : ℕ → ℕ) → ((i : ℕ) → i < n → f i ≡ k) → fold_below ◌+◌ 0 n f ≡ n * k
unfolding fold_below
fold_alike zero k f e = omega arith
fold_alike (suc n) k f e = omega (arith, fold_alike n k f (λ i h. e i (omega arith)), e n (omega arith))

-- of numbers whose sum is not zero one is not
pub sum_some : (n : ℕ) (f : ℕ → ℕ) → 1 ≤ fold_below ◌+◌ 0 n f → (i : ℕ) × (i < n) × (1 ≤ f i)
unfolding fold_below
sum_some zero f h = absurd (omega arith)
sum_some (suc n) f h =
    by_cases (dec_le 1 (f n)) (λ k. (n, omega arith, k))
    (λ k. let y = sum_some n f (omega arith) in (y.0, omega arith, y.2))
