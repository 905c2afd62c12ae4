-- Pieces of one length one behind the other; the numbers below a bound as a list, those that a rule selects among it. Assumes nothing.
use Prim.Native.Nat.{ℕ, zero, suc, ◌+◌, ◌*◌, ◌≤◌, ◌<◌}
use mathlib.Core.Path.{◌≡◌, refl, sym, ap, ap₂, ◌∙◌}
use mathlib.Core.List.Memᴰ
use mathlib.Core.List.{List, [], ◌∷◌, ◌++◌, map, map-append, flat_map, append_assoc, append-nil, Memᴰ}
use mathlib.Core.Logic.{⊎_elim, by_cases}
use mathlib.Core.Bool.{Bool, true, false}
use native.Mathlib.Decide.{dec_le}
use native.Mathlib.Omega.{arith}
use native.Mathlib.Numerals.{add-one}
use lib.ListN.{length, get_or, length-append}
use lib.Dec.{eqb}
use borrow.Author.Tests.{eqb-true, eqb-false}
use Rattle.wire.specs.Tests.{all_below}
use Rattle.wire.specs.Bytes.{Bytes, part}
use Rattle.wire.specs.Lists.{select, below}
use Rattle.wire.proofs.TestLaws.{iff, below_each, below_all}
use Rattle.wire.proofs.ByteLaws.{part_before, part_behind, bytes_none, bytes_append}
use Rattle.wire.proofs.ListLaws.{select_append, Behind}

-- pieces of one length

module _ (g : ℕ → List ℕ) (n : ℕ) (long : (t : ℕ) → length (g t) ≡ n) where
  pub run_length : (l : List ℕ) → length (flat_map g l) ≡ length l * n
  unfolding flat_map
  run_length [] = omega arith
  run_length (x ∷ xs) = length-append (g x) (flat_map g xs) ∙ omega (arith, long x, run_length xs)

  pub run_part : (l : List ℕ) (k w j : ℕ) → k < length l → j + w ≤ n → part (flat_map g l) (k * n + j) w ≡ part (g (get_or l k 0)) j w
  unfolding flat_map
  run_part [] k w j h i = absurd (omega arith)
  run_part (x ∷ xs) zero w j h i =
      let e : 0 * n + j ≡ j = omega arith in
      rw e (part_before (g x) (flat_map g xs) j w (omega (arith, long x)))
  run_part (x ∷ xs) (suc k) w j h i =
      let e : suc k * n + j ≡ length (g x) + (k * n + j) = omega (arith, long x) in
      rw e (part_behind (g x) (flat_map g xs) (k * n + j) w ∙ run_part xs k w j (omega arith) i)

module _ (g : ℕ → List ℕ) where
  pub run_bytes : ((t : ℕ) → Bytes (g t)) → (l : List ℕ) → Bytes (flat_map g l)
  unfolding flat_map
  run_bytes b [] = bytes_none
  run_bytes b (x ∷ xs) = bytes_append (b x) (run_bytes b xs)

  pub run_append : (l m : List ℕ) → flat_map g (l ++ m) ≡ flat_map g l ++ flat_map g m
  unfolding flat_map
  run_append [] m = refl
  run_append (x ∷ xs) m = ap (λ (y : List ℕ). g x ++ y) (run_append xs m) ∙ sym (append_assoc (g x) (flat_map g xs) (flat_map g m))

  pub run_one : (x : ℕ) → flat_map g (x ∷ []) ≡ g x
  unfolding flat_map
  run_one x = append-nil (g x)

-- a function of the numbers below m + n, cut behind the first m

pub below_cut : (f : ℕ → ℕ) (m n : ℕ) → map f (below (m + n)) ≡ map f (below m) ++ map (λ i. f (m + i)) (below n)
unfolding below
below_cut f m zero = let e : m + 0 ≡ m = omega arith in rw e (sym (append-nil (map f (below m))))
below_cut f m (suc n) =
    let e : m + suc n ≡ suc (m + n) = omega arith in
    let h : ℕ → ℕ = λ i. f (m + i) in
    ap (λ (k : ℕ). map f (below k)) e ∙ map-append f (below (m + n)) ((m + n) ∷ []) ∙ ap (λ (l : List ℕ). l ++ (f (m + n) ∷ [])) (below_cut f m n)
    ∙ append_assoc (map f (below m)) (map h (below n)) (h n ∷ []) ∙ ap (λ (l : List ℕ). map f (below m) ++ l) (sym (map-append h (below n) (n ∷ [])))

-- its values alone count
pub below_alike : (f g : ℕ → ℕ) (n : ℕ) → ((i : ℕ) → i < n → f i ≡ g i) → map f (below n) ≡ map g (below n)
unfolding below
below_alike f g zero e = refl
below_alike f g (suc n) e =
    map-append f (below n) (n ∷ []) ∙ ap₂ (λ (l : List ℕ) (x : ℕ). l ++ (x ∷ [])) (below_alike f g n (λ i h. e i (omega arith))) (e n (omega arith)) ∙ sym (map-append g (below n) (n ∷ []))

-- a rule of every number below n that those from m on keep
pub below_fewer : (n m : ℕ) (p : ℕ → Bool) → m ≤ n → ((i : ℕ) → m ≤ i → i < n → p i ≡ true) → all_below n p ≡ all_below m p
below_fewer n m p h f =
    iff (all_below n p) (all_below m p) (λ e. below_all m p (λ i k. below_each n p e i (omega arith)))
    (λ e. below_all n p (λ i k. by_cases (dec_le m i) (λ a. f i a k) (λ a. below_each m p e i (omega arith))))

-- the numbers below n, one by one

pub member_below : (n : ℕ) {k : ℕ} → Memᴰ k (below n) → k < n
unfolding below
member_below zero m = absurd (Memᴰ.not-nil m)
member_below (suc n) m =
    ⊎_elim (λ h. let i = member_below n h in omega arith) (λ h. let i = Memᴰ.eq_of_singleton h in omega arith)
    (Memᴰ.append_cases (below n) m)

pub below_member : (n k : ℕ) → k < n → Memᴰ k (below n)
unfolding below
below_member zero k h = absurd (omega arith)
below_member (suc n) k h = go (eqb k n) refl (below_member n k)
  where
    go : (b : Bool) → eqb k n ≡ b → (k < n → Memᴰ k (below n)) → Memᴰ k (below n ++ (n ∷ []))
    go true e r = Memᴰ.append_right (below n) (Memᴰ.head (eqb-true k n e))
    go false e r = let f = eqb-false k n e in Memᴰ.append_left _ (r (omega arith))

behind_snoc : (a : ℕ) (l : List ℕ) (y : ℕ) → Behind a l → a ≤ y → ((x : ℕ) → Memᴰ x l → x < y) → Behind a (l ++ (y ∷ []))
behind_snoc a [] y b h f = (h, tt)
behind_snoc a (x ∷ xs) y b h f =
    let k = f x (Memᴰ.head refl) in
    (b.0, behind_snoc (x + 1) xs y b.1 (omega arith) (λ z m. f z (Memᴰ.tail m)))

pub below_behind : (n : ℕ) → Behind 0 (below n)
unfolding below
below_behind zero = tt
below_behind (suc n) = behind_snoc 0 (below n) n (below_behind n) (omega arith) (λ x m. member_below n m)

-- those selected, a number more at a time
module _ (p : ℕ → Bool) (n : ℕ) where
  pub select_more : p n ≡ true → select p (below (n + 1)) ≡ select p (below n) ++ (n ∷ [])
  unfolding below select
  select_more e = rw (add-one n) (select_append p (below n) (n ∷ []) ∙ rw e)

  pub select_stay : p n ≡ false → select p (below (n + 1)) ≡ select p (below n)
  unfolding below select
  select_stay e = rw (add-one n) (select_append p (below n) (n ∷ []) ∙ rw e (append-nil (select p (below n))))

-- members by their place

pub member_place : (l : List ℕ) {x : ℕ} → Memᴰ x l → (k : ℕ) × (k < length l) × (get_or l k 0 ≡ x)
member_place [] m = absurd (Memᴰ.not-nil m)
member_place (y ∷ ys) {x} m =
    ⊎_elim (λ e. (0, omega arith, sym e)) (λ q. let r = member_place ys q in (suc r.0, omega (arith, r.1), r.2))
    (Memᴰ.cases_cons m)

pub place_member : (l : List ℕ) (k : ℕ) → k < length l → Memᴰ (get_or l k 0) l
place_member [] k h = absurd (omega arith)
place_member (y ∷ ys) zero h = Memᴰ.head refl
place_member (y ∷ ys) (suc k) h = Memᴰ.tail (place_member ys k (omega arith))
