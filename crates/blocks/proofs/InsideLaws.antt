-- What is joined over the rows from one to below another and such columns, as a walk over them comes by it. Assumes nothing.
use Prim.Native.Nat.{ℕ, ◌+◌, ◌-◌, ◌*◌, ◌≤◌, ◌<◌}
use mathlib.Core.Path.{◌≡◌, refl, sym, ap, ◌∙◌}
use mathlib.Core.Logic.{◌⊎◌}
use native.Mathlib.Omega.{arith}
use Rattle.blocks.specs.Tables.{Inside}
use Rattle.blocks.specs.Folds.{fold_below, fold_rectangle, fold_inside, Joins}
use Rattle.blocks.proofs.FoldLaws.{fold_same, fold_cut, fold_each, fold_found, fold_part, fold_both, fold_absorbs, fold_alike, sum_some, rows_cut, columns_cut, cells_none, cell_first}

-- where two count for nothing together, each does, and so each cell
pub inside_each :
    {A : Type 0} (op : A → A → A) (unit : A) → ((x y : A) → op x y ≡ unit → (x ≡ unit) × (y ≡ unit)) → (top bottom left right : ℕ) (f : ℕ → ℕ → A) →
    fold_inside op unit top bottom left right f ≡ unit → (r c : ℕ) → Inside top bottom left right r c → f r c ≡ unit
unfolding fold_inside fold_rectangle
inside_each op unit s top bottom left right f e r c h =
    let p : top + (r - top) ≡ r = omega arith in
    let q : left + (c - left) ≡ c = omega arith in
    rw (p, q) at
    (fold_each op unit s (right - left) (λ k. f (top + (r - top)) (left + k)) (fold_each op unit s (bottom - top) _ e (r - top) (omega arith)) (c - left) (omega arith))

-- where one of two comes out, so does that of a cell, unless none counts
pub inside_found :
    {A : Type 0} (op : A → A → A) (unit : A) → ((x y : A) → (op x y ≡ x) ⊎ (op x y ≡ y)) → (top bottom left right : ℕ) (f : ℕ → ℕ → A) →
    (fold_inside op unit top bottom left right f ≡ unit → ⊥) →
    (r : ℕ) × (c : ℕ) × Inside top bottom left right r c × (f r c ≡ fold_inside op unit top bottom left right f)
unfolding fold_inside fold_rectangle
inside_found op unit s top bottom left right f h =
    let y = fold_found op unit s (bottom - top) _ h in
    let z = fold_found op unit s (right - left) _ (λ e. h (sym y.2 ∙ e)) in
    (top + y.0, left + z.0, omega arith, z.2 ∙ y.2)

-- another place, and other cells there that are the same
pub inside_moved :
    {A : Type 0} (op : A → A → A) (unit : A) (top bottom left right top2 bottom2 left2 right2 : ℕ) (f g : ℕ → ℕ → A) → bottom - top ≡ bottom2 - top2 → right - left ≡ right2 - left2 →
    ((i k : ℕ) → i < bottom - top → k < right - left → f (top + i) (left + k) ≡ g (top2 + i) (left2 + k)) →
    fold_inside op unit top bottom left right f ≡ fold_inside op unit top2 bottom2 left2 right2 g
unfolding fold_inside fold_rectangle
inside_moved op unit top bottom left right top2 bottom2 left2 right2 f g p q e =
    rw (← p, ← q) (fold_same op unit (bottom - top) _ _ (λ i h. fold_same op unit (right - left) _ _ (λ k l. e i k h l)))

-- other cells that are the same
pub inside_same :
    {A : Type 0} (op : A → A → A) (unit : A) (top bottom left right : ℕ) (f g : ℕ → ℕ → A) → ((r c : ℕ) → Inside top bottom left right r c → f r c ≡ g r c) →
    fold_inside op unit top bottom left right f ≡ fold_inside op unit top bottom left right g
inside_same op unit top bottom left right f g e =
    inside_moved op unit top bottom left right top bottom left right f g refl refl (λ i k h l. e (top + i) (left + k) (omega arith))

module _ {A : Type 0} (op : A → A → A) (unit : A) (j : Joins op unit) where
  -- one cell
  pub inside_one : (r c : ℕ) (f : ℕ → ℕ → A) → fold_inside op unit r (r + 1) c (c + 1) f ≡ f r c
  unfolding fold_inside fold_rectangle fold_below
  inside_one r c f =
      let a : r + 1 - r ≡ 1 = omega arith in
      let b : c + 1 - c ≡ 1 = omega arith in
      let p : r + 0 ≡ r = omega arith in
      let q : c + 0 ≡ c = omega arith in
      rw (a, b, p, q) (j.unit_left _ ∙ j.unit_left _)

  module _ (top bottom left right : ℕ) (f : ℕ → ℕ → A) where
    -- where none of the cells counts, and where the one at r and c is the first by rows that does, and in the first row: nothing behind it
    -- changes x
    pub inside_none : ((r c : ℕ) → Inside top bottom left right r c → f r c ≡ unit) → fold_inside op unit top bottom left right f ≡ unit
    unfolding fold_inside
    inside_none e = cells_none op unit j top (bottom - top) left (right - left) f (λ i k h l. e (top + i) (left + k) (omega arith))

    pub inside_first_at :
        (r c : ℕ) (x : A) → f r c ≡ x → ((i k : ℕ) → Inside top r left right i k → f i k ≡ unit) → ((k : ℕ) → left ≤ k → k < c → f r k ≡ unit) → ((y : A) → op x y ≡ x) →
        Inside top bottom left right r c → fold_inside op unit top bottom left right f ≡ x
    unfolding fold_inside
    inside_first_at r c x q above before s h =
        let p : top + (r - top) ≡ r = omega arith in
        let z : left + (c - left) ≡ c = omega arith in
        cell_first op unit j top (bottom - top) left (right - left) (r - top) (c - left) f x (omega arith) (omega arith)
        (λ i b g t. above (top + i) (left + b) (omega arith)) (λ b g. rw p (before (left + b) (omega arith) (omega arith))) (rw (p, z) q) s

    pub inside_first :
        (c : ℕ) (x : A) → f top c ≡ x → ((k : ℕ) → left ≤ k → k < c → f top k ≡ unit) → ((y : A) → op x y ≡ x) → top < bottom → left ≤ c → c < right →
        fold_inside op unit top bottom left right f ≡ x
    inside_first c x q e s h l k = inside_first_at top c x q (λ i b g. absurd (omega arith)) e s (omega arith)

  -- cut between rows
  pub inside_under :
      (top mid bottom left right : ℕ) (f : ℕ → ℕ → A) → top ≤ mid → mid ≤ bottom →
      fold_inside op unit top bottom left right f ≡ op (fold_inside op unit top mid left right f) (fold_inside op unit mid bottom left right f)
  unfolding fold_inside
  inside_under top mid bottom left right f h k =
      let a : bottom - top ≡ (mid - top) + (bottom - mid) = omega arith in
      let b : top + (mid - top) ≡ mid = omega arith in
      rw a (rows_cut op unit j top (mid - top) (bottom - mid) left (right - left) f ∙ rw b)

  -- one row, cut between columns: no order is changed
  module _ (r : ℕ) (f : ℕ → ℕ → A) where
    pub one_row : (left right : ℕ) → fold_inside op unit r (r + 1) left right f ≡ fold_below op unit (right - left) (λ k. f r (left + k))
    unfolding fold_inside fold_rectangle fold_below
    one_row left right =
        let a : r + 1 - r ≡ 1 = omega arith in
        let z : r + 0 ≡ r = omega arith in
        rw (a, z) (j.unit_left (fold_below op unit (right - left) (λ k. f r (left + k))))

    pub row_beside :
        (left mid right : ℕ) → left ≤ mid → mid ≤ right →
        fold_inside op unit r (r + 1) left right f ≡ op (fold_inside op unit r (r + 1) left mid f) (fold_inside op unit r (r + 1) mid right f)
    row_beside left mid right h k =
        let b : right - left ≡ (mid - left) + (right - mid) = omega arith in
        let c : fold_below op unit (right - left) (λ i. f r (left + i)) ≡ op (fold_below op unit (mid - left) (λ i. f r (left + i))) (fold_below op unit (right - mid) (λ i. f r (left + ((mid - left) + i)))) =
        rw b (fold_cut op unit j (mid - left) (right - mid) (λ i. f r (left + i))) in
        let d : fold_below op unit (right - mid) (λ i. f r (left + ((mid - left) + i))) ≡ fold_below op unit (right - mid) (λ i. f r (mid + i)) =
        fold_same op unit (right - mid) _ _ (λ i l. let z : left + ((mid - left) + i) ≡ mid + i = omega arith in rw z) in
        rw (one_row left right, one_row left mid, one_row mid right) (c ∙ rw d)

  module _ (comm : (x y : A) → op x y ≡ op y x) (top bottom left : ℕ) where
    -- and between columns
    pub inside_beside :
        (mid right : ℕ) (f : ℕ → ℕ → A) → left ≤ mid → mid ≤ right →
        fold_inside op unit top bottom left right f ≡ op (fold_inside op unit top bottom left mid f) (fold_inside op unit top bottom mid right f)
    unfolding fold_inside
    inside_beside mid right f h k =
        let a : right - left ≡ (mid - left) + (right - mid) = omega arith in
        let b : left + (mid - left) ≡ mid = omega arith in
        rw a (columns_cut op unit j comm top (bottom - top) left (mid - left) (right - mid) f ∙ rw b)

    -- two joined cell by cell
    pub inside_both :
        (right : ℕ) (f g : ℕ → ℕ → A) →
        fold_inside op unit top bottom left right (λ r c. op (f r c) (g r c)) ≡ op (fold_inside op unit top bottom left right f) (fold_inside op unit top bottom left right g)
    unfolding fold_inside fold_rectangle
    inside_both right f g = fold_same op unit (bottom - top) _ _ (λ i h. fold_both op unit j comm (right - left) _ _) ∙ fold_both op unit j comm (bottom - top) _ _

    -- one that is among them already changes nothing, where none does twice
    pub inside_absorbs :
        (right : ℕ) (f : ℕ → ℕ → A) → ((x : A) → op x x ≡ x) → (r c : ℕ) → Inside top bottom left right r c →
        op (fold_inside op unit top bottom left right f) (f r c) ≡ fold_inside op unit top bottom left right f
    unfolding fold_inside fold_rectangle
    inside_absorbs right f d r c h =
        let p : top + (r - top) ≡ r = omega arith in
        let q : left + (c - left) ≡ c = omega arith in
        let row : ℕ → A = λ i. fold_below op unit (right - left) (λ k. f (top + i) (left + k)) in
        let all : A = fold_below op unit (bottom - top) row in
        let b : op all (row (r - top)) ≡ all = fold_absorbs op unit j comm d (bottom - top) row (r - top) (omega arith) in
        let g : op (row (r - top)) (f (top + (r - top)) (left + (c - left))) ≡ row (r - top) =
        fold_absorbs op unit j comm d (right - left) (λ k. f (top + (r - top)) (left + k)) (c - left) (omega arith) in
        let e : op (op all (row (r - top))) (f (top + (r - top)) (left + (c - left))) ≡ all = j.assoc _ _ _ ∙ ap (op all) g ∙ b in
        rw (p, q) at (ap (λ (x : A). op x (f (top + (r - top)) (left + (c - left)))) (sym b) ∙ e)

-- a part of what is joined
module _ {A B : Type 0} (op : A → A → A) (unit : A) (op2 : B → B → B) (unit2 : B) (part : A → B) (p : part unit ≡ unit2) where
  pub inside_part :
      ((x y : A) → part (op x y) ≡ op2 (part x) (part y)) → (top bottom left right : ℕ) (f : ℕ → ℕ → A) →
      part (fold_inside op unit top bottom left right f) ≡ fold_inside op2 unit2 top bottom left right (λ r c. part (f r c))
  unfolding fold_inside fold_rectangle
  inside_part q top bottom left right f =
      fold_part op unit op2 unit2 part p q (bottom - top) _
      ∙ fold_same op2 unit2 (bottom - top) _ _ (λ i h. fold_part op unit op2 unit2 part p q (right - left) _)

-- one for each cell
pub inside_ones :
    (top bottom left right : ℕ) (f : ℕ → ℕ → ℕ) → ((r c : ℕ) → Inside top bottom left right r c → f r c ≡ 1) →
    fold_inside ◌+◌ 0 top bottom left right f ≡ (bottom - top) * (right - left)
unfolding fold_inside fold_rectangle
inside_ones top bottom left right f e =
    fold_alike (bottom - top) (right - left) _
    (λ i h. fold_alike (right - left) 1 _ (λ k l. e (top + i) (left + k) (omega arith)) ∙ omega arith)

pub inside_some :
    (top bottom left right : ℕ) (f : ℕ → ℕ → ℕ) → 1 ≤ fold_inside ◌+◌ 0 top bottom left right f →
    (r : ℕ) × (c : ℕ) × Inside top bottom left right r c × (1 ≤ f r c)
unfolding fold_inside fold_rectangle
inside_some top bottom left right f h =
    let y = sum_some (bottom - top) _ h in
    let z = sum_some (right - left) _ y.2 in
    (top + y.0, left + z.0, omega arith, z.2)
