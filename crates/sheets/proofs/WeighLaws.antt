-- The greatest weight, a cell, a row and a piece at a time. Assumes nothing.
use Rattle.std.specs.Prelude.{Ok, Result, ⊤}
use Rattle.answer.specs.declared.Refusal.{Refusal}
use Prim.Native.Nat.{ℕ, max, ◌+◌, ◌-◌, ◌*◌, ◌≤◌, ◌<◌}
use mathlib.Core.Path.{◌≡◌, sym, ap₂, ◌∙◌}
use mathlib.Core.List.{List}
use native.Mathlib.Omega.{arith}
use native.Mathlib.Nat.{mul-le-mul}
use Rattle.wire.specs.Pick.{pick}
use Rattle.blocks.specs.Tables.{Inside}
use Rattle.blocks.specs.Walks.{Begins, Follows, fold_passed}
use Rattle.blocks.proofs.InsideLaws.{inside_one, inside_none, inside_under, inside_beside}
use Rattle.blocks.proofs.WalkLaws.{passed_none, passed_more, passed_all}
use Rattle.answer.specs.declared.Cell.{Cell}
use Rattle.sheets.specs.Back.{fault, score_cell}
use Rattle.sheets.specs.First.{is_fault, weight, heaviest}
use Rattle.sheets.specs.Rows.{grid_fault, Sides}
use Rattle.sheets.proofs.FirstLaws.{greatest}

-- what is left behind a row, and behind a cell

pub behind_cell : (rows columns r c : ℕ) → r < rows → c < columns → (rows - r) * columns - c ≡ rows * columns - (r * columns + c)
behind_cell rows columns r c h k =
    let e : rows * columns ≡ (rows - r + r) * columns = let z : rows - r + r ≡ rows = omega arith in rw z in
    omega arith

pub behind_small : (rows columns r : ℕ) → Sides rows columns → (rows - r) * columns ≤ 4294836225
behind_small rows columns r s = let p : rows - r ≤ 65535 = omega (arith, s.rows_few) in mul-le-mul p s.columns_few

pub behind_holds : (rows columns r c : ℕ) → r < rows → c < columns → c ≤ (rows - r) * columns
behind_holds rows columns r c h k = let e : 1 * columns ≤ (rows - r) * columns = mul-le-mul (omega arith) (omega arith) in omega arith

module _ (rows columns : ℕ) (g : ℕ → ℕ → Result ⊤ Refusal) where
  pub heavy_none : (top bottom left right : ℕ) → ((r c : ℕ) → Inside top bottom left right r c → g r c ≡ Ok tt) → 0 ≡ heaviest rows columns g top bottom left right
  unfolding heaviest weight is_fault
  heavy_none top bottom left right f = sym (inside_none max 0 greatest top bottom left right (weight rows columns g) (λ r c h. rw (f r c h)))

  pub heavy_more :
      (r left c w v x : ℕ) → w ≡ heaviest rows columns g r (r + 1) left c → v ≡ pick (is_fault (g r c)) (rows * columns - (r * columns + c)) 0 → x ≡ max w v → left ≤ c →
      x ≡ heaviest rows columns g r (r + 1) left (c + 1)
  unfolding heaviest weight
  heavy_more r left c w v x p q e h =
      e ∙ ap₂ max p (q ∙ sym (inside_one max 0 greatest r c (weight rows columns g)))
      ∙ sym (inside_beside max 0 greatest (λ y z. omega arith) r (r + 1) left c (c + 1) (weight rows columns g) h (omega arith))

  pub heavy_under :
      (top left right r w v x : ℕ) → w ≡ heaviest rows columns g top r left right → v ≡ heaviest rows columns g r (r + 1) left right → x ≡ max w v → top ≤ r →
      x ≡ heaviest rows columns g top (r + 1) left right
  unfolding heaviest
  heavy_under top left right r w v x p q e h = e ∙ ap₂ max p q ∙ sym (inside_under max 0 greatest top r (r + 1) left right (weight rows columns g) h (omega arith))

  pub heavy_ends : (top bottom left right r c w : ℕ) → w ≡ heaviest rows columns g top r left c → r ≡ bottom → c ≡ right → w ≡ heaviest rows columns g top bottom left right
  heavy_ends top bottom left right r c w p e f = rw (← e, ← f) p

  -- the pieces of a walk

  unfoldable pub heavy_passed : ℕ → ℕ → ℕ → ℕ
  heavy_passed top bottom left = fold_passed max 0 0 columns top bottom left (weight rows columns g)

  pub heavy_begins : (top bottom left : ℕ) → Begins 0 columns top left → 0 ≡ heavy_passed top bottom left
  unfolding heavy_passed
  heavy_begins top bottom left b = sym (passed_none max 0 greatest 0 columns (weight rows columns g) top bottom left b)

  pub heavy_walks :
      (top bottom left right top2 bottom2 left2 w v x : ℕ) → Follows columns top bottom left right top2 bottom2 left2 → w ≡ heavy_passed top bottom left →
      v ≡ heaviest rows columns g top bottom left right → x ≡ max w v → x ≡ heavy_passed top2 bottom2 left2
  unfolding heavy_passed heaviest
  heavy_walks top bottom left right top2 bottom2 left2 w v x f p q e =
      e ∙ ap₂ max p q ∙ passed_more max 0 greatest 0 columns (weight rows columns g) top bottom left (λ y z. omega arith) right top2 bottom2 left2 f (omega arith)

  pub heavy_all : (top bottom left w : ℕ) → w ≡ heavy_passed top bottom left → top ≡ rows → left ≡ 0 → w ≡ heaviest rows columns g 0 rows 0 columns
  unfolding heavy_passed heaviest
  heavy_all top bottom left w p e z = p ∙ passed_all max 0 greatest 0 columns (weight rows columns g) top bottom left rows e z

-- a cell that is read weighs as the grid's
pub cell_weighs :
    (s : List ℕ) (k rows columns r c : ℕ) (x y : Result Cell Refusal) (v n : ℕ) → x ≡ y → y ≡ score_cell s k r c → v ≡ pick (is_fault (fault x)) n 0 → n ≡ rows * columns - (r * columns + c) →
    v ≡ pick (is_fault (grid_fault s k r c)) (rows * columns - (r * columns + c)) 0
unfolding grid_fault
cell_weighs s k rows columns r c x y v n p q e f = e ∙ rw (p, q, f)
