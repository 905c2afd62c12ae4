-- Pieces of the rectangle in the order of their tiles, and the first refusal by rows. Assumes nothing.
use Rattle.std.specs.Prelude.{Err, Ok, Result, ⊤}
use Prim.Native.Nat.{ℕ, ◌+◌, ◌-◌, ◌*◌, ◌≤◌, ◌<◌}
use mathlib.Core.Path.{◌≡◌, refl, sym, ap, ◌∙◌}
use mathlib.Core.List.{List}
use native.Mathlib.Omega.{arith}
use native.Mathlib.Nat.{mul-le-mul}
use Rattle.answer.specs.declared.Refusal.{Refusal}
use Rattle.answer.specs.declared.Cell.{Cell}
use Rattle.answer.specs.declared.Held.{Held}
use Rattle.answer.specs.Refusals.{unless_refused}
use Rattle.answer.specs.Answers.{cell_kind, cell_verdict}
use Rattle.store.specs.declared.many.Rectangle.{Rectangle}
use Rattle.store.specs.declared.pieces.Piece.{Piece}
use Rattle.store.specs.Face.{most_grid_side, held_cell, Accepts, AtPiece, Numbered, Answered}
use Rattle.store.proofs.PieceLaws.{rectangle_small, piece_alike}
use Rattle.blocks.specs.Tables.{Inside}
use Rattle.blocks.specs.Folds.{Joins}
use Rattle.blocks.specs.Walks.{Follows, Clear}
use Rattle.blocks.proofs.InsideLaws.{inside_moved}
use Rattle.blocks.proofs.WalkLaws.{clear_first, clear_all, clear_more}
use Rattle.deeds.specs.declared.Rule.{Rule}
use Rattle.deeds.specs.declared.tally.Tally.{Tally}
use Rattle.deeds.specs.Deeds.{refusal_in, cells_of}
use Rattle.deeds.specs.Tallies.{fill_tally, cell_tally, join_tally, tally_in, tally_passed, numbered_tally, judged_by, judged_in}
use Rattle.deeds.proofs.TallyLaws.{tally_walks, tally_all, tally_room}

-- the first of two refusals

pub verdicts : Joins (unless_refused Err) (Ok tt)
unfolding unless_refused
verdicts = record { unit_left = λ x. refl; unit_right = right; assoc = assoc }
  where
    right : (x : Result ⊤ Refusal) → unless_refused Err x (Ok tt) ≡ x
    right (Ok accepted) = refl
    right (Err r) = refl

    assoc :
        (x y z : Result ⊤ Refusal) →
        unless_refused Err (unless_refused Err x y) z ≡ unless_refused Err x (unless_refused Err y z)
    assoc (Ok accepted) y z = refl
    assoc (Err r) y z = refl

pub stays : (r : Refusal) (y : Result ⊤ Refusal) → unless_refused Err (Err r) y ≡ Err r
unfolding unless_refused
stays r y = refl

-- what is counted, or refused, says which verdict it was

pub judged_refused : (v : Result ⊤ Refusal) (t : Tally) (r : Refusal) → judged_by v t ≡ Err r → v ≡ Err r
unfolding judged_by unless_refused
judged_refused (Ok accepted) t r e = let z : ◌≡◌ {A = ℕ} 0 1 = cc in absurd (omega arith)
judged_refused (Err q) t r e = cc

judged_tallied : (v : Result ⊤ Refusal) (t u : Tally) → judged_by v t ≡ Ok u → (v ≡ Ok tt) × (u ≡ t)
unfolding judged_by unless_refused
judged_tallied (Ok accepted) t u e = (refl, cc)
judged_tallied (Err q) t u e = let z : ◌≡◌ {A = ℕ} 0 1 = cc in absurd (omega arith)

refuses : (v : Result ⊤ Refusal) (t : Tally) (r : Refusal) → v ≡ Err r → Err r ≡ judged_by v t
unfolding judged_by unless_refused
refuses v t r e = rw e

counts : (v : Result ⊤ Refusal) (t u : Tally) → v ≡ Ok tt → u ≡ t → Ok u ≡ judged_by v t
unfolding judged_by unless_refused
counts v t u e f = rw (e, f)

-- a cell of a piece, as it is held

pub answered_cell :
    (s : List ℕ) (ci : ℕ) (a : Rectangle) (p : Piece) (h : Result Held Refusal) (m : List ℕ) (r c : ℕ) (x : Result Cell Refusal) → x ≡ held_cell s ci h m (a.row + r) (a.column + c) a.e →
    Answered s ci a p h m → Inside p.top p.bottom p.left p.right r c → x ≡ cells_of s ci a.e a.row a.column r c
unfolding cells_of
answered_cell s ci a p h m r c x e n i = e ∙ n.each r c i

pub numbered_tally_lem :
    (s : List ℕ) (ci : ℕ) (a : Rectangle) (h : Result Held Refusal) (m : List ℕ) (rule : Rule) (kind fill tile start r left right : ℕ) (t : Tally) →
    t ≡ numbered_tally rule s kind fill h m tile start (right - left) → Numbered s ci a h m kind fill tile start r left right →
    t ≡ tally_in rule r (r + 1) left right (cells_of s ci a.e a.row a.column)
unfolding numbered_tally tally_in cells_of
numbered_tally_lem s ci a h m rule kind fill tile start r left right t e n =
    e
    ∙ inside_moved join_tally (fill_tally 0) 0 1 0 (right - left) r (r + 1) left right _ _ (omega arith) (omega arith)
    (λ i k u v.
    let x : r + i ≡ r = omega arith in
    let y : start + (0 + k) ≡ start + (left + k - left) = omega arith in
    rw (x, y) (ap (cell_tally rule) (n.each (left + k) (omega arith) (omega arith))))

-- what was counted, and that nothing was refused
pub counted : (v : Result ⊤ Refusal) (t u : Tally) (x : Result Tally Refusal) → x ≡ judged_by v t → x ≡ Ok u → (v ≡ Ok tt) × (u ≡ t)
counted v t u x e q = judged_tallied v t u (sym e ∙ q)

-- how many cells a piece has
pub area_small : (s : List ℕ) (a : Rectangle) (p : Piece) → Accepts s a → AtPiece s a p → (p.bottom - p.top) * (p.right - p.left) ≤ most_grid_side * most_grid_side
area_small s a p g o =
    let m = rectangle_small s a g in
    let i = o.sides in
    let u : p.bottom - p.top ≤ most_grid_side = omega arith in
    let v : p.right - p.left ≤ most_grid_side = omega arith in
    mul-le-mul u v

-- the cells of a piece are as its first

module _ (s : List ℕ) (ci : ℕ) (a : Rectangle) (p : Piece) (g : Accepts s a) (o : AtPiece s a p) where
  abbrev cell : ℕ → ℕ → Result Cell Refusal
  cell = cells_of s ci a.e a.row a.column

  pub first_cell :
      (h : Result Held Refusal) (m : List ℕ) (x : Result Cell Refusal) → x ≡ held_cell s ci h m (a.row + p.top) (a.column + p.left) a.e → Answered s ci a p h m → x ≡ cell p.top p.left
  first_cell h m x e n = let i = o.sides in answered_cell s ci a p h m p.top p.left x e n (omega arith)

  pub piece_kind :
      (k : ℕ) → k ≡ cell_kind (cell p.top p.left) → k ≡ 33 → (r c : ℕ) → Inside p.top p.bottom p.left p.right r c → cell_kind (cell r c) ≡ 33
  unfolding cells_of
  piece_kind k e h r c j = (piece_alike s ci a p g o r c j).kind ∙ sym e ∙ h

  piece_accepted :
      cell_verdict (cell p.top p.left) ≡ Ok tt → (r c : ℕ) → Inside p.top p.bottom p.left p.right r c → cell_verdict (cell r c) ≡ Ok tt
  unfolding cells_of
  piece_accepted e r c j = (piece_alike s ci a p g o r c j).verdict ∙ e

  -- where it is refused, it is the first by rows

  module _
      (rule : Rule) (x : Result Tally Refusal)
      (e : x ≡ judged_by (cell_verdict (cell p.top p.left)) (tally_in rule p.top p.bottom p.left p.right cell))
      (k : Clear (Ok tt) 0 a.columns p.top p.bottom p.left (λ r c. cell_verdict (cell r c)))
    where
      pub walk_refused : (r : Refusal) → x ≡ Err r → Err r ≡ judged_in rule 0 a.rows 0 a.columns cell
      unfolding judged_in refusal_in
      walk_refused r q =
          let i = o.sides in
          refuses _ _ r
          (clear_first (unless_refused Err) (Ok tt) verdicts 0 a.columns _ p.top p.bottom p.left k a.rows (Err r)
          (judged_refused _ _ r (sym e ∙ q)) (stays r) (omega arith) i.0 (omega arith) (omega arith))

      -- where it is counted, it is counted with those before it

      module _ (t u : Tally) (q : x ≡ Ok u) (d : t ≡ tally_passed rule a.columns p.top p.bottom p.left cell) where
        pub walk_fits : t.fills + u.fills < 18446744073709551616
        walk_fits =
            let i = o.sides in
            let m = rectangle_small s a g in
            tally_room rule cell a.columns p.top p.bottom p.left t d p.right u (counted _ _ u x e q).1 (omega arith) (omega arith) (omega arith) (omega arith) i.1.1.1

        pub walk_more :
            {top2 bottom2 left2 : ℕ} (v : Tally) → v ≡ join_tally t u → Follows a.columns p.top p.bottom p.left p.right top2 bottom2 left2 →
            Clear (Ok tt) 0 a.columns top2 bottom2 left2 (λ r c. cell_verdict (cell r c)) × (v ≡ tally_passed rule a.columns top2 bottom2 left2 cell)
        walk_more v h w =
            let z = counted _ _ u x e q in
            (clear_more w k (piece_accepted z.0), tally_walks rule cell a.columns p.top p.bottom p.left t d u v w z.1 h)

-- all of them are counted
pub walk_counted :
    (f : ℕ → ℕ → Result Cell Refusal) (rule : Rule) (n rows top bottom left : ℕ) (t : Tally) → Clear (Ok tt) 0 n top bottom left (λ r c. cell_verdict (f r c)) →
    t ≡ tally_passed rule n top bottom left f → top ≡ rows → left ≡ 0 → top ≤ bottom → Ok t ≡ judged_in rule 0 rows 0 n f
unfolding judged_in refusal_in
walk_counted f rule n rows top bottom left t k d e z h =
    counts _ _ t (clear_all (unless_refused Err) (Ok tt) verdicts 0 n _ top bottom left k rows e h) (tally_all rule f n top bottom left t d rows e z)

-- a piece, by its first cell

module _ (v : Result ⊤ Refusal) (x y : Result Cell Refusal) (t : Tally) (e : v ≡ cell_verdict x) (d : x ≡ y) where
  pub tile_refused : (r : Refusal) → v ≡ Err r → Err r ≡ judged_by (cell_verdict y) t
  tile_refused r h = refuses _ _ r (sym (e ∙ ap cell_verdict d) ∙ h)

  pub tile_counted_lem : (u : Tally) → v ≡ Ok tt → u ≡ t → Ok u ≡ judged_by (cell_verdict y) t
  tile_counted_lem u h k = counts _ _ u (sym (e ∙ ap cell_verdict d) ∙ h) k

-- what was counted of an area by rows
pub counted_in :
    (f : ℕ → ℕ → Result Cell Refusal) (rule : Rule) (top bottom left right : ℕ) (u : Tally) (x : Result Tally Refusal) → x ≡ judged_in rule top bottom left right f → x ≡ Ok u →
    (refusal_in top bottom left right f ≡ Ok tt) × (u ≡ tally_in rule top bottom left right f)
unfolding judged_in
counted_in f rule top bottom left right u x e q = counted _ _ u x e q
