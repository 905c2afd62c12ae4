-- The cells of a piece as they are read, and those of a tile that is absent. Assumes nothing.
use Rattle.std.specs.Prelude.{Err, Ok, Result, ⊤}
use Prim.Native.Nat.{ℕ, ◌+◌, ◌-◌, ◌*◌, ◌%◌, ◌≤◌, ◌<◌}
use mathlib.Core.Path.{◌≡◌, refl, sym, ap, ◌∙◌}
use mathlib.Core.List.{List}
use mathlib.Core.Bool.{Bool, true, false}
use native.Mathlib.Omega.{arith}
use native.Mathlib.Numerals.{add-one}
use lib.Dec.{eqb}
use lib.ListN.{length}
use borrow.Author.Tests.{eqb-false, ne_eqb}
use Rattle.wire.specs.Pick.{pick}
use Rattle.wire.specs.Bytes.{number_at}
use Rattle.wire.specs.Tests.{both, passes, all_below}
use Rattle.wire.proofs.TestLaws.{not_both, below_each}
use Rattle.blocks.specs.Tables.{Inside}
use Rattle.score_sheets.specs.Sheet.{score_right}
use Rattle.answer.specs.declared.Refusal.{Refusal}
use Rattle.answer.specs.declared.Refusal.TheVariants.{Input}
use Rattle.answer.specs.declared.Cell.{Cell}
use Rattle.answer.specs.declared.Held.{Held}
use Rattle.answer.specs.declared.Held.TheVariants as held
use Rattle.answer.specs.Refusals.{gate, unless_refused}
use Rattle.answer.specs.Values.{value_of, value_bits}
use Rattle.answer.specs.Answers.{held_kind, cell_bits, cell_verdict}
use Rattle.answer.proofs.ValueLaws.{short_bits_kept}
use Rattle.store.specs.declared.many.Rectangle.{Rectangle}
use Rattle.store.specs.declared.pieces.Piece.{Piece}
use Rattle.store.specs.Face.{tile_columns, element_count, tile_count, element, check, meaning, held_cell, numbered_cell, Holds, Accepts, AtPiece, Answered}
use Rattle.store.proofs.PieceLaws.{answered_piece, start_small, rectangle_small, numbered_absent, numbered_stored}
use Rattle.lay_down.specs.Sheet.{score_element}
use Rattle.lay_down.proofs.SheetLaws.{score_of_lem}
use Rattle.sheets.specs.Back.{fault, score_cell}
use Rattle.sheets.specs.First.{is_fault}
use Rattle.sheets.specs.Rows.{AtOrigin, is_absent, grid_fault, Reads, StoredRun, run_right, CleanRun, StoredRow}

-- a cell told

pub told_alone : (x : Result Held Refusal) (n : ℕ) (y z : Result Cell Refusal) → n ≡ held_kind x → n ≡ 0 → y ≡ pick (eqb (held_kind x) 0) y z
told_alone x n y z e f = let g : held_kind x ≡ 0 = sym e ∙ f in rw g

pub told_numbered : (x : Result Held Refusal) (n : ℕ) (y z : Result Cell Refusal) → n ≡ held_kind x → (n ≡ 0 → ⊥) → z ≡ pick (eqb (held_kind x) 0) y z
told_numbered x n y z e f = let g : eqb (held_kind x) 0 ≡ false = ne_eqb (held_kind x) 0 (λ h. f (e ∙ h)) in rw g

-- a fault

module _ (x : Result Cell Refusal) (v : Result ⊤ Refusal) (p : v ≡ cell_verdict x) where
  pub fault_refused : (r : Refusal) → v ≡ Err r → Err r ≡ fault x
  unfolding fault unless_refused
  fault_refused r e = rw (← p, e)

  module _ (q : v ≡ Ok tt) (n : ℕ) (b : Bool) (i : n ≡ cell_bits x) (j : b ≡ score_right n) where
    pub fault_none : b ≡ true → Ok tt ≡ fault x
    unfolding fault unless_refused gate
    fault_none e = rw (← p, q, ← i, ← j, e)

    pub fault_score : b ≡ false → Err Input ≡ fault x
    unfolding fault unless_refused gate
    fault_score e = rw (← p, q, ← i, ← j, e)

pub no_weight : (v : Result ⊤ Refusal) (n : ℕ) → v ≡ Ok tt → 0 ≡ pick (is_fault v) n 0
unfolding is_fault
no_weight v n e = rw e

pub some_weight : (v : Result ⊤ Refusal) (n : ℕ) (r : Refusal) → v ≡ Err r → n ≡ pick (is_fault v) n 0
unfolding is_fault
some_weight v n r e = rw e

-- a fill of -1
filled :
    (x : Result Cell Refusal) (h : Result Held Refusal) → h ≡ Ok held.Absent → (kind fill : ℕ) → kind ≡ 3 → fill ≡ 65535 → (t i : ℕ) (m s : List ℕ) → numbered_cell s kind fill m t i h ≡ x →
    (cell_bits x ≡ 65535) × (fault x ≡ Ok tt)
unfolding fault unless_refused gate score_right
filled x h e kind fill p q t i m s d =
    let b : value_bits (value_of 3 65535) ≡ 65535 = short_bits_kept 3 65535 refl (omega arith) in
    let z : numbered_cell s 3 65535 m t i (Ok held.Absent) ≡ x = rw (e, p, q) at d in
    let y = numbered_absent s 3 65535 m t i in
    let u : cell_bits x ≡ 65535 = ap cell_bits (sym z) ∙ y.0 ∙ b in
    let v : cell_verdict x ≡ Ok tt = ap cell_verdict (sym z) ∙ y.1 in
    (u, rw (v, u))

-- what is held of the tile of a piece answers for it
pub answered_here :
    (s : List ℕ) (k : ℕ) (a : Rectangle) (p : Piece) (x : Result Held Refusal) (m : List ℕ) → AtOrigin a →
    (check s ≡ Ok tt → p.tile < tile_count s → 0 < element_count s → Holds s k p.tile 0 x m) → Accepts s a → AtPiece s a p → Answered s k a p x m
answered_here s k a p x m o h g at = answered_piece s k a p x m (rw o.0 h) g at

-- a row of a piece of the grid

module _ (s : List ℕ) (k : ℕ) (a : Rectangle) (p : Piece) (x : Result Held Refusal) (m : List ℕ) (g : Accepts s a) (o : AtOrigin a) (at : AtPiece s a p) (w : Answered s k a p x m) where
  cell_at : (r c : ℕ) → meaning s k (a.row + r) (a.column + c) a.e ≡ score_cell s k r c
  unfolding score_cell
  cell_at r c = let y : 0 + r ≡ r = omega arith in let z : 0 + c ≡ c = omega arith in rw (o.0, o.1.0, o.1.1, y, z)

  cell_alone : (r c : ℕ) → Inside p.top p.bottom p.left p.right r c → held_cell s k x m r c 0 ≡ score_cell s k r c
  cell_alone r c i =
      let y : 0 + r ≡ r = omega arith in
      let z : 0 + c ≡ c = omega arith in
      let e : held_cell s k x m (a.row + r) (a.column + c) a.e ≡ held_cell s k x m r c 0 = rw (o.0, o.1.0, o.1.1, y, z) in
      sym e ∙ w.each r c i ∙ cell_at r c

  pub row_read :
      (r kind fill start across : ℕ) → across ≡ tile_columns s → start ≡ p.inside + (r - p.top) * across → kind ≡ (element s 0).kind → fill ≡ (element s 0).fill →
      p.top ≤ r → r < p.bottom → Reads s k x m kind fill p.tile start r p.left p.right
  row_read r kind fill start across b e f h i j =
      record {
        small = let q = rectangle_small s a g in omega (arith, start_small s a p r across g at b i j, at.sides, q);
        each = λ c l n. go c l n (eqb (held_kind x) 0) refl;
      }
    where
      go :
          (c : ℕ) → p.left ≤ c → c < p.right → (y : Bool) → eqb (held_kind x) 0 ≡ y →
          pick y (held_cell s k x m r c 0) (numbered_cell s kind fill m p.tile (start + (c - p.left)) x) ≡ score_cell s k r c
      go c l n true z = cell_alone r c (record { from_top = i; to_bottom = j; from_left = l; to_right = n })
      go c l n false z =
          let u : start ≡ p.inside + (r - p.top) * tile_columns s = e ∙ rw b in
          let v : element s a.e ≡ element s 0 = ap (element s) o.0 in
          let d = (w.numbered (eqb-false _ _ z) r i j).each c l n in
          rw (u, f, h, ← v) d ∙ cell_at r c

  -- in an absent tile each cell is -1

  absent_is : is_absent x ≡ true → x ≡ Ok held.Absent
  absent_is e = which x e
    where
      which : (y : Result Held Refusal) → is_absent y ≡ true → y ≡ Ok held.Absent
      which (Ok (held.Stored n)) z = not_both z refl
      which (Ok (held.Unpacked n)) z = not_both z refl
      which (Ok held.Absent) z = refl
      which (Ok held.Alone) z = not_both z refl
      which (Err r) z = not_both z refl

  pub absent_cell :
      is_absent x ≡ true → score_element s ≡ true → (r c : ℕ) → Inside p.top p.bottom p.left p.right r c →
      (cell_bits (score_cell s k r c) ≡ 65535) × (grid_fault s k r c ≡ Ok tt)
  unfolding grid_fault
  absent_cell b e r c i =
      let y = absent_is b in
      let n : held_kind x ≡ 0 → ⊥ = λ z. let u : held_kind x ≡ 33 = ap held_kind y in omega arith in
      let d = (w.numbered n r i.from_top i.to_bottom).each c i.from_left i.to_right ∙ cell_at r c in
      filled (score_cell s k r c) x y (element s a.e).kind (element s a.e).fill (rw o.0 (score_of_lem s e).short) (rw o.0 (score_of_lem s e).unread) _ _ m s d

-- cells that are stored one behind the other

pub short_read : (v n : ℕ) → v ≡ n → v < 65536 → v ≡ n % 65536
short_read v n e h = omega arith

module _ (a b r : Bool) (e : r ≡ b) where
  pub right_still : r ≡ true → a ≡ both a b
  right_still f = go a
    where
      go : (x : Bool) → x ≡ both x b
      go true = sym f ∙ e
      go false = refl

  pub right_lost : r ≡ false → false ≡ both a b
  right_lost f = go a
    where
      go : (x : Bool) → false ≡ both x b
      go true = sym f ∙ e
      go false = refl

module _ (s : List ℕ) (from : ℕ) where
  pub run_none : true ≡ run_right s from 0
  unfolding run_right all_below
  run_none = refl

  pub run_next : (n v : ℕ) (a r : Bool) → r ≡ both a (score_right v) → v ≡ number_at 2 s (from + 2 * n) % 65536 → a ≡ run_right s from n → r ≡ run_right s from (n + 1)
  unfolding run_right all_below passes
  run_next n v a r e f g = e ∙ rw (f, g, add-one) (go (all_below n (λ i. score_right (number_at 2 s (from + 2 * i) % 65536))) (score_right (number_at 2 s (from + 2 * n) % 65536)))
    where
      go : (x y : Bool) → both x y ≡ both x (both y true)
      go true true = refl
      go true false = refl
      go false y = refl

  pub run_all : (n i : ℕ) (a : Bool) → a ≡ run_right s from i → i ≤ n → n ≤ i → a ≡ run_right s from n
  run_all n i a e h k = let m : n ≡ i = omega arith in rw m e

  run_each : (n i : ℕ) → run_right s from n ≡ true → i < n → score_right (number_at 2 s (from + 2 * i) % 65536) ≡ true
  unfolding run_right
  run_each n i e h = below_each n (λ j. score_right (number_at 2 s (from + 2 * j) % 65536)) e i h

pub stored_here :
    (s : List ℕ) (x : Result Held Refusal) (kind start n from content : ℕ) → x ≡ Ok (held.Stored content) → kind ≡ 3 →
    (1 ≤ from → (content + 1 ≤ length s) × ((from ≡ content + 2 * start) × (from + 2 * n ≤ length s))) → 1 ≤ from → StoredRun s x kind start n from
stored_here s x kind start n from content e k w h =
    let y = w h in
    record { content = content; stored = e; short = k; there = y.0; begins = y.1.0; whole = y.1.1 }

module _ (s : List ℕ) (k : ℕ) (x : Result Held Refusal) (m : List ℕ) (kind fill tile start r left right : ℕ) (t : Reads s k x m kind fill tile start r left right) where
  run_cell :
      (from : ℕ) → StoredRun s x kind start (right - left) from → (c : ℕ) → left ≤ c → c < right →
      (number_at 2 s (from + 2 * (c - left)) % 65536 ≡ cell_bits (score_cell s k r c)) × (cell_verdict (score_cell s k r c) ≡ Ok tt)
  run_cell from w c l n =
      let d = t.each c l n in
      let e : numbered_cell s 3 fill m tile (start + (c - left)) (Ok (held.Stored w.content)) ≡ score_cell s k r c = rw (w.stored, w.short) at d in
      let y = numbered_stored s fill m tile (start + (c - left)) w.content w.there in
      let z : from + 2 * (c - left) ≡ w.content + 2 * (start + (c - left)) = omega (arith, w.begins) in
      (ap (λ (p : ℕ). number_at 2 s p % 65536) z ∙ sym y.0 ∙ ap cell_bits e, sym (ap cell_verdict e) ∙ y.1)

  pub run_row : (from : ℕ) → StoredRun s x kind start (right - left) from → StoredRow s k from r left right
  run_row from w = record { whole = w.whole; each = λ c l n. (run_cell from w c l n).0 }

  pub clean_row : CleanRun s x kind start (right - left) → (i c : ℕ) → Inside r (r + 1) left right i c → grid_fault s k i c ≡ Ok tt
  unfolding grid_fault
  clean_row w i c h =
      let e : i ≡ r = omega (arith, h.from_top, h.to_bottom) in
      let y = run_cell w.from w.run c h.from_left h.to_right in
      let b = run_each s w.from (right - left) (c - left) w.right (omega (arith, h.from_left, h.to_right)) in
      let u : score_right (cell_bits (score_cell s k r c)) ≡ true = ap score_right (sym y.0) ∙ b in
      ap (λ (j : ℕ). fault (score_cell s k j c)) e ∙ sym (fault_none (score_cell s k r c) (Ok tt) (sym y.1) refl (cell_bits (score_cell s k r c)) true refl (sym u) refl)
