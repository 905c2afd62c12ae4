-- A sheet moved there and back has the same bytes. Assumes nothing.
use Rattle.std.specs.Prelude.{Err, Ok, Result}
use Rattle.answer.specs.declared.Refusal.{Refusal}
use Prim.Native.Nat.{ℕ, zero, suc, ◌+◌, ◌*◌, ◌<◌}
use mathlib.Core.Path.{◌≡◌, refl, sym, ap, ap₂, ◌∙◌}
use mathlib.Core.List.{List, ◌++◌, flat_map}
use mathlib.Core.Bool.{Bool, true, false}
use native.Mathlib.Omega.{arith}
use lib.ListN.{length}
use lib.Dec.{leb}
use Rattle.wire.specs.Pick.{pick}
use Rattle.wire.specs.Tests.{both, passes}
use Rattle.wire.specs.Bytes.{Bytes}
use Rattle.wire.specs.Big.{big_of}
use Rattle.wire.proofs.TestLaws.{means, yes, below_each}
use Rattle.wire.proofs.RunLaws.{below_alike}
use Rattle.blocks.specs.Tables.{tabled}
use Rattle.blocks.proofs.TableLaws.{place_less}
use Rattle.blocks.proofs.InsideLaws.{inside_none}
use Rattle.score_sheets.specs.Sheet.{sheet_rows, sheet_columns, score_right, sheet_right, sheet_head, sheet_bytes}
use Rattle.score_sheets.proofs.WholeLaws.{read}
use Rattle.answer.specs.declared.Cell.{Cell}
use Rattle.answer.specs.declared.Refusal.TheVariants.{Room}
use Rattle.answer.specs.Refusals.{gate, unless_refused}
use Rattle.answer.specs.Answers.{cell_bits, cell_verdict}
use Rattle.header.specs.Fields.{grid_rows, grid_columns}
use Rattle.cells.specs.Meaning.{meaning}
use Rattle.score_rule.specs.Rules.{page_says}
use Rattle.lay_down.specs.Sheet.{score_element, sheet_file}
use Rattle.sheets.specs.Back.{is_first, sheetable, fault, fault_in, score_cell, sheet_of, sheet_length, judged_out, sheet_back}
use Rattle.sheets.proofs.FirstLaws.{verdicts}
use Rattle.sheet_moves.specs.Moves.{ScoresKept, ThereAndBack}
use Rattle.sheet_moves.proofs.KeptLaws.{Moved, moved_of, no_rule, fitting, one, page_kept, no_metadata, reads, cell_said}

-- only the numbers inside a table count
pub table_alike : (m n : ℕ) (f g : ℕ → ℕ → ℕ) → ((r c : ℕ) → r < m → c < n → f r c ≡ g r c) → tabled m n f ≡ tabled m n g
unfolding tabled
table_alike zero n f g e = refl
table_alike (suc m) n f g e =
    ap₂ (λ (x y : List ℕ). x ++ y) (table_alike m n f g (λ r c h k. e r c (omega arith) k)) (below_alike (f m) (g m) n (λ c k. e m c (omega arith) k))

pub sheet_alike : (m n : ℕ) (f g : ℕ → ℕ → ℕ) → ((r c : ℕ) → r < m → c < n → f r c ≡ g r c) → sheet_bytes m n f ≡ sheet_bytes m n g
unfolding sheet_bytes
sheet_alike m n f g e = ap (λ (l : List ℕ). sheet_head m n ++ flat_map (big_of 2) l) (table_alike m n f g e)

-- a cell that is not refused and has a score's bits is no fault
no_fault : (x : Result Cell Refusal) → cell_verdict x ≡ Ok tt → score_right (cell_bits x) ≡ true → fault x ≡ Ok tt
unfolding fault unless_refused gate
no_fault x p q = rw (p, q)

pub scores_kept : ScoresKept
unfolding sheet_file
scores_kept f t d room n k bf bd e =
    let m = moved_of f t d room n e in
    record { accepted = (reads f t d room m bf bd).accepted; each = λ row column h l. cell_said f t d room m bf bd row column k h l }

module _ (f : List ℕ) (t : ℕ) (d : List ℕ) (room k : ℕ) (m : Moved f t d room) (bf : Bytes f) (bd : Bytes d) where
  abbrev s : List ℕ
  s = sheet_file f t d

  page_rows : grid_rows s ≡ sheet_rows d
  page_rows = (page_kept f t d room m bf bd).rows ∙ (fitting f t d room m bf bd).rows

  page_columns : grid_columns s ≡ sheet_columns d
  page_columns = (page_kept f t d room m bf bd).columns ∙ (fitting f t d room m bf bd).columns

  pub sheet_same : sheet_of s k ≡ d
  unfolding sheet_of score_cell
  sheet_same =
      rw (page_rows, page_columns)
      (sheet_alike (sheet_rows d) (sheet_columns d) _ _ (λ r c h l. (cell_said f t d room m bf bd r c k h l).0) ∙ (read d bd m.sheet).1)

  long : sheet_length s ≡ length d
  unfolding sheet_length sheet_right
  long = rw (page_rows, page_columns) (means _ m.sheet).1.1.1.1.1.0

  -- and nothing refuses the way back

  element_kept : score_element s ≡ true
  unfolding score_element
  element_kept =
      let p = page_kept f t d room m bf bd in
      let o = one f t d room m bf bd in
      let e = p.elements 0 (omega (arith, o.one)) in
      sym (yes _ (p.count ∙ o.one, (rw e o.short, (rw e o.unread, tt))))

  first : is_first (page_says s) ≡ true
  unfolding is_first
  first = rw (no_rule s (no_metadata f t d room m bf bd))

  able : sheetable s ≡ true
  unfolding sheetable
  able =
      let w = (read d bd m.sheet).0 in
      rw (page_rows, page_columns) (sym (yes _ (element_kept, (first, (w.rows.1, (w.columns.1, (w.long, tt)))))))

  faultless : fault_in 0 (grid_rows s) 0 (grid_columns s) (score_cell s k) ≡ Ok tt
  unfolding fault_in score_cell sheet_right
  faultless =
      rw (page_rows, page_columns)
      (inside_none (unless_refused Err) (Ok tt) verdicts 0 (sheet_rows d) 0 (sheet_columns d) _
      (λ r c h.
      let x = cell_said f t d room m bf bd r c k h.to_bottom h.to_right in
      let i = below_each (sheet_rows d * sheet_columns d) _ (means _ m.sheet).1.1.1.1.1.1.0 (r * sheet_columns d + c) (place_less (sheet_rows d) (sheet_columns d) r c h.to_bottom h.to_right) in
      no_fault (meaning (sheet_file f t d) k r c 0) x.1 (ap score_right x.0 ∙ i)))

  pub back_done : (room2 : ℕ) → sheet_back s k room2 ≡ pick (leb (length d) room2) (Ok (length d)) (Err Room)
  unfolding sheet_back judged_out unless_refused gate passes sheet_file
  back_done room2 = rw ((reads f t d room m bf bd).accepted, able, faultless, long) (go (leb (length d) room2))
    where
      go :
          (b : Bool) →
          unless_refused Err (gate (both b true) Room (Ok tt)) (Ok (length d)) ≡ pick b (Ok (length d)) (Err Room)
      go true = refl
      go false = refl

pub there_and_back : ThereAndBack
there_and_back f t d room n k room2 bf bd e =
    let m = moved_of f t d room n e in
    record { answer = back_done f t d room k m bf bd room2; bytes = sheet_same f t d room k m bf bd }
