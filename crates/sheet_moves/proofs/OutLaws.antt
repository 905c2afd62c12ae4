-- A page moved out and back, with its own front: what it keeps, and what alone refuses the way back in. Assumes nothing.
use Rattle.std.specs.Prelude.{Err, Ok, Result, ⊤}
use Rattle.answer.specs.declared.Refusal.{Refusal}
use Prim.Native.Nat.{ℕ, ◌+◌, ◌*◌, ◌-◌, ◌≤◌, ◌<◌}
use mathlib.Core.Path.{◌≡◌, refl, sym, ap, ◌∙◌}
use mathlib.Core.List.{List, [], ◌∷◌}
use mathlib.Core.Bool.{Bool, true, false}
use native.Mathlib.Omega.{arith}
use lib.ListN.{length, take}
use lib.Seq.{length-take-le, get_or-take}
use Rattle.wire.specs.Pick.{pick}
use Rattle.wire.specs.Tests.{◌≡?◌, ◌≢?◌, is, passes}
use Rattle.wire.specs.Bytes.{Bytes, byte_at, Same}
use Rattle.wire.specs.Big.{big_of}
use Rattle.wire.proofs.TestLaws.{means, yes, no_true, iff}
use Rattle.wire.proofs.ByteLaws.{bytes_append, bytes_cons, bytes_none, bytes_take}
use Rattle.wire.proofs.BigLaws.{big_bytes}
use Rattle.wire.proofs.RunLaws.{run_bytes}
use Rattle.blocks.specs.Tables.{tabled}
use Rattle.blocks.proofs.InsideLaws.{inside_each}
use Rattle.score_sheets.specs.Sheet.{sheet_rows, sheet_columns, score_at, score_right, sheet_head, sheet_bytes, Fits, Says}
use Rattle.score_sheets.proofs.WholeLaws.{written}
use Rattle.answer.specs.declared.Cell.{Cell}
use Rattle.answer.specs.Refusals.{gate, unless_refused}
use Rattle.answer.specs.Answers.{cell_kind, cell_bits}
use Rattle.answer.proofs.VerdictLaws.{gate_passed, behind_passed}
use Rattle.record.specs.Chain.{header_end}
use Rattle.header.specs.Fields.{grid_rows, grid_columns}
use Rattle.header.specs.Element.{entries_read}
use Rattle.header.proofs.SameLaws.{element_same}
use Rattle.geometry.specs.Tiles.{cell_tile}
use Rattle.check_header.specs.Identification.{identified}
use Rattle.check_header.specs.HeaderRecord.{header_right}
use Rattle.check_header.specs.Stages.{front_right, first_two, next_two, stages, check_front}
use Rattle.check_header.specs.Passed.{Headed, InRange}
use Rattle.check_header.specs.Judged.{SameJudged}
use Rattle.check_header.proofs.Judged as judged
use Rattle.check_header.proofs.Judged.{end_same, identified_same, version_same, header_to, ceilings_to}
use Rattle.check_header.proofs.PassedLaws.{range_of}
use Rattle.page_check.proofs.AcceptedLaws.{accepted_exactly}
use Rattle.cells.specs.Meaning.{meaning}
use Rattle.lay_down.specs.Answer.{input_right, input_verdict}
use Rattle.lay_down.specs.Sheet.{score_element, front_fits, tile_unread, kept_tiles, sheet_cells, sheet_verdict, sheet_laid, sheet_file}
use Rattle.lay_down.proofs.SheetLaws.{score_of_lem, kept_ascends, sheet_long}
use Rattle.sheets.specs.Back.{sheetable, fault, fault_in, score_cell, sheet_of, judged_out, sheet_back}
use Rattle.sheet_moves.specs.Moves.{TileUnread, own_front, SameValues, OutAndBack, back_in, InAgain}
use Rattle.sheet_moves.proofs.KeptLaws.{Moved, moved_of, cell_said, cell_kind_lem, left_out_lem, tile_all, no_metadata, page_kept, reads}

-- what a move out that is not refused says

behind_length : (v : Result ⊤ Refusal) (x : Result ℕ Refusal) (n : ℕ) → unless_refused Err v x ≡ Ok n → (v ≡ Ok tt) × (x ≡ Ok n)
unfolding unless_refused
behind_length (Ok accepted) x n e = (refl, e)
behind_length (Err r) x n e = let z : ◌≡◌ {A = ℕ} 0 1 = cc in absurd (omega arith)

score_right_lem : (x : Result Cell Refusal) → fault x ≡ Ok tt → score_right (cell_bits x) ≡ true
unfolding fault
score_right_lem x e = (gate_passed _ _ _ (behind_passed _ _ e).1).0

-- the bytes of a sheet are bytes
pub sheet_bytes_lem : (m n : ℕ) (g : ℕ → ℕ → ℕ) → Bytes (sheet_bytes m n g)
unfolding sheet_bytes sheet_head
sheet_bytes_lem m n g =
    bytes_append
    (bytes_append (bytes_append (bytes_append (big_bytes 4 _) (bytes_cons 1 (omega arith) bytes_none)) (big_bytes 2 m)) (big_bytes 2 n))
    (run_bytes (big_of 2) (big_bytes 2) (tabled m n g))

-- with an element of scores the lay-down's own 12 is the time alone
time_alone : (g d : List ℕ) (t : ℕ) → score_element g ≡ true → input_right g t (kept_tiles g d) (sheet_cells g d) ≡ passes ((t ≢? 0) ∷ [])
unfolding input_right
time_alone g d t o =
    iff _ _ (λ e. sym (yes _ ((means _ e).0, tt))) (λ e. sym (yes _ ((means _ e).0, (kept_ascends g d, (sheet_long g (score_of_lem g o) d, tt)))))

-- a page's own front

same_take : (n : ℕ) (s : List ℕ) → n ≤ length s → (a b : ℕ) → b ≤ n → Same s (take n s) a b
unfolding byte_at
same_take n s h a b k =
    record { in_first = omega arith; in_second = omega (arith, length-take-le n s h); each = λ i l m. sym (get_or-take n s i 0 (omega arith)) }

module _ (s : List ℕ) (headed : Headed s (length s)) where
  abbrev g : List ℕ
  g = take (header_end s) s

  in_range_lem : InRange s (length s)
  in_range_lem = range_of s (length s) headed

  front_long : length g ≡ header_end s
  front_long = length-take-le (header_end s) s in_range_lem.header_inside

  front_judged : SameJudged s g
  front_judged =
      let r = in_range_lem in
      let u = same_take (header_end s) s r.header_inside in
      record {
        block = u 0 14 (omega (arith, r.header_least));
        frame = u 16 21 (omega (arith, r.header_least));
        sides = u 104 120 (omega (arith, r.header_least));
        options = u 128 131 (omega (arith, r.header_least));
        rest = u 280 (header_end s - 4) (omega arith);
        in_first = r.header_inside;
        in_second = omega (arith, front_long);
      }

  front_identified : identified g (length g) ≡ true
  unfolding identified
  front_identified =
      let m = means _ (sym (identified_same front_judged.block (length s)) ∙ headed.block) in
      sym (yes _ (omega (arith, front_long, in_range_lem.header_least), (m.1.0, tt)))

  pub front_accepted : check_front g ≡ Ok tt
  unfolding check_front stages first_two next_two gate front_right
  front_accepted =
      let r = in_range_lem in
      let j = front_judged in
      let l = front_long in
      let v = sym (version_same j.block) ∙ headed.version in
      let h = header_to s g j (length s) (length g) headed.header (omega arith) in
      let c = ceilings_to s g j (length s) (length g) headed.header headed.ceilings (omega (arith, r.file, r.header_inside)) in
      let e = yes (is (header_right g (length g)) ∷ (header_end g ≡? length g) ∷ []) (h, (sym (end_same j.frame) ∙ sym l, tt)) in
      rw (front_identified, v, ← e, c)

  pub front_rows : grid_rows g ≡ grid_rows s
  front_rows = sym (judged.rows s g front_judged)

  pub front_columns : grid_columns g ≡ grid_columns s
  front_columns = sym (judged.columns s g front_judged)

  pub front_tile : (row column : ℕ) → cell_tile g row column ≡ cell_tile s row column
  unfolding cell_tile
  front_tile row column =
      let j = front_judged in
      rw (judged.columns s g j, judged.tile_rows_lem s g j, judged.tile_columns_lem s g j)

  pub front_element : score_element s ≡ true → score_element g ≡ true
  unfolding score_element
  front_element e =
      let j = front_judged in
      let r = in_range_lem in
      let o = score_of_lem s e in
      let f = judged.header_fit s g j (length s) headed.header in
      let x = sym (element_same s g (judged.same_rest s g j) 0 (entries_read s) (omega (arith, r.all, o.one)) f.last) in
      sym (yes _ (sym f.count ∙ o.one, (rw x o.short, (rw x o.unread, tt))))

module _ (s : List ℕ) (k room n : ℕ) (b : Bytes s) (e : sheet_back s k room ≡ Ok n) where
  abbrev rows : ℕ
  rows = grid_rows s

  abbrev columns : ℕ
  columns = grid_columns s

  abbrev d : List ℕ
  d = sheet_of s k

  headed : Headed s (length s)
  unfolding sheet_back
  headed = ((accepted_exactly s).0 (behind_length _ _ _ e).0).sound.headed

  able : sheetable s ≡ true
  unfolding sheet_back judged_out
  able = (gate_passed _ _ _ (behind_length _ _ _ (behind_length _ _ _ e).1).0).0

  faultless : fault_in 0 rows 0 columns (score_cell s k) ≡ Ok tt
  unfolding sheet_back judged_out
  faultless = (gate_passed _ _ _ (behind_length _ _ _ (behind_length _ _ _ e).1).0).1

  fits : Fits rows columns
  unfolding sheetable
  fits =
      let a = means _ able in
      let r = range_of s (length s) headed in
      record { rows = (r.sides.rows.0, a.1.1.0); columns = (r.sides.columns.0, a.1.1.1.0); long = a.1.1.1.1.0 }

  right : (r c : ℕ) → r < rows → c < columns → score_right (cell_bits (score_cell s k r c)) ≡ true
  unfolding fault_in
  right r c h l =
      score_right_lem (score_cell s k r c)
      (inside_each (unless_refused Err) (Ok tt) (λ x y. behind_passed x y) 0 rows 0 columns (λ i j. fault (score_cell s k i j)) faultless r c
      (record { from_top = omega arith; to_bottom = h; from_left = omega arith; to_right = l }))

  says : Says d rows columns (λ r c. cell_bits (score_cell s k r c))
  unfolding sheet_of
  says = written rows columns (λ r c. cell_bits (score_cell s k r c)) fits right

  bytes : Bytes d
  unfolding sheet_of
  bytes = sheet_bytes_lem rows columns (λ r c. cell_bits (score_cell s k r c))

  front_fits_lem : front_fits (own_front s) d ≡ true
  unfolding front_fits sheetable
  front_fits_lem =
      sym (yes _ (front_rows s headed ∙ sym says.rows, (front_columns s headed ∙ sym says.columns, (front_element s headed (means _ able).0, tt))))

  abbrev front : List ℕ
  front = own_front s

  in_again : (t room2 : ℕ) → sheet_laid front t d room2 ≡ back_in s k t room2
  unfolding sheet_laid sheet_verdict input_verdict unless_refused gate sheetable
  in_again t room2 =
      rw (front_accepted s headed, says.right, front_fits_lem, time_alone front d t (front_element s headed (means _ able).0))

  -- the page again

  module _ (t room2 m j : ℕ) (f : sheet_laid front t d room2 ≡ Ok m) where
    abbrev w : Moved front t d room2
    w = moved_of front t d room2 m f

    front_bytes : Bytes front
    front_bytes = bytes_take (header_end s) b

    abbrev q : List ℕ
    q = sheet_file front t d

    module _ (row column : ℕ) (h : row < rows) (l : column < columns) where
      below_rows : row < sheet_rows d
      below_rows = omega (arith, says.rows)

      below_columns : column < sheet_columns d
      below_columns = omega (arith, says.columns)

      same_bits : cell_bits (meaning q j row column 0) ≡ cell_bits (meaning s k row column 0)
      unfolding score_cell
      same_bits =
          let c = says.columns in
          (cell_said front t d room2 w front_bytes bytes row column j below_rows below_columns).0 ∙ rw c (says.score row column h l)

      score_of_cell : (r c : ℕ) → r < rows → c < columns → score_at d (r * sheet_columns d + c) ≡ cell_bits (meaning s k r c 0)
      unfolding score_cell
      score_of_cell r c i u = let z = says.columns in rw z (says.score r c i u)

      all_unread : TileUnread s k row column → tile_unread front d (cell_tile front row column) ≡ true
      all_unread u =
          tile_all front t d room2 w front_bytes bytes row column below_rows below_columns
          (λ r c x y z.
          let i : r < rows = omega (arith, says.rows) in
          let v : c < columns = omega (arith, says.columns) in
          score_of_cell r c i v ∙ u r c i v (sym (front_tile s headed r c) ∙ z ∙ front_tile s headed row column))

      unread_all : tile_unread front d (cell_tile front row column) ≡ true → TileUnread s k row column
      unread_all e r c x y z =
          let i : r < sheet_rows d = omega (arith, says.rows) in
          let v : c < sheet_columns d = omega (arith, says.columns) in
          let o : cell_tile front r c ≡ cell_tile front row column = front_tile s headed r c ∙ z ∙ sym (front_tile s headed row column) in
          sym (score_of_cell r c x y) ∙ left_out_lem front t d room2 w front_bytes bytes r c j i v (ap (tile_unread front d) o ∙ e)

      kind_said : (u : Bool) → tile_unread front d (cell_tile front row column) ≡ u → cell_kind (meaning q j row column 0) ≡ pick u 33 32
      kind_said u e = (cell_kind_lem front t d room2 w front_bytes bytes row column j below_rows below_columns u e).2

    pub same_values : SameValues s q k j
    unfolding sheet_file
    same_values =
        record {
          accepted = (reads front t d room2 w front_bytes bytes).accepted;
          rows = (page_kept front t d room2 w front_bytes bytes).rows ∙ front_rows s headed;
          columns = (page_kept front t d room2 w front_bytes bytes).columns ∙ front_columns s headed;
          bits = same_bits;
          fill = λ row column h l u. kind_said row column h l true (all_unread row column h l u);
          stored = λ row column h l u. kind_said row column h l false (sym (no_true _ (λ z. u (unread_all row column h l z))));
          no_metadata = no_metadata front t d room2 w front_bytes bytes;
        }

pub back_in_lem : InAgain
back_in_lem s k room n t room2 b e = in_again s k room n b e t room2

pub out_and_back : OutAndBack
out_and_back s k room n t room2 m j b e f = same_values s k room n b e t room2 m j f
