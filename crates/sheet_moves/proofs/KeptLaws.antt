-- A sheet that is moved into a page: each grid cell has the bits of its score, in the kind of its tile. Assumes nothing.
use Rattle.std.specs.Prelude.{Err, Ok, Result, ⊤}
use Rattle.answer.specs.declared.Refusal.{Refusal}
use Prim.Native.Nat.{ℕ, ◌+◌, ◌*◌, ◌/◌, ◌%◌, ◌<◌}
use mathlib.Core.Path.{◌≡◌, refl, sym, ap, ◌∙◌}
use mathlib.Core.List.Memᴰ
use mathlib.Core.List.{List, [], ◌∷◌}
use mathlib.Core.Bool.{Bool, true, false, not}
use mathlib.Core.Logic.{by_cases}
use native.Mathlib.Decide.{dec_le}
use native.Mathlib.Omega.{arith}
use native.Mathlib.Nat.{div-add-mod', mod-lt}
use lib.ListN.{length, get_or}
use lib.Dec.{eqb}
use borrow.Author.Tests.{eqb-true, eq-eqb, not-true}
use Rattle.wire.specs.Pick.{pick}
use Rattle.wire.specs.Tests.{◌≡?◌, is, passes, sum_below}
use Rattle.wire.specs.Bytes.{Bytes, number, number_at, bytes_of, same_bytes, zeros}
use Rattle.wire.specs.Lists.{some, below}
use Rattle.wire.proofs.TestLaws.{yes, no, not_both, below_each, below_all, sum_none}
use Rattle.wire.proofs.ByteLaws.{zeros_length, bytes_length, bytes_of_lem, number_of}
use Rattle.wire.proofs.BigLaws.{big_small}
use Rattle.wire.proofs.ListLaws.{member_select, select_member, select_none}
use Rattle.wire.proofs.RunLaws.{run_part, run_bytes, member_place, place_member, below_member}
use Rattle.blocks.proofs.TableLaws.{tabled_long, tabled_at}
use Rattle.score_sheets.specs.Sheet.{sheet_rows, sheet_columns, score_at, sheet_right}
use Rattle.score_sheets.specs.Parts.{score_in, part_scores, part_unread}
use Rattle.score_sheets.proofs.PartLaws.{score_past, score_there}
use Rattle.answer.specs.declared.Cell.{Cell}
use Rattle.answer.specs.Refusals.{unless_refused}
use Rattle.answer.specs.Answers.{cell_kind, cell_bits, cell_verdict}
use Rattle.answer.proofs.ValueLaws.{short_bits_kept}
use Rattle.answer.proofs.VerdictLaws.{gate_passed, behind_passed}
use Rattle.header.specs.Fields.{grid_columns, tile_rows, tile_columns}
use Rattle.header.specs.Element.{cell_size}
use Rattle.record.specs.Record.{type_at}
use Rattle.record.specs.Chain.{records, records_of}
use Rattle.bodies.specs.MetadataRecord.{metadata_name}
use Rattle.geometry.specs.Tiles.{tiles_along, tile_of, inside_of, tile_in, tiles_across, tile_count, cell_tile, cell_inside}
use Rattle.geometry.specs.Sizes.{cell_offset, element_bytes, tile_bytes}
use Rattle.geometry.proofs.GridLaws.{row_of, column_of, along_less, inside_less, tile_less}
use Rattle.check_header.specs.Stages.{check_front}
use Rattle.cells.specs.Asked.{in_grid}
use Rattle.cells.specs.TileCells.{fill_of, offset_in}
use Rattle.cells.specs.Meaning.{meaning}
use Rattle.store.specs.Named.{is_named, records_named, ids_named}
use Rattle.score_rule.specs.declared.Said.TheVariants.{First}
use Rattle.score_rule.specs.Rules.{rule_said, page_says, score_rule}
use Rattle.lay_down.specs.Page.{file_length}
use Rattle.lay_down.specs.Answer.{input_verdict, lay_down_verdict, laid}
use Rattle.lay_down.specs.Sheet.{front_fits, tile_top, tile_left, tile_scores, tile_unread, kept_tiles, tile_cells, sheet_cells, sheet_verdict, sheet_laid, sheet_file}
use Rattle.lay_down.proofs.FrontLaws.{front_of_lem}
use Rattle.lay_down.proofs.SheetLaws.{OneScore, score_of_lem, Fitting, fits_of, tile_size, cells_long}
use Rattle.read_back.specs.ReadBack.{content_given, cell_given, ListedAs, ReadsBack}
use Rattle.read_back.proofs.Setting.{Kept, laying_of}
use Rattle.read_back.proofs.FrontLaws.{front_kept}
use Rattle.read_back.proofs.RecordLaws.{none_of}
use Rattle.read_back.proofs.ReadBackLaws.{read_back}

-- what a move in that is not refused was given

pub record Moved (f : List ℕ) (t : ℕ) (d : List ℕ) (room : ℕ) : Type 0 where
  pub front : check_front f ≡ Ok tt
  pub sheet : sheet_right d ≡ true
  pub fits : front_fits f d ≡ true
  pub input : input_verdict f t (kept_tiles f d) (sheet_cells f d) room ≡ Ok tt

length_of : (v : Result ⊤ Refusal) (n m : ℕ) → unless_refused Err v (Ok n) ≡ Ok m → v ≡ Ok tt
unfolding unless_refused
length_of (Ok accepted) n m e = refl
length_of (Err r) n m e = let z : ◌≡◌ {A = ℕ} 0 1 = cc in absurd (omega arith)

pub moved_of : (f : List ℕ) (t : ℕ) (d : List ℕ) (room n : ℕ) → sheet_laid f t d room ≡ Ok n → Moved f t d room
unfolding sheet_laid sheet_verdict
moved_of f t d room n e =
    let a = behind_passed _ _ (length_of _ _ _ e) in
    let b = gate_passed _ _ _ a.1 in
    let c = gate_passed _ _ _ b.1 in
    record { front = a.0; sheet = b.0; fits = c.0; input = c.1 }

-- a page without a metadata record says the first rule
pub no_rule : (s : List ℕ) → records_of s 1 ≡ [] → page_says s ≡ First
unfolding page_says ids_named records_named is_named records_of rule_said some
no_rule s e =
    let p : ℕ → Bool = λ x. passes ((type_at s x ≡? 1) ∷ is (same_bytes (metadata_name s x) score_rule) ∷ []) in
    rw
    (select_none p (records s)
    (λ x m. sym (no _ (λ h. Memᴰ.not-nil (rw e at (member_select (λ y. eqb (type_at s y) 1) (records s) m (eq-eqb (type_at s x) 1 h.0)))))))

-- the rows and columns of a tile are its own
tile_kept :
    (f : List ℕ) (row column i j : ℕ) → i < tile_rows f → j < tile_columns f →
    cell_tile f (row / tile_rows f * tile_rows f + i) (column / tile_columns f * tile_columns f + j) ≡ cell_tile f row column
unfolding cell_tile tile_in tile_of
tile_kept f row column i j p q = rw (row_of (tile_rows f) (row / tile_rows f) i p, row_of (tile_columns f) (column / tile_columns f) j q)

module _ (f : List ℕ) (t : ℕ) (d : List ℕ) (room : ℕ) (m : Moved f t d room) (bf : Bytes f) (bd : Bytes d) where
  -- the front

  pub fitting : Fitting f d
  fitting = fits_of f d m.fits

  pub one : OneScore f
  one = score_of_lem f fitting.element

  abbrev h : ℕ
  h = tile_rows f

  abbrev w : ℕ
  w = tile_columns f

  tall : 0 < h
  tall = (front_of_lem f m.front).sides.tile_rows_lem.0

  wide : 0 < w
  wide = (front_of_lem f m.front).sides.tile_columns_lem.0

  -- the page is laid down

  cell_bytes : Bytes (sheet_cells f d)
  unfolding sheet_cells tile_cells
  cell_bytes = run_bytes (tile_cells f d) (λ tile. run_bytes (bytes_of 2) (bytes_of_lem 2) (tile_scores f d tile)) (kept_tiles f d)

  abbrev out : List ℕ
  out = zeros room

  laid_down : laid f t (kept_tiles f d) (sheet_cells f d) (length out) ≡ Ok (file_length f (kept_tiles f d))
  unfolding laid lay_down_verdict unless_refused
  laid_down = rw (zeros_length room, m.front, m.input)

  pub page_kept : Kept f (sheet_file f t d)
  unfolding sheet_file
  page_kept = front_kept (laying_of f t (kept_tiles f d) (sheet_cells f d) (length out) _ bf cell_bytes laid_down).0

  pub no_metadata : records_of (sheet_file f t d) 1 ≡ []
  unfolding sheet_file
  no_metadata = none_of (laying_of f t (kept_tiles f d) (sheet_cells f d) (length out) _ bf cell_bytes laid_down).0 1 (λ e. omega arith) (λ e. omega arith)

  pub reads : ReadsBack f t (kept_tiles f d) (sheet_cells f d)
  reads = (read_back f t (kept_tiles f d) (sheet_cells f d) out _ bf cell_bytes laid_down).reads

  -- a cell of the grid

  module _ (row column k : ℕ) (r : row < sheet_rows d) (c : column < sheet_columns d) where
    abbrev tile : ℕ
    tile = cell_tile f row column

    abbrev inside : ℕ
    inside = cell_inside f row column

    abbrev score : ℕ
    score = score_at d (row * sheet_columns d + column)

    tile_there : tile < tile_count f
    tile_there = tile_less f row column tall wide (omega (arith, fitting.rows)) (omega (arith, fitting.columns))

    inside_there : inside < h * w
    unfolding cell_inside
    inside_there = inside_less h w row column tall wide

    pub in_grid_lem : in_grid f row column 0 ≡ true
    unfolding in_grid
    in_grid_lem = sym (yes _ (omega (arith, fitting.rows), (omega (arith, fitting.columns), (omega (arith, one.one), tt))))

    -- its tile begins where its own row and column of tiles begin

    pub corner : (tile_top f tile ≡ row / h * h) × (tile_left f tile ≡ column / w * w)
    unfolding tile_top tile_left tiles_across cell_tile tile_in tile_of
    corner =
        let across = tiles_along (grid_columns f) w in
        let l = along_less (grid_columns f) w column wide (omega (arith, fitting.columns)) in
        let a = row_of across (row / h) (column / w) l in
        let b = column_of across (row / h) (column / w) l in
        (rw a, rw b)

    score_said : score_in d (tile_top f tile + row % h) (tile_left f tile + column % w) ≡ score
    score_said =
        let a = corner in
        rw (a.0, a.1, div-add-mod' row h, div-add-mod' column w) (sym (score_there d row column (sheet_rows d) (sheet_columns d) refl refl r c))

    score_placed : get_or (tile_scores f d tile) inside 0 ≡ score
    unfolding tile_scores part_scores cell_inside inside_of
    score_placed =
        tabled_at h w (λ i j. score_in d (tile_top f tile + i) (tile_left f tile + j)) (row % h) (column % w) (mod-lt row tall) (mod-lt column wide) ∙ score_said

    score_small : score < 65536
    unfolding score_at
    score_small = big_small 2 d _ bd

    scores_long : length (tile_scores f d tile) ≡ h * w
    unfolding tile_scores part_scores
    scores_long = tabled_long h w (λ i j. score_in d (tile_top f tile + i) (tile_left f tile + j))

    -- in a tile that is kept

    abbrev Said : Result Cell Refusal → ℕ → Type 0
    Said x kind = (cell_bits x ≡ score) × (cell_verdict x ≡ Ok tt) × (cell_kind x ≡ kind)

    given_there : (i : ℕ) → i < length (kept_tiles f d) → get_or (kept_tiles f d) i 0 ≡ tile → number_at 2 (sheet_cells f d) (cell_given f i row column 0) ≡ score
    unfolding cell_given content_given offset_in cell_offset cell_size sheet_cells tile_cells number_at
    given_there i g e =
        let at : i * tile_bytes f + sum_below 0 (element_bytes f) + inside * 2 ≡ i * tile_bytes f + (inside * 2 + 0) = omega (arith, sum_none (element_bytes f)) in
        let v = get_or (tile_scores f d tile) inside 0 in
        rw (one.short, at)
        (ap number
        (run_part (tile_cells f d) (tile_bytes f) (cells_long f one d) (kept_tiles f d) i 2 (inside * 2 + 0) g (omega (arith, tile_size f one, inside_there))
        ∙ rw e (run_part (bytes_of 2) 2 (bytes_length 2) (tile_scores f d tile) inside 2 0 (omega (arith, scores_long, inside_there)) (omega arith)))
        ∙ number_of 2 v (rw score_placed score_small) ∙ score_placed)

    stored : (i : ℕ) → i < length (kept_tiles f d) → get_or (kept_tiles f d) i 0 ≡ tile → Said (meaning (sheet_file f t d) k row column 0) 32
    unfolding sheet_file cell_size
    stored i g e =
        let q = reads.stored k row column 0 i in_grid_lem (record { among = g; tile = e }) in
        rw q (rw one.short (rw (given_there i g e) (short_bits_kept 3 _ refl score_small)), refl, refl)

    -- and in one that is not: all its scores are -1

    pub left_out_lem : tile_unread f d tile ≡ true → score ≡ 65535
    unfolding tile_unread part_unread
    left_out_lem n = sym score_said ∙ eqb-true _ _ (below_each w _ (below_each h _ n (row % h) (mod-lt row tall)) (column % w) (mod-lt column wide))

    fill : tile_unread f d tile ≡ true → Said (meaning (sheet_file f t d) k row column 0) 33
    unfolding sheet_file fill_of kept_tiles
    fill n =
        let none : (i : ℕ) → ListedAs f (kept_tiles f d) i row column → ⊥ =
        λ i q.
        not_both n (not-true _ (select_member (λ x. not (tile_unread f d x)) (below (tile_count f)) (rw q.tile at (place_member (kept_tiles f d) i q.among))).1) in
        rw (reads.fill k row column 0 in_grid_lem none) (rw (one.short, one.unread) (short_bits_kept 3 65535 refl (omega arith) ∙ sym (left_out_lem n)), refl, refl)

    pub cell_kind_lem : (b : Bool) → tile_unread f d tile ≡ b → Said (meaning (sheet_file f t d) k row column 0) (pick b 33 32)
    unfolding kept_tiles
    cell_kind_lem true e = fill e
    cell_kind_lem false e =
        let p = member_place (kept_tiles f d) (member_select (λ x. not (tile_unread f d x)) (below (tile_count f)) (below_member (tile_count f) tile tile_there) (rw e)) in
        stored p.0 p.1 p.2

    pub cell_said : (cell_bits (meaning (sheet_file f t d) k row column 0) ≡ score) × (cell_verdict (meaning (sheet_file f t d) k row column 0) ≡ Ok tt)
    cell_said = let x = cell_kind_lem (tile_unread f d tile) refl in (x.0, x.1)

  -- a tile that holds a cell of the grid is all -1 where each grid cell of it is
  pub tile_all :
      (row column : ℕ) → row < sheet_rows d → column < sheet_columns d →
      ((i j : ℕ) → i < sheet_rows d → j < sheet_columns d → cell_tile f i j ≡ cell_tile f row column → score_at d (i * sheet_columns d + j) ≡ 65535) →
      tile_unread f d (cell_tile f row column) ≡ true
  unfolding tile_unread part_unread
  tile_all row column r c all =
      let z = corner row column 0 r c in
      below_all h _ (λ i p. below_all w _ (λ j q. eq-eqb _ 65535 (each z i j p q)))
    where
      each :
          (tile_top f (cell_tile f row column) ≡ row / h * h) × (tile_left f (cell_tile f row column) ≡ column / w * w) → (i j : ℕ) → i < h → j < w →
          score_in d (tile_top f (cell_tile f row column) + i) (tile_left f (cell_tile f row column) + j) ≡ 65535
      each z i j p q =
          rw (z.0, z.1)
          (by_cases (dec_le (row / h * h + i + 1) (sheet_rows d))
          (λ a. by_cases (dec_le (column / w * w + j + 1) (sheet_columns d))
          (λ b. sym (score_there d (row / h * h + i) (column / w * w + j) (sheet_rows d) (sheet_columns d) refl refl (omega arith) (omega arith)) ∙ all (row / h * h + i) (column / w * w + j) (omega arith) (omega arith) (tile_kept f row column i j p q))
          (λ b. sym (score_past d (row / h * h + i) (column / w * w + j) (sheet_rows d) (sheet_columns d) refl refl (λ x y. omega arith))))
          (λ a. sym (score_past d (row / h * h + i) (column / w * w + j) (sheet_rows d) (sheet_columns d) refl refl (λ x y. omega arith))))
