-- A tile's scores as they are put into its record, and what a move of a sheet answers. Assumes nothing.
use Rattle.std.specs.Prelude.{Err, Ok, Result, ⊤}
use Prim.Native.Nat.{ℕ, ◌+◌, ◌*◌, ◌-◌, ◌≤◌, ◌<◌}
use mathlib.Core.Path.{◌≡◌, refl, sym, ap, ◌∙◌}
use mathlib.Core.List.{List, flat_map}
use mathlib.Core.Bool.{Bool, true, false}
use native.Mathlib.Omega.{arith}
use lib.ListN.{length, get_or}
use Rattle.wire.specs.Pick.{round_up}
use Rattle.wire.specs.Bytes.{bytes_of, put, zeros}
use Rattle.wire.proofs.TestLaws.{yes, sum_none, sum_more}
use Rattle.wire.proofs.ByteLaws.{bytes_length, zeros_length, part_whole}
use Rattle.wire.proofs.PutLaws.{first, then}
use Rattle.score_sheets.specs.Sheet.{sheet_right}
use Rattle.score_sheets.specs.Parts.{part_scores}
use Rattle.answer.specs.declared.Refusal.{Refusal}
use Rattle.answer.specs.declared.Refusal.TheVariants.{Input}
use Rattle.answer.specs.Refusals.{gate, unless_refused}
use Rattle.answer.specs.Answers.{written}
use Rattle.header.specs.Fields.{tile_rows, tile_columns, element_count}
use Rattle.geometry.specs.Tiles.{tile_count}
use Rattle.geometry.specs.Sizes.{stored_size, element_bytes, tile_bytes, plain_tile_length}
use Rattle.check_header.specs.Stages.{check_front}
use Rattle.written_records.specs.Pieces.{section}
use Rattle.written_records.specs.Tile.{sections, sections_of, tile_record}
use Rattle.written_records.proofs.TileLaws.{stored_before}
use Rattle.lay_down.specs.Page.{directory_start, file_length, laid_file}
use Rattle.lay_down.specs.Answer.{ascending, input_right, lay_down_verdict, length_verdict, laid, laid_out}
use Rattle.lay_down.specs.Sheet.{score_element, front_fits, tile_top, tile_left, tile_scores, tile_cells, kept_tiles, sheet_cells, sheet_verdict, sheet_laid, sheet_file}
use Rattle.lay_down.proofs.FrontLaws.{Front}
use Rattle.lay_down.proofs.JudgeLaws.{judged_input, judged_length, judged_behind, input_timeless}
use Rattle.lay_down.proofs.AscendLaws.{ascending_each}
use Rattle.lay_down.proofs.TileWriting.{Tiling, tiling_none, tiling_fits, tiling_more}
use Rattle.lay_down.proofs.PageWriting.{laid_refused, laid_done}
use Rattle.lay_down.proofs.SheetLaws.{OneScore, score_of_lem, element_size, tile_size, cells_long, sheet_long, sheet_part, kept_ascends, fits_of}

cells_are :
    (f d : List ℕ) (tile row column h w : ℕ) → row ≡ tile_top f tile → column ≡ tile_left f tile → h ≡ tile_rows f → w ≡ tile_columns f →
    flat_map (bytes_of 2) (part_scores d row column h w) ≡ tile_cells f d tile
unfolding tile_cells tile_scores
cells_are f d tile row column h w p q r s = rw (p, q, r, s)

-- the tile's sides, as they are multiplied
module _ (f : List ℕ) (o : OneScore f) (front : Front f) (h w : ℕ) (p : h ≡ tile_rows f) (q : w ≡ tile_columns f) where
  sides_are : h * w * 2 ≡ element_bytes f 0
  sides_are = rw (p, q) (sym (element_size f o))

  pub sides_few : h * w * 2 ≤ 1048576
  sides_few = omega (arith, sides_are, element_size f o, tile_size f o, front.tile_size)

  pub section_end_lem : (at pad : ℕ) → pad ≡ round_up 4 (h * w * 2) - h * w * 2 → at + 4 + h * w * 2 + pad ≡ at + stored_size (element_bytes f 0)
  unfolding stored_size
  section_end_lem at pad e = rw (← sides_are) (omega arith)

  pub section_put :
      (d : List ℕ) (tile : ℕ) (e a b l : List ℕ) (at row column pad : ℕ) → row ≡ tile_top f tile → column ≡ tile_left f tile →
      pad ≡ round_up 4 (h * w * 2) - h * w * 2 → a ≡ put e at (bytes_of 4 (h * w * 2)) →
      b ≡ put a (at + 4) (flat_map (bytes_of 2) (part_scores d row column h w)) → l ≡ put b (at + 4 + h * w * 2) (zeros pad) →
      at + stored_size (element_bytes f 0) ≤ length e → l ≡ put e at (section (tile_cells f d tile))
  unfolding section
  section_put d tile e a b l at row column pad r c z x y v k =
      let u : length (tile_cells f d tile) ≡ h * w * 2 = cells_long f o d tile ∙ tile_size f o ∙ rw (p, q) in
      let s : flat_map (bytes_of 2) (part_scores d row column h w) ≡ tile_cells f d tile = cells_are f d tile row column h w r c p q in
      let end = section_end_lem at pad z in
      let w1 = first x (bytes_length 4 (h * w * 2)) in
      let w2 = then w1 (tile_cells f d tile) (h * w * 2) (at + 4) (y ∙ ap (put a (at + 4)) s) u refl (omega arith) in
      let w3 = then w2 (zeros pad) pad (at + 4 + h * w * 2) v (zeros_length pad) (omega arith) (omega arith) in
      w3.is ∙ rw (u, z)

-- so they are the sections of the tile

pub sections_put :
    (f d : List ℕ) (tile : ℕ) → OneScore f → (b l : List ℕ) (at : ℕ) → l ≡ put b at (section (tile_cells f d tile)) →
    l ≡ put b at (sections f (element_count f) (tile_cells f d tile))
unfolding sections sections_of
sections_put f d tile o b l at e =
    let c = tile_cells f d tile in
    let n : length c ≡ element_bytes f 0 = cells_long f o d tile ∙ tile_size f o ∙ sym (element_size f o) in
    let z = sum_none (element_bytes f) in
    e ∙ ap (put b at) (rw (o.one, z, ← n) (ap section (sym (part_whole c))))

pub stored_is : (f : List ℕ) → OneScore f → stored_before f (element_count f) ≡ stored_size (element_bytes f 0)
stored_is f o =
    let e : element_count f ≡ 0 + 1 = omega (arith, o.one) in
    rw e (sum_more 0 (λ i. stored_size (element_bytes f i)) ∙ omega (arith, sum_none (λ i. stored_size (element_bytes f i))))

-- the records of the tiles that are kept, one at a time: the cell bytes that are still to be put are those of the tiles behind

pub scoring_none : (e f ix d : List ℕ) → Tiling e f ix (sheet_cells f d) e (length f) (0 * tile_bytes f) 0
scoring_none e f ix d = let z : 0 * tile_bytes f ≡ 0 = omega arith in rw z (tiling_none e f ix (sheet_cells f d))

pub scoring_tile : (f d ix : List ℕ) → Front f → ix ≡ kept_tiles f d → (k : ℕ) → k < length ix → get_or ix k 0 < 65536
scoring_tile f d ix w e k h =
    let a : ascending (tile_count f) 0 ix ≡ true = rw e (kept_ascends f d) in
    omega (arith, (ascending_each (tile_count f) 0 ix a k h).1, w.tiles)

module _
    (e f ix d l : List ℕ) (at k : ℕ) (w : Tiling e f ix (sheet_cells f d) l at (k * tile_bytes f) k) (front : Front f) (n : ℕ) (x : n ≡ plain_tile_length f)
    (cells : length (sheet_cells f d) ≡ length ix * tile_bytes f) (room : directory_start f ix ≤ length e) (h : k < length ix)
  where
    pub scoring_fits : at + n ≤ length e
    scoring_fits = tiling_fits e f ix (sheet_cells f d) l at (k * tile_bytes f) k w front n x (tile_bytes f) refl cells room h

    pub scoring_more :
        (m : List ℕ) → ix ≡ kept_tiles f d → score_element f ≡ true → m ≡ put l at (tile_record f (get_or ix k 0) (tile_cells f d (get_or ix k 0))) →
        Tiling e f ix (sheet_cells f d) m (at + n) ((k + 1) * tile_bytes f) (k + 1)
    scoring_more m i o q =
        let z : k * tile_bytes f + tile_bytes f ≡ (k + 1) * tile_bytes f = omega arith in
        rw z at
        (tiling_more e f ix (sheet_cells f d) l at (k * tile_bytes f) k w front n x (tile_bytes f) refl cells room h (tile_cells f d (get_or ix k 0)) m
        (sheet_part f (score_of_lem f o) d ix k i h) q)

-- what is answered, and what the buffer holds

module _ (f : List ℕ) (t : ℕ) (d : List ℕ) (room : ℕ) where
  pub sheet_front : (v : Result ⊤ Refusal) (r : Refusal) → v ≡ check_front f → v ≡ Err r → Err r ≡ sheet_laid f t d room
  unfolding sheet_laid sheet_verdict unless_refused
  sheet_front v r p e = rw (← p, e)

  module _ (a : check_front f ≡ Ok tt) where
    pub sheet_bad : (b : Bool) → b ≡ sheet_right d → b ≡ false → Err Input ≡ sheet_laid f t d room
    unfolding sheet_laid sheet_verdict unless_refused gate
    sheet_bad b p e = rw (a, ← p, e)

    pub sheet_unfit : (b c : Bool) → b ≡ sheet_right d → b ≡ true → c ≡ front_fits f d → c ≡ false → Err Input ≡ sheet_laid f t d room
    unfolding sheet_laid sheet_verdict unless_refused gate
    sheet_unfit b c p e q g = rw (a, ← p, e, ← q, g)

    module _ (right : sheet_right d ≡ true) (fits : front_fits f d ≡ true) where
      sheet_laid_lem : laid f t (kept_tiles f d) (sheet_cells f d) room ≡ sheet_laid f t d room
      unfolding sheet_laid sheet_verdict laid lay_down_verdict unless_refused gate
      sheet_laid_lem = rw (a, right, fits)

      pub sheet_timeless : t ≡ 0 → Err Input ≡ sheet_laid f t d room
      unfolding laid unless_refused
      sheet_timeless z =
          let i = judged_input f t (kept_tiles f d) (sheet_cells f d) room false (input_timeless f t (kept_tiles f d) (sheet_cells f d) z) refl in
          let j = judged_behind f t (kept_tiles f d) (sheet_cells f d) room (Ok tt) (Err Input) (sym a) refl i in
          rw (← j) refl ∙ sheet_laid_lem

      -- the length decides
      pub sheet_judged : (v : Result ⊤ Refusal) → (t ≡ 0 → ⊥) → v ≡ length_verdict f (kept_tiles f d) room → v ≡ lay_down_verdict f t (kept_tiles f d) (sheet_cells f d) room
      unfolding input_right
      sheet_judged v z e =
          let o = score_of_lem f (fits_of f d fits).element in
          judged_behind f t (kept_tiles f d) (sheet_cells f d) room (Ok tt) v (sym a) refl
          (judged_length f t (kept_tiles f d) (sheet_cells f d) room true (yes _ (z, (kept_ascends f d, (sheet_long f o d, tt)))) v refl e)

-- with the tiles that are kept as they were listed

module _
    (f : List ℕ) (t : ℕ) (d e ix : List ℕ) (a : check_front f ≡ Ok tt) (right : sheet_right d ≡ true) (fits : front_fits f d ≡ true)
    (z : 1 ≤ t) (k : ix ≡ kept_tiles f d) (v : Result ⊤ Refusal) (p : v ≡ length_verdict f ix (length e))
  where
    judged : v ≡ lay_down_verdict f t ix (sheet_cells f d) (length e)
    judged = rw k (sheet_judged f t d (length e) a right fits v (λ y. omega arith) (rw k at p))

    pub sheet_passed : v ≡ Ok tt → lay_down_verdict f t ix (sheet_cells f d) (length e) ≡ Ok tt
    sheet_passed q = sym judged ∙ q

    pub sheet_refused : (r : Refusal) → v ≡ Err r → Err r ≡ sheet_laid f t d (length e)
    sheet_refused r q = rw k at (laid_refused f t ix (sheet_cells f d) e v judged r q).0 ∙ sheet_laid_lem f t d (length e) a right fits

    pub sheet_done :
        (n : ℕ) (l : List ℕ) → v ≡ Ok tt → n ≡ file_length f ix → l ≡ put e 0 (laid_file f t ix (sheet_cells f d)) →
        (Ok n ≡ sheet_laid f t d (length e)) × (l ≡ written (Ok n) (sheet_file f t d) e)
    unfolding sheet_file laid_out
    sheet_done n l q g x =
        let w = laid_done f t ix (sheet_cells f d) e v judged n l q g x in
        let y : l ≡ written (Ok n) (laid_file f t ix (sheet_cells f d)) e = w.1 ∙ ap (λ (r : Result ℕ Refusal). written r (laid_file f t ix (sheet_cells f d)) e) (sym w.0) in
        (rw k at w.0 ∙ sheet_laid_lem f t d (length e) a right fits, rw k at y)
