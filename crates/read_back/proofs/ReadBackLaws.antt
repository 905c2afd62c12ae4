-- A page laid down is accepted, and reads back (demand 2, second half). Assumes nothing.
use Rattle.std.specs.Prelude.{None, Ok, Some}
use Prim.Native.Nat.{ℕ, ◌+◌, ◌*◌, ◌-◌, ◌≤◌, ◌<◌}
use mathlib.Core.Path.{◌≡◌, sym, ap, ◌∙◌}
use mathlib.Core.List.{List}
use mathlib.Core.Logic.{⊎_elim}
use mathlib.Core.Bool.{true}
use native.Mathlib.Omega.{arith}
use lib.ListN.{length, get_or, drop}
use lib.Seq.{take_at}
use borrow.Author.Tests.{ne_eqb}
use Rattle.wire.specs.Tests.{sum_below}
use Rattle.wire.specs.Bytes.{part, number_at}
use Rattle.wire.proofs.TestLaws.{yes}
use Rattle.wire.proofs.PlaceLaws.{part_placed, placed_part}
use Rattle.answer.specs.declared.Cell.TheVariants as cell
use Rattle.answer.specs.Values.{value_of}
use Rattle.header.specs.Fields.{grid_rows, grid_columns, element_count}
use Rattle.header.specs.Element.{cell_size, element}
use Rattle.geometry.specs.Tiles.{cell_tile, tile_count}
use Rattle.geometry.specs.Sizes.{element_bytes, tile_bytes, plain_tile_length}
use Rattle.geometry.proofs.GridLaws.{tile_less}
use Rattle.bodies.specs.TileDirectory.{tile_reference}
use Rattle.bodies.specs.TileRecord.{element_content_at}
use Rattle.check_directory.specs.Correspondence.{OneToOne}
use Rattle.page_check.proofs.GivenLaws.{obeys_one}
use Rattle.cells.specs.Asked.{in_grid, in_tiles}
use Rattle.cells.specs.TileCells.{location_of, fill_of, offset_in, packed, place_in, cell_from, cell_in, content_in}
use Rattle.cells.specs.Meaning.{meaning, content_meaning}
use Rattle.cells.specs.Demand3.{bytes_of_cell}
use Rattle.cells.proofs.CellLaws.{grid_means, tiles_mean}
use Rattle.cells.proofs.ApartLaws.{offset_within}
use Rattle.tile_routes.specs.Ways.{referred_to, meant}
use Rattle.cells.specs.Routes.{tile_by, cell_by}
use Rattle.cells.proofs.DemandLaws.{demand_3}
use Rattle.tile_routes.proofs.WayLaws.{directory_finds}
use Rattle.written_records.proofs.TileLaws.{element_within}
use Rattle.lay_down.specs.Page.{laid_file}
use Rattle.lay_down.specs.Answer.{laid_out}
use Rattle.read_back.specs.ReadBack.{content_given, content_laid, cell_given, cell_laid, ListedAs, ReadBack}
use Rattle.written_rules.proofs.PlainLaws.{tile_section, tile_holds, tile_bytes_lem}
use Rattle.read_back.proofs.Setting.{Laying, laying_of, front_range, tiles_kept, tile_kept, size_kept, grid_kept, asked_kept, offset_kept, fill_kept, location_kept}
use Rattle.read_back.proofs.FrontLaws.{length_laid, byte_kept, front_kept, fields_laid}
use Rattle.read_back.proofs.TileLaws.{tile_whole}
use Rattle.read_back.proofs.RecordLaws.{index_below, cells_inside, tile_here}
use Rattle.read_back.proofs.DirectoryLaws.{given_reference, reference_found}
use Rattle.read_back.proofs.ObeyLaws.{laid_obeys, laid_accepted}

module _ {f : List ℕ} {t : ℕ} {ix c : List ℕ} (l : Laying f t ix c) where
  abbrev s : List ℕ
  s = laid_file f t ix c

  -- where the record of the k-th listed tile starts
  abbrev start : ℕ → ℕ
  start k = length f + k * plain_tile_length f

  one : OneToOne s
  one = obeys_one s _ (laid_obeys l)

  -- the record that is meant for a tile: that of a listed one, none of another

  listed_found : (k : ℕ) → k < length ix → meant s (get_or ix k 0) ≡ Some (start k)
  unfolding referred_to
  listed_found k h =
      let d : start k + 8 - 8 ≡ start k = omega arith in
      sym (directory_finds s one (get_or ix k 0) (omega (arith, index_below l k h, tiles_kept (front_kept l))))
      ∙ rw (given_reference l k h, ne_eqb (start k + 8) 0 (λ z. omega arith), d)

  unlisted_none : (tile : ℕ) → tile < tile_count f → ((k : ℕ) → k < length ix → get_or ix k 0 ≡ tile → ⊥) → meant s tile ≡ None
  unfolding referred_to
  unlisted_none tile h none =
      let z : tile_reference s tile ≡ 0 =
      ⊎_elim (λ x. x) (λ g. absurd (none g.number g.among g.index)) (reference_found l tile h) in
      sym (directory_finds s one tile (omega (arith, tiles_kept (front_kept l)))) ∙ rw z

  -- the bytes that were given for the elements of the listed tiles

  module _ (k : ℕ) (h : k < length ix) (e : ℕ) (g : e < element_count f) where
    content_place_lem : element_content_at s (start k) e ≡ content_laid f k e
    unfolding element_content_at content_laid
    content_place_lem = rw (tile_section (tile_here l k h) e (omega arith))

    bytes_given_lem : (o n : ℕ) → o + n ≤ element_bytes f e → part s (content_laid f k e + o) n ≡ part c (content_given f k e + o) n
    unfolding content_given
    bytes_given_lem o n m =
        let b = sum_below e (element_bytes f) in
        let w : b + o + n ≤ tile_bytes f = omega (arith, element_within f l.front.all e g) in
        let q : k * tile_bytes f + b + o ≡ k * tile_bytes f + (b + o) = omega arith in
        rw (← content_place_lem, q)
        (tile_bytes_lem (tile_here l k h) e g o n m
        ∙ sym (placed_part (part_placed c (k * tile_bytes f) (tile_bytes f) (cells_inside l k h)) (b + o) n (omega (arith, (tile_here l k h).long))))

    content_given_lem : content_given f k e + element_bytes f e ≤ length c
    unfolding content_given
    content_given_lem = omega (arith, cells_inside l k h, element_within f l.front.all e g)

    content_inside : content_laid f k e + element_bytes f e ≤ length s
    unfolding content_laid
    content_inside = tile_holds (tile_here l k h) e g

    content_bytes : part s (content_laid f k e) (element_bytes f e) ≡ part c (content_given f k e) (element_bytes f e)
    content_bytes =
        let p : content_laid f k e + 0 ≡ content_laid f k e = omega arith in
        let q : content_given f k e + 0 ≡ content_given f k e = omega arith in
        rw (p, q) at (bytes_given_lem 0 (element_bytes f e) (omega arith))

    content_read : content_meaning s (get_or ix k 0) e ≡ Ok (Some (record { start = content_laid f k e; length = element_bytes f e }))
    unfolding content_meaning tile_by in_tiles content_in
    content_read =
        let i : in_tiles s (get_or ix k 0) e ≡ true =
        sym (yes _ (omega (arith, index_below l k h, tiles_kept (front_kept l)), (omega (arith, (front_kept l).count), tt))) in
        rw (i, listed_found k h, tile_whole (front_kept l) (tile_here l k h) e g, content_place_lem, size_kept (front_kept l) e g)

  -- a tile that is not listed
  absent_read :
      (tile e : ℕ) → in_tiles f tile e ≡ true → ((k : ℕ) → k < length ix → get_or ix k 0 ≡ tile → ⊥) → content_meaning s tile e ≡ Ok None
  unfolding content_meaning tile_by
  absent_read tile e i none = rw (asked_kept (front_kept l) tile e, i, unlisted_none tile (tiles_mean f tile e i).0 none)

  -- a cell of the grid: what the record has that is meant for its tile
  module _ (row column e : ℕ) (i : in_grid f row column e ≡ true) where
    asked : (row < grid_rows f) × ((column < grid_columns f) × (e < element_count f))
    asked = grid_means f row column e i

    fill_read : (ci : ℕ) → ((k : ℕ) → ListedAs f ix k row column → ⊥) → meaning s ci row column e ≡ fill_of f (location_of f row column) e
    unfolding meaning cell_by
    fill_read ci none =
        let n = tile_less f row column (front_range l).sides.tile_rows_lem.0 (front_range l).sides.tile_columns_lem.0 asked.0 asked.1.0 in
        let z = unlisted_none (cell_tile f row column) n (λ k h g. none k (record { among = h; tile = g })) in
        rw (grid_kept (front_kept l) row column e, i, tile_kept (front_kept l) row column, z) (fill_kept (front_kept l) row column e asked.1.1)

    cell_inside_lem : offset_in f row column e + bytes_of_cell f e ≤ element_bytes f e
    cell_inside_lem = offset_within f row column e (front_range l).sides.tile_rows_lem.0 (front_range l).sides.tile_columns_lem.0

    module _ (k : ℕ) (q : ListedAs f ix k row column) where
      cell_given_lem : cell_given f k row column e + bytes_of_cell f e ≤ length c
      unfolding cell_given content_given
      cell_given_lem = omega (arith, cells_inside l k q.among, element_within f l.front.all e asked.1.1, cell_inside_lem)

      cell_bytes : part s (cell_laid f k row column e) (bytes_of_cell f e) ≡ part c (cell_given f k row column e) (bytes_of_cell f e)
      unfolding cell_laid cell_given
      cell_bytes = bytes_given_lem k q.among e asked.1.1 (offset_in f row column e) (bytes_of_cell f e) cell_inside_lem

      place : place_in s (start k) row column e ≡ cell_laid f k row column e
      unfolding place_in cell_laid
      place = rw (content_place_lem k q.among e asked.1.1, offset_kept (front_kept l) row column e asked.1.1)

      stored_read :
          (ci : ℕ) → meaning s ci row column e
          ≡ Ok (cell.Stored (value_of (element f e).kind (number_at (cell_size (element f e).kind) c (cell_given f k row column e))) (cell_laid f k row column e) (location_of f row column))
      unfolding meaning cell_by cell_in cell_from packed place_in number_at
      stored_read ci =
          let g = asked.1.1 in
          let r : meant s (cell_tile s row column) ≡ Some (start k) = ap (meant s) (tile_kept (front_kept l) row column ∙ sym q.tile) ∙ listed_found k q.among in
          rw (grid_kept (front_kept l) row column e, i, r, tile_whole (front_kept l) (tile_here l k q.among) e g, place, location_kept (front_kept l) row column, (front_kept l).elements e g, cell_bytes)

pub read_back : ReadBack
unfolding laid_out meaning cell_by content_meaning tile_by
read_back f t ix c out n b d e =
    let p = laying_of f t ix c (length out) n b d e in
    let l = p.0 in
    let s = laid_file f t ix c in
    let long : length s ≡ n = length_laid l ∙ p.1 in
    record {
      long = long;
      first = rw e (take_at s (drop n out) n long);
      reads =
          record {
            accepted = laid_accepted l;
            stored = λ ci row column x k i q. stored_read l row column x i k q ci;
            given = λ row column x k i q. cell_given_lem l row column x i k q;
            bytes = λ row column x k i q. cell_bytes l row column x i k q;
            fill = λ ci row column x i none. fill_read l row column x i ci none;
            content = λ k x h g. content_read l k h x g;
            content_given_lem = λ k x h g. content_given_lem l k h x g;
            content_inside = λ k x h g. content_inside l k h x g;
            content_bytes = λ k x h g. content_bytes l k h x g;
            absent = λ tile x i none. absent_read l tile x i none;
            outside = λ ci row column x i. rw (grid_kept (front_kept l) row column x, i);
            content_outside = λ tile x i. rw (asked_kept (front_kept l) tile x, i);
            fields = fields_laid l;
            front = λ i h o. byte_kept l i h o;
            routes = demand_3 s (laid_accepted l);
          };
    }
