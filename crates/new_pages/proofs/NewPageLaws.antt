-- A page from nothing is accepted, reads back, and says what it was told. Assumes nothing.
use Rattle.std.specs.Prelude.{Ok}
use Prim.Native.Nat.{ℕ, min, ◌*◌, ◌≤◌, ◌<◌}
use mathlib.Core.Path.{◌≡◌, sym, ap, ◌∙◌}
use mathlib.Core.List.{List}
use mathlib.Core.Bool.{true}
use native.Mathlib.Omega.{arith}
use lib.ListN.{length}
use Rattle.wire.proofs.TestLaws.{yes, sum_same}
use Rattle.answer.specs.Refusals.{gate, unless_refused}
use Rattle.header.specs.Element.{integer_coded_kind, element, entries_read}
use Rattle.geometry.specs.Tiles.{tiles_in, tile_count}
use Rattle.geometry.specs.Sizes.{element_bytes, tile_bytes}
use Rattle.fronts.specs.Front.{Description, front_of, range_number}
use Rattle.fronts.specs.Judged.{tile_told, FrontSays}
use Rattle.fronts.specs.Given.{described_by}
use Rattle.fronts.proofs.SaysLaws.{says}
use Rattle.fronts.proofs.GivenLaws.{made_fits, front_made_lem}
use Rattle.lay_down.specs.Page.{directory_start, file_length, laid_file}
use Rattle.check_header.specs.Stages.{check_front}
use Rattle.lay_down.specs.Answer.{ascending, input_right, length_allowed, fits_in, length_verdict, input_verdict, lay_down_verdict, laid}
use Rattle.read_back.proofs.ReadBackLaws.{read_back}
use Rattle.new_pages.specs.NewPage.{FromNothing}
use Rattle.new_pages.proofs.CarriedLaws.{carried_kept}

module _ (d : Description) (s : List ℕ) (w : FrontSays s d) where
  tiles_told : tile_count s ≡ tiles_in d.rows d.columns d.tile_rows_lem d.tile_columns_lem
  unfolding tile_count
  tiles_told = rw (w.rows, w.columns, w.tile_rows_lem, w.tile_columns_lem)

  bytes_told : tile_bytes s ≡ tile_told d.tile_rows_lem d.tile_columns_lem d.elements d.element
  unfolding tile_bytes entries_read element_bytes tile_told
  bytes_told =
      rw w.elements
      (sum_same (min d.elements 16) _ _ (λ e h. rw (w.tile_rows_lem, w.tile_columns_lem, (w.each e (omega arith)).kind)))

  coded_told : (e : ℕ) → e < d.elements → (d.element e).kind ≡ integer_coded_kind → (element s e).fill ≡ (d.element e).range 7
  unfolding range_number
  coded_told e h k = (w.each e h).fill ∙ rw k

longer : (f ix : List ℕ) → length f ≤ file_length f ix
unfolding file_length directory_start
longer f ix = omega arith

-- a lay-down that is given what it wants is not refused

input_yes :
    (f : List ℕ) (t : ℕ) (ix c : List ℕ) → (t ≡ 0 → ⊥) → ascending (tile_count f) 0 ix ≡ true → length c ≡ length ix * tile_bytes f → input_right f t ix c ≡ true
unfolding input_right
input_yes f t ix c h i k = sym (yes _ (h, (i, (k, tt))))

allowed_yes : (f ix : List ℕ) → file_length f ix ≤ 16777216 → length_allowed f ix ≡ true
unfolding length_allowed
allowed_yes f ix h = sym (yes _ (h, tt))

fits_yes : (f ix : List ℕ) (room : ℕ) → file_length f ix ≤ room → fits_in f ix room ≡ true
unfolding fits_in
fits_yes f ix room h = sym (yes _ (h, tt))

laid_yes :
    (f : List ℕ) (t : ℕ) (ix c : List ℕ) (room : ℕ) → check_front f ≡ Ok tt → input_right f t ix c ≡ true → length_allowed f ix ≡ true → fits_in f ix room ≡ true →
    laid f t ix c room ≡ Ok (file_length f ix)
unfolding laid lay_down_verdict input_verdict length_verdict gate unless_refused
laid_yes f t ix c room a b d e = rw (a, b, d, e)

pub from_nothing : FromNothing
from_nothing g u es ts room n t ix c out wg bu we bt bc e given low fits =
    let d = described_by g u es ts in
    let f = front_of (described_by g u es ts) in
    let m = front_made_lem g u es ts room n wg bu we bt e in
    let ft = made_fits g u es ts room n wg we e in
    let k : length c ≡ length ix * tile_bytes f = given.cells ∙ ap (λ (x : ℕ). length ix * x) (sym (bytes_told d f m.says)) in
    let i : ascending (tile_count f) 0 ix ≡ true = rw (tiles_told d f m.says) given.indexes in
    let a : laid f t ix c (length out) ≡ Ok (file_length f ix) =
    laid_yes f t ix c (length out) m.accepted (input_yes f t ix c given.time i k) (allowed_yes f ix low) (fits_yes f ix (length out) fits) in
    let r = read_back f t ix c out (file_length f ix) m.bytes bc a in
    let h : length (laid_file f t ix c) ≡ file_length f ix = r.long in
    let w = says d ft (laid_file f t ix c) (carried_kept d ft (laid_file f t ix c) (omega (arith, longer f ix)) r.reads.front) in
    record { answer = a; done = r; says = w; coded_fill = coded_told d (laid_file f t ix c) w }
