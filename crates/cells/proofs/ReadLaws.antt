-- Look-ups and reads: the check's refusal, or the answer by a way, which is the cell's meaning. Assumes nothing.
use Rattle.std.specs.Prelude.{Err, None, Ok, Option, Result, Some, ⊤}
use Rattle.answer.specs.declared.Extent.{Extent}
use Prim.Native.Nat.{ℕ, ◌+◌, ◌<◌}
use mathlib.Core.Path.{◌≡◌, refl, sym, ◌∙◌}
use mathlib.Core.List.{List}
use mathlib.Core.Bool.{Bool, true, false}
use native.Mathlib.Omega.{arith}
use lib.ListN.{length}
use Rattle.wire.specs.Bytes.{part, part_at}
use Rattle.wire.proofs.TestLaws.{means, yes}
use Rattle.answer.specs.declared.Refusal.{Refusal}
use Rattle.answer.specs.declared.Refusal.TheVariants.{Directory, OutsideGrid}
use Rattle.answer.specs.declared.Cell.{Cell}
use Rattle.answer.specs.declared.Cell.TheVariants as cell
use Rattle.answer.specs.declared.Held.{Held}
use Rattle.answer.specs.declared.Held.TheVariants as held
use Rattle.answer.specs.Answers.{content_place, content_length}
use Rattle.answer.proofs.VerdictLaws.{behind_passed, refusal_handed, answer_behind, same_behind}
use Rattle.record.specs.Chain.{header_end, records}
use Rattle.geometry.specs.Tiles.{cell_tile, tile_count}
use Rattle.geometry.proofs.GridLaws.{tile_less}
use Rattle.check_header.specs.HeaderRecord.{header_right}
use Rattle.check_header.specs.Ceilings.{within_ceilings}
use Rattle.check_header.specs.Passed.{Headed}
use Rattle.bodies.specs.TileDirectory.{tile_directory_at}
use Rattle.page_check.specs.Stages.{check_to_bodies, check}
use Rattle.page_check.specs.Accepted.{Sound}
use Rattle.page_check.proofs.AcceptedLaws.{accepted_sound, headed_if}
use Rattle.page_check.proofs.StageLaws.{bodies_then}
use Rattle.page_check.proofs.GivenLaws.{sound_one}
use Rattle.tile_routes.specs.declared.Route.TheVariants as route
use Rattle.cells.specs.Asked.{in_grid, in_tiles}
use Rattle.tile_routes.specs.Ways.{meant, referred_to, walked_to, found_by}
use Rattle.cells.specs.Routes.{cell_by, tile_by, content_by}
use Rattle.cells.specs.Meaning.{meaning, content_meaning, held_meaning}
use Rattle.cells.specs.Reads.{read_by_directory, read_by_walk, read_by_records, read_meaning, records_meaning, read_content, read_held}
use Rattle.cells.specs.Demand3.{SoundCells}
use Rattle.cells.specs.inner.Lookups.{sides_lawful, in_reach, reached_by, cell_reached, guarded, looked_up, looked_tile, looked_up_content, looked_up_held}
use Rattle.cells.specs.TileCells.{content_of, held_of}
use Rattle.cells.proofs.CellLaws.{sides_mean, grid_means, tiles_mean}
use Rattle.tile_routes.proofs.WayLaws.{walk_finds, directory_finds, meant_is}
use Rattle.cells.proofs.RouteLaws.{cell_same, tile_same}

-- what a look-up answers, by its tests

module _ {A : Type 0} (refused : Refusal → A) (s : List ℕ) (there b : Bool) (p : b ≡ there) (x : A) where
  pub guarded_outside : b ≡ false → refused OutsideGrid ≡ guarded refused there s x
  unfolding guarded
  guarded_outside f = rw (← p, f)

  module _ (c : Bool) (q : c ≡ sides_lawful s) (f : b ≡ true) where
    pub guarded_unlawful : c ≡ false → refused Directory ≡ guarded refused there s x
    unfolding guarded
    guarded_unlawful g = rw (← p, f, ← q, g)

    pub guarded_answer : (y : A) → c ≡ true → y ≡ x → y ≡ guarded refused there s x
    unfolding guarded
    guarded_answer y g k = rw (← p, f, ← q, g) k

module _ (s : List ℕ) (b c : Bool) (q : c ≡ sides_lawful s) (f : b ≡ true) (h : c ≡ true) where
  pub looked_found :
      (way : ℕ → Option ℕ) (ci row column e : ℕ) → b ≡ in_grid s row column e → (i : ℕ) (g : Option ℕ) (x : Result Cell Refusal) → i ≡ cell_tile s row column → g ≡ way i →
      x ≡ cell_reached s ci row column e g → x ≡ looked_up s ci way row column e
  unfolding looked_up
  looked_found way ci row column e p i g x t m k = guarded_answer Err s _ b p _ c q f x h (k ∙ rw (m, t))

  pub tile_looked :
      {A : Type 0} (refused : Refusal → A) (said : Option ℕ → A) (way : ℕ → Option ℕ) (tile e : ℕ) → b ≡ in_tiles s tile e → (i : ℕ) (g : Option ℕ) (x : A) → i ≡ tile → g ≡ way i →
      x ≡ reached_by refused said s g → x ≡ looked_tile refused said s way tile e
  unfolding looked_tile
  tile_looked refused said way tile e p i g x t m k = guarded_answer refused s _ b p _ c q f x h (k ∙ rw (m, t))

-- where the sides are lawful and a way finds what is meant, a look-up by it is the meaning

reach_meant : (s : List ℕ) (i : ℕ) → in_reach s (meant s i) ≡ true
reach_meant s i = go (meant s i) refl
  where
    go : (f : Option ℕ) → meant s i ≡ f → in_reach s f ≡ true
    go None e = refl
    go (Some x) e = sym (yes _ (omega (arith, (meant_is s i x e).inside), tt))

module _ (s : List ℕ) (way : ℕ → Option ℕ) (lawful : sides_lawful s ≡ true) (finds : (i : ℕ) → i < tile_count s → way i ≡ meant s i) where
  pub way_means : (ci row column e : ℕ) → cell_by s ci way row column e ≡ meaning s ci row column e
  unfolding meaning
  way_means ci row column e =
      let d = sides_mean s lawful in
      cell_same s way (meant s) finds ci row column e (omega (arith, d.tile_rows_lem.0)) (omega (arith, d.tile_columns_lem.0))

  pub looked_means : (ci row column e : ℕ) → looked_up s ci way row column e ≡ meaning s ci row column e
  unfolding looked_up guarded reached_by meaning cell_by
  looked_means ci row column e = go (in_grid s row column e) refl
    where
      go : (b : Bool) → in_grid s row column e ≡ b → looked_up s ci way row column e ≡ cell_by s ci (meant s) row column e
      go true f =
          let g = grid_means s row column e f in
          let d = sides_mean s lawful in
          let t = tile_less s row column (omega (arith, d.tile_rows_lem.0)) (omega (arith, d.tile_columns_lem.0)) g.0 g.1.0 in
          rw (f, lawful, finds (cell_tile s row column) t, reach_meant s (cell_tile s row column))
      go false f = rw f

  pub tile_looked_means : {A : Type 0} (refused : Refusal → A) (said : Option ℕ → A) (tile e : ℕ) → looked_tile refused said s way tile e ≡ tile_by refused said s (meant s) tile e
  unfolding looked_tile guarded reached_by tile_by
  tile_looked_means refused said tile e = go (in_tiles s tile e) refl
    where
      go : (b : Bool) → in_tiles s tile e ≡ b → looked_tile refused said s way tile e ≡ tile_by refused said s (meant s) tile e
      go true f = rw (f, lawful, finds tile (tiles_mean s tile e f).0, reach_meant s tile)
      go false f = rw f

  pub content_way_means : (tile e : ℕ) → content_by s way tile e ≡ content_meaning s tile e
  unfolding content_meaning
  content_way_means tile e = tile_same s way (meant s) finds Err (content_of s e) tile e

  pub content_looked_means : (tile e : ℕ) → looked_up_content s way tile e ≡ content_meaning s tile e
  unfolding content_meaning
  content_looked_means tile e = tile_looked_means Err (content_of s e) tile e

-- lawful sides, from the check

lawful_of : (s : List ℕ) → Headed s (length s) → sides_lawful s ≡ true
unfolding header_right within_ceilings sides_lawful
lawful_of s h = sym (yes _ ((means _ h.header).1.0, ((means _ h.ceilings).1.0, tt)))

pub bodies_lawful : (s : List ℕ) → check_to_bodies s ≡ Ok tt → sides_lawful s ≡ true
unfolding check_to_bodies
bodies_lawful s e = lawful_of s (headed_if s (behind_passed _ _ e).0).0

pub sound_lawful : (s : List ℕ) → Sound s → sides_lawful s ≡ true
sound_lawful s o = lawful_of s o.headed

pub check_lawful : (s : List ℕ) → check s ≡ Ok tt → sides_lawful s ≡ true
check_lawful s e = sound_lawful s (accepted_sound s e)

pub passed_bodies : (s : List ℕ) → check s ≡ Ok tt → check_to_bodies s ≡ Ok tt
passed_bodies s a = (behind_passed _ _ (sym (bodies_then s) ∙ a)).0

-- so by the directory of a sound page, and by the walk

pub sound_finds : (s : List ℕ) → Sound s → (i : ℕ) → i < tile_count s → referred_to s (tile_directory_at s) i ≡ meant s i
sound_finds s o i h = directory_finds s (sound_one s (records s) o) i h

pub accepted_finds : (s : List ℕ) → check s ≡ Ok tt → (i : ℕ) → i < tile_count s → referred_to s (tile_directory_at s) i ≡ meant s i
accepted_finds s a = sound_finds s (accepted_sound s a)

pub walked_finds : (s : List ℕ) (i : ℕ) → i < tile_count s → walked_to s (header_end s) i ≡ meant s i
walked_finds s i h = walk_finds s i

module _ (s : List ℕ) (at ci row column e : ℕ) (x : Result Cell Refusal) where
  pub looked_directory : x ≡ looked_up s ci (found_by s (route.Directory at)) row column e → at ≡ tile_directory_at s → x ≡ looked_up s ci (referred_to s (tile_directory_at s)) row column e
  unfolding found_by
  looked_directory p q = p ∙ rw q

  pub directory_answer : x ≡ looked_up s ci (found_by s (route.Directory at)) row column e → at ≡ tile_directory_at s → check s ≡ Ok tt → x ≡ meaning s ci row column e
  directory_answer p q a = looked_directory p q ∙ looked_means s _ (check_lawful s a) (accepted_finds s a) ci row column e

  pub walk_answer : x ≡ looked_up s ci (found_by s (route.Walk at)) row column e → at ≡ header_end s → sides_lawful s ≡ true → x ≡ meaning s ci row column e
  unfolding found_by
  walk_answer p q l = p ∙ rw q (looked_means s _ l (walked_finds s) ci row column e)

pub tile_answer :
    {A : Type 0} (refused : Refusal → A) (said : Option ℕ → A) (s : List ℕ) (at tile e : ℕ) (x : A) → x ≡ looked_tile refused said s (found_by s (route.Directory at)) tile e →
    at ≡ tile_directory_at s → check s ≡ Ok tt → x ≡ tile_by refused said s (meant s) tile e
unfolding found_by
tile_answer refused said s at tile e x p q a = p ∙ rw q (tile_looked_means s _ (check_lawful s a) (accepted_finds s a) refused said tile e)

pub content_answer :
    (s : List ℕ) (at tile e : ℕ) (x : Result (Option Extent) Refusal) → x ≡ looked_up_content s (found_by s (route.Directory at)) tile e → at ≡ tile_directory_at s → check s ≡ Ok tt →
    x ≡ content_meaning s tile e
unfolding content_meaning
content_answer s at tile e x p q a = tile_answer Err (content_of s e) s at tile e x p q a

pub held_answer :
    (s : List ℕ) (ci at tile e : ℕ) (x : Result Held Refusal) → x ≡ looked_up_held s ci (found_by s (route.Directory at)) tile e → at ≡ tile_directory_at s → check s ≡ Ok tt →
    x ≡ held_meaning s ci tile e
unfolding held_meaning
held_answer s ci at tile e x p q a = tile_answer Err (held_of s ci e) s at tile e x p q a

pub sound_cells : SoundCells
sound_cells s o ci =
    record {
      through_directory_lem = way_means s _ (sound_lawful s o) (sound_finds s o) ci;
      along_records = way_means s _ (sound_lawful s o) (walked_finds s) ci;
    }

-- each read is the check's refusal or the meaning, on any bytes

module _ (s : List ℕ) (ci row column e : ℕ) where
  pub directory_read : read_by_directory s ci row column e ≡ read_meaning s ci row column e
  unfolding read_by_directory read_meaning
  directory_read = same_behind Err (check s) _ _ (λ a. way_means s _ (check_lawful s a) (accepted_finds s a) ci row column e)

  pub walk_read : read_by_walk s ci row column e ≡ read_meaning s ci row column e
  unfolding read_by_walk read_meaning
  walk_read = same_behind Err (check s) _ _ (λ a. way_means s _ (check_lawful s a) (walked_finds s) ci row column e)

  pub records_read : read_by_records s ci row column e ≡ records_meaning s ci row column e
  unfolding read_by_records records_meaning
  records_read = same_behind Err (check_to_bodies s) _ _ (λ a. way_means s _ (bodies_lawful s a) (walked_finds s) ci row column e)

-- a function that answers so

module _ (s : List ℕ) (v : Result ⊤ Refusal) (p : v ≡ check s) where
  pub mean_refused : (ci row column e : ℕ) (x : Refusal) → v ≡ Err x → Err x ≡ read_meaning s ci row column e
  unfolding read_meaning
  mean_refused ci row column e x f = refusal_handed Err v (check s) p _ x f

  pub mean_answer : (ci row column e : ℕ) (x : Result Cell Refusal) → v ≡ Ok tt → (check s ≡ Ok tt → x ≡ meaning s ci row column e) → x ≡ read_meaning s ci row column e
  unfolding read_meaning
  mean_answer ci row column e x f g = answer_behind Err v (check s) p _ x f g

  pub content_refused : (tile e : ℕ) (x : Refusal) → v ≡ Err x → Err x ≡ read_content s tile e
  unfolding read_content
  content_refused tile e x f = refusal_handed Err v (check s) p _ x f

  pub content_mean : (tile e : ℕ) (x : Result (Option Extent) Refusal) → v ≡ Ok tt → (check s ≡ Ok tt → x ≡ content_meaning s tile e) → x ≡ read_content s tile e
  unfolding read_content
  content_mean tile e x f g = answer_behind Err v (check s) p _ x f g

  pub held_refused : (ci tile e : ℕ) (x : Refusal) → v ≡ Err x → Err x ≡ read_held s ci tile e
  unfolding read_held
  held_refused ci tile e x f = refusal_handed Err v (check s) p _ x f

  pub held_mean : (ci tile e : ℕ) (x : Result Held Refusal) → v ≡ Ok tt → (check s ≡ Ok tt → x ≡ held_meaning s ci tile e) → x ≡ read_held s ci tile e
  unfolding read_held
  held_mean ci tile e x f g = answer_behind Err v (check s) p _ x f g

module _ (s : List ℕ) (v : Result ⊤ Refusal) (p : v ≡ check_to_bodies s) (ci row column e : ℕ) where
  pub bodies_refused : (x : Refusal) → v ≡ Err x → Err x ≡ records_meaning s ci row column e
  unfolding records_meaning
  bodies_refused x f = refusal_handed Err v (check_to_bodies s) p _ x f

  pub bodies_answer : (x : Result Cell Refusal) → v ≡ Ok tt → (check_to_bodies s ≡ Ok tt → x ≡ meaning s ci row column e) → x ≡ records_meaning s ci row column e
  unfolding records_meaning
  bodies_answer x f g = answer_behind Err v (check_to_bodies s) p _ x f g

-- by its route, and by the meaning

module _ (s : List ℕ) (ci row column e : ℕ) (x : Result Cell Refusal) where
  pub both_directory : x ≡ read_meaning s ci row column e → (x ≡ read_by_directory s ci row column e) × (x ≡ read_meaning s ci row column e)
  both_directory g = (g ∙ sym (directory_read s ci row column e), g)

  pub both_walk : x ≡ read_meaning s ci row column e → (x ≡ read_by_walk s ci row column e) × (x ≡ read_meaning s ci row column e)
  both_walk g = (g ∙ sym (walk_read s ci row column e), g)

  pub both_records : x ≡ records_meaning s ci row column e → (x ≡ read_by_records s ci row column e) × (x ≡ records_meaning s ci row column e)
  both_records g = (g ∙ sym (records_read s ci row column e), g)

-- an element's content as a part of the file

pub part_is :
    (s l : List ℕ) (a n : ℕ) (x y : Result (Option Extent) Refusal) → x ≡ y → a ≡ content_place x → n ≡ content_length x → l ≡ part s a n →
    l ≡ part s (content_place y) (content_length y)
part_is s l a n x y p q t f = f ∙ rw (q, t, p)

pub offset_at :
    (s : List ℕ) (a n o b : ℕ) (x y : Result (Option Extent) Refusal) → x ≡ y → a ≡ content_place x → n ≡ content_length x → o ≡ b + part_at s a n →
    o ≡ b + part_at s (content_place y) (content_length y)
offset_at s a n o b x y p q t f = f ∙ rw (q, t, p)
