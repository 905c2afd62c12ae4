-- Stage 9: what the functions answer, put together. Assumes nothing.
use Prim.Native.Nat.{ℕ, ◌+◌, ◌*◌, ◌-◌, ◌/◌, ◌≤◌, ◌<◌, min}
use mathlib.Core.Path.{◌≡◌, refl, sym, ◌∙◌}
use mathlib.Core.List.{List, [], ◌∷◌}
use mathlib.Core.Bool.{true}
use native.Mathlib.Omega.{arith}
use lib.ListN.{length}
use lib.Dec.{leb}
use borrow.Author.Tests.{eqb-true, eq-eqb, ne_eqb, le-leb, leb-true}
use Rattle.wire.proofs.TestLaws.{iff}
use Rattle.wire.proofs.ListLaws.{some_member, select_member}
use Rattle.header.specs.Fields.{metadata_reference, file_space_reference}
use Rattle.record.specs.Types.{metadata_directory_type, file_space_directory_type}
use Rattle.record.specs.Record.{record_limit}
use Rattle.record.specs.Chain.{records, records_of, header_end}
use Rattle.record.proofs.ChainLaws.{ok_means, starts_ok}
use Rattle.bodies.specs.TileDirectory.{tile_directory_at, standard_references, reference_count, reference_size, references_end}
use Rattle.bodies.proofs.DirectoryLaws.{size_standard, size_compact}
use Rattle.bodies.specs.ListDirectories.{file_space_at, free_count, free_entry_at, metadata_at}
use Rattle.check_directory.specs.References.{refers_to, refers_or_zero}
use Rattle.reasons.specs.Rows.{at_most, judged, first_failing, Reason}
use Rattle.reasons.proofs.ReasonLaws.{first_none, first_more, first_joined, or_kept, or_broken, or_end}
use Rattle.explain.specs.DirectoryRows.{farthest, reference_place, padded_rows, metadata_fitting_rows, metadata_fit_rows, free_fitting_rows, free_fit_rows}
use Rattle.std.specs.Prelude.{Ok}

-- a reference that is a record's content lies in the file
pub referred_inside : (s : List ℕ) (kind reference : ℕ) → refers_to s kind reference ≡ true → reference - 8 < length s
unfolding refers_to records_of records
referred_inside s kind reference e =
    some_member (reference - 8 < length s) _ _ e
    (λ x m q.
    let z = eqb-true (x + 8) reference q in
    let o = ok_means s x (starts_ok s x (header_end s) (select_member _ _ m).0) in
    omega (arith, z, o.long, o.inside))

-- the end of the references

place_told :
    (s : List ℕ) (b n z r : ℕ) → b ≡ tile_directory_at s + 32 → z ≡ reference_size s → r ≡ min (b + n * z) farthest → r ≡ reference_place s n
unfolding reference_place
place_told s b n z r p t e = rw (← p, ← t) e

pub references_end_told : (s : List ℕ) (n r : ℕ) → n ≡ reference_count s → r ≡ reference_place s n → r ≡ min (references_end s) farthest
unfolding reference_place references_end
references_end_told s n r p e = rw (← p) e

module _ (s : List ℕ) (b n at f : ℕ) (p : b ≡ tile_directory_at s + 32) (g : at ≡ tile_directory_at s) (t : f ≡ standard_references s at) where
  pub standard_past : f ≡ 1 → (farthest - b) / 8 < n → b ≤ farthest → farthest ≡ reference_place s n
  standard_past h k l = place_told s b n 8 farthest p (size_standard s at f g t h) (omega arith)

  pub standard_inside : f ≡ 1 → n ≤ (farthest - b) / 8 → b ≤ farthest → b + n * 8 ≡ reference_place s n
  standard_inside h k l = place_told s b n 8 (b + n * 8) p (size_standard s at f g t h) (omega arith)

  pub compact_past : (f ≡ 1 → ⊥) → (farthest - b) / 4 < n → b ≤ farthest → farthest ≡ reference_place s n
  compact_past h k l = place_told s b n 4 farthest p (size_compact s at f g t h) (omega arith)

  pub compact_inside : (f ≡ 1 → ⊥) → n ≤ (farthest - b) / 4 → b ≤ farthest → b + n * 4 ≡ reference_place s n
  compact_inside h k l = place_told s b n 4 (b + n * 4) p (size_compact s at f g t h) (omega arith)

pub ruleset references = (standard_past, standard_inside, compact_past, compact_inside)

-- padding

pub padded_is :
    (s : List ℕ) (rule at end : ℕ) → end ≤ farthest →
    padded_rows s rule at end ≡ at_most rule 0 at end (record_limit s at) ∷ at_most (rule + 1) 0 at (record_limit s at) (end + 7) ∷ []
unfolding padded_rows
padded_is s rule at end h = let z : min end farthest ≡ end = omega arith in rw z refl

pub ruleset padded = (first_none, first_more, or_kept, or_broken, or_end, padded_is)

limit_below : (s : List ℕ) (at : ℕ) → length s ≤ farthest → record_limit s at < farthest
unfolding record_limit
limit_below s at h = omega arith

held_most : (l e : ℕ) → l < farthest → leb (min e farthest) l ≡ leb e l
held_most l e h =
    iff _ _
    (λ d. let g = leb-true (min e farthest) l d in le-leb e l (omega arith))
    (λ d. let g = leb-true e l d in le-leb (min e farthest) l (omega arith))

held_least : (l e : ℕ) → l < farthest → leb l (min e farthest + 7) ≡ leb l (e + 7)
held_least l e h =
    iff _ _
    (λ d. let g = leb-true l (min e farthest + 7) d in le-leb l (e + 7) (omega arith))
    (λ d. let g = leb-true l (e + 7) d in le-leb l (min e farthest + 7) (omega arith))

pub padding_held :
    (s : List ℕ) (rule at e : ℕ) → length s ≤ farthest → first_failing (padded_rows s rule at (min e farthest)) ≡ first_failing (padded_rows s rule at e)
unfolding first_failing padded_rows judged
padding_held s rule at e h =
    let l = limit_below s at h in
    let z : min (min e farthest) farthest ≡ min e farthest = omega arith in
    rw (z, held_most (record_limit s at) e l, held_least (record_limit s at) e l) refl

pub references_fit_told :
    (s : List ℕ) (a e : ℕ) (r : Reason) → a ≡ tile_directory_at s → e ≡ min (references_end s) farthest → r ≡ first_failing (padded_rows s 56 a e) →
    length s ≤ farthest → r ≡ first_failing (padded_rows s 56 (tile_directory_at s) (references_end s))
references_fit_told s a e r p q d h = d ∙ rw (p, q) (padding_held s 56 (tile_directory_at s) (references_end s) h)

-- the lists

module _ (s : List ℕ) (r : ℕ) (p : r ≡ metadata_reference s) where
  pub metadata_fit_none : r ≡ 0 → Ok tt ≡ first_failing (metadata_fit_rows s)
  unfolding metadata_fit_rows
  metadata_fit_none h = rw (← p, eq-eqb r 0 h) (sym first_none)

  pub metadata_fit_some : (x : Reason) → (r ≡ 0 → ⊥) → x ≡ first_failing (metadata_fitting_rows s) → x ≡ first_failing (metadata_fit_rows s)
  unfolding metadata_fit_rows
  metadata_fit_some x h e = rw (← p, ne_eqb r 0 h) e

  pub metadata_inside : (r ≡ 0 → ⊥) → refers_or_zero s metadata_directory_type (metadata_reference s) ≡ true → metadata_at s < length s
  unfolding metadata_at refers_or_zero
  metadata_inside h e = referred_inside s metadata_directory_type (metadata_reference s) (rw (ne_eqb (metadata_reference s) 0 (λ z. h (p ∙ z))) at e)

module _ (s : List ℕ) (r : ℕ) (p : r ≡ file_space_reference s) where
  pub free_fit_none : r ≡ 0 → Ok tt ≡ first_failing (free_fit_rows s)
  unfolding free_fit_rows
  free_fit_none h = rw (← p, eq-eqb r 0 h) (sym first_none)

  pub free_fit_some : (x : Reason) → (r ≡ 0 → ⊥) → x ≡ first_failing (free_fitting_rows s) → x ≡ first_failing (free_fit_rows s)
  unfolding free_fit_rows
  free_fit_some x h e = rw (← p, ne_eqb r 0 h) e

  pub free_inside : (r ≡ 0 → ⊥) → refers_or_zero s file_space_directory_type (file_space_reference s) ≡ true → file_space_at s < length s
  unfolding file_space_at refers_or_zero
  free_inside h e = referred_inside s file_space_directory_type (file_space_reference s) (rw (ne_eqb (file_space_reference s) 0 (λ z. h (p ∙ z))) at e)

pub free_end_told : (s : List ℕ) (a n : ℕ) → a ≡ file_space_at s → n ≡ free_count s → a + 12 + 12 * n ≡ free_entry_at s (free_count s)
unfolding free_entry_at
free_end_told s a n p q = rw (p, q)
