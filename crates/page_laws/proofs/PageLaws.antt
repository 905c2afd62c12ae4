-- A page put together of a front and pieces is sound where these keep the rules. Assumes nothing.
use Prim.Native.Nat.{ℕ}
use mathlib.Core.Path.{◌≡◌, sym, ◌∙◌}
use mathlib.Core.List.{List, ◌++◌}
use mathlib.Core.Bool.{true}
use lib.ListN.{length}
use Rattle.record.specs.Chain.{records, joined, WellFormed}
use Rattle.check_header.specs.Passed.{Headed}
use Rattle.check_header.specs.Judged.{SameJudged}
use Rattle.check_records.specs.declared.Rule.{Rule}
use Rattle.check_records.specs.declared.Rule.TheVariants.{Checksum, Body}
use Rattle.check_records.specs.Checksum.{checksum_right}
use Rattle.check_records.specs.Faults.{checksum_fault, body_fault}
use Rattle.check_directory.specs.TileRules.{tile_directory_right}
use Rattle.check_lists.specs.Metadata.{metadata_directory_right}
use Rattle.page_check.specs.Stages.{unless, check_records}
use Rattle.page_check.specs.Accepted.{Sound}
use Rattle.page_check.proofs.AcceptedLaws.{sound_of}
use Rattle.page_check.proofs.GivenLaws.{sound_range}
use Rattle.alone.specs.Alone.{Front, AllAlone}
use Rattle.alone.proofs.PieceLaws.{none_here, here_right, wrong_none, checksums, bodies}
use Rattle.alone.proofs.EditedLaws.{chain_none}
use Rattle.writable.specs.Parts.{Parted}
use Rattle.page_laws.specs.Tiles.{SameUnset}
use Rattle.page_laws.proofs.FrontLaws.{judged_kept}

-- the pieces of a sound page keep stages 7 and 8
pub parted_alone : {s f : List ℕ} {rs : List (List ℕ)} → Parted s f rs → (rule : Rule) → AllAlone f rule rs
unfolding checksum_fault body_fault
parted_alone {s} {f} {rs} p Checksum =
    let t = f ++ joined rs in
    let h = here_right t Checksum 16 (records t) p.checksums in
    wrong_none f p.front rs p.formed Checksum (sym (none_here t Checksum 16 (records t) h) ∙ p.checksums)
parted_alone {s} {f} {rs} p Body = wrong_none f p.front rs p.formed Body p.bodies

-- what is judged of a page that keeps the header's bytes which no call sets
pub sound_judged : {s t : List ℕ} → Sound s → SameUnset s t → SameJudged s t
sound_judged {s} o k = let r = sound_range s (records s) o in judged_kept k.low k.high r.header_least r.header_inside k.whole

-- and a page of pieces that keep them is sound
pub made_sound :
    (f : List ℕ) (rs : List (List ℕ)) → Front f → WellFormed rs → Headed (f ++ joined rs) (length (f ++ joined rs)) →
    checksum_right (f ++ joined rs) 16 ≡ true → ((rule : Rule) → AllAlone f rule rs) → tile_directory_right (f ++ joined rs) ≡ true →
    metadata_directory_right (f ++ joined rs) ≡ true → Sound (f ++ joined rs)
unfolding check_records unless
made_sound f rs w v h c a t m =
    sound_of (f ++ joined rs) h (rw (chain_none f w rs v, checksums f w rs v c (a Checksum), bodies f w rs v (a Body))) t m
