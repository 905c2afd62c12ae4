-- What the rules of a sound page, and those of an accepted file, give the layers above. Assumes nothing.
use Rattle.std.specs.Prelude.{Ok}
use Prim.Native.Nat.{ℕ}
use mathlib.Core.Path.{◌≡◌}
use mathlib.Core.List.{List, Memᴰ}
use mathlib.Core.Bool.{true}
use lib.ListN.{length}
use Rattle.wire.proofs.TestLaws.{means}
use Rattle.record.specs.Record.{type_at}
use Rattle.record.specs.Chain.{records_of}
use Rattle.check_records.specs.TileBody.{tile_right}
use Rattle.check_records.specs.MetadataBody.{metadata_right}
use Rattle.check_records.specs.Faults.{body_right}
use Rattle.check_directory.specs.TileRules.{tile_directory_right}
use Rattle.check_directory.specs.Correspondence.{OneToOne}
use Rattle.record.proofs.FindLaws.{of_type}
use Rattle.check_directory.proofs.CorrespondLaws.{one_to_one}
use Rattle.check_lists.specs.FileSpace.{file_space_right}
use Rattle.check_lists.specs.Metadata.{metadata_directory_right}
use Rattle.check_lists.specs.Rearranged.{FreeRearranged, MetadataRearranged}
use Rattle.check_lists.proofs.RearrangedLaws.{free_rearranged, metadata_rearranged}
use Rattle.answer.proofs.VerdictLaws.{behind_passed}
use Rattle.page_check.specs.Stages.{check_to_bodies}
use Rattle.page_check.specs.Accepted.{SoundBy, Sound, ObeysBy}
use Rattle.check_header.specs.Passed.{InRange}
use Rattle.check_header.proofs.PassedLaws.{range_of}
use Rattle.page_check.proofs.AcceptedLaws.{headed_if}

pub sound_range : (s xs : List ℕ) → SoundBy s xs → InRange s (length s)
sound_range s xs o = range_of s (length s) o.headed

pub obeys_range : (s xs : List ℕ) → ObeysBy s xs → InRange s (length s)
obeys_range s xs o = sound_range s xs o.sound

-- the same where stages 1 to 8 pass
pub bodies_range : (s : List ℕ) → check_to_bodies s ≡ Ok tt → InRange s (length s)
unfolding check_to_bodies
bodies_range s e = range_of s (length s) (headed_if s (behind_passed _ _ e).0).0

-- bodies

tile_body : (s : List ℕ) (x : ℕ) → type_at s x ≡ 2 → body_right s x ≡ true → tile_right s x ≡ true
unfolding body_right
tile_body s x e b = rw e at b

metadata_body : (s : List ℕ) (x : ℕ) → type_at s x ≡ 1 → body_right s x ≡ true → metadata_right s x ≡ true
unfolding body_right
metadata_body s x e b = rw e at b

pub sound_tile : (s : List ℕ) → Sound s → {x : ℕ} → Memᴰ x (records_of s 2) → tile_right s x ≡ true
sound_tile s o {x} m = let h = of_type s 2 m in tile_body s x h.1 (o.bodies h.0)

pub sound_metadata : (s : List ℕ) → Sound s → {x : ℕ} → Memᴰ x (records_of s 1) → metadata_right s x ≡ true
sound_metadata s o {x} m = let h = of_type s 1 m in metadata_body s x h.1 (o.bodies h.0)

-- the tile directory

pub sound_one : (s xs : List ℕ) → SoundBy s xs → OneToOne s
unfolding tile_directory_right
sound_one s xs o =
    let t = means _ o.tile_directory in
    one_to_one s t.1.1.1.1.1.0 t.1.1.1.1.1.1.0 t.1.1.1.0

pub obeys_one : (s xs : List ℕ) → ObeysBy s xs → OneToOne s
obeys_one s xs o = sound_one s xs o.sound

-- the lists

pub sound_list : (s xs : List ℕ) → SoundBy s xs → MetadataRearranged s
unfolding metadata_directory_right
sound_list s xs o = let m = means _ o.metadata_directory_lem in metadata_rearranged s m.1.1.1.0 m.1.1.1.1.0

pub obeys_lists : (s xs : List ℕ) → ObeysBy s xs → FreeRearranged s × MetadataRearranged s
unfolding file_space_right
obeys_lists s xs o =
    let f = means _ o.file_space in
    (free_rearranged s f.1.1.1.0 f.1.1.1.1.0, sound_list s xs o.sound)
