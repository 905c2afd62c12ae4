-- A page is sound where its stages say so; a file is accepted exactly when it obeys the rules. Assumes nothing.
use Rattle.std.specs.Prelude.{None, Ok, Option, Result, Some, ⊤}
use Prim.Native.Nat.{ℕ}
use mathlib.Core.Path.{◌≡◌, refl, sym, ap, ◌∙◌}
use mathlib.Core.List.Memᴰ
use mathlib.Core.List.{List, ◌∷◌}
use mathlib.Core.Logic.{⊎_elim}
use mathlib.Core.Bool.{true}
use lib.ListN.{length}
use Rattle.wire.proofs.TestLaws.{means, yes}
use Rattle.answer.specs.declared.Refusal.{Refusal}
use Rattle.answer.specs.Refusals.{gate, unless_refused}
use Rattle.answer.proofs.VerdictLaws.{refused_not, gate_passed, behind_passed}
use Rattle.record.specs.Chain.{header_end, records}
use Rattle.record.proofs.ChainLaws.{whole_starts}
use Rattle.record.proofs.FindLaws.{none_breaks, all_keep}
use Rattle.check_header.specs.Stages.{closed, first_two, next_two, stages, check_header}
use Rattle.check_header.specs.Passed.{Headed}
use Rattle.check_header.proofs.PassedLaws.{range_of, stages_passed}
use Rattle.check_records.specs.Checksum.{checksum_right}
use Rattle.check_records.specs.Faults.{body_right, right_of, checksum_fault, body_fault, first_wrong}
use Rattle.check_records.proofs.RecordLaws.{chain_whole, whole_chain}
use Rattle.check_directory.specs.TileRules.{tile_directory_right}
use Rattle.check_lists.specs.Metadata.{metadata_directory_right}
use Rattle.check_lists.specs.Stage.{directories_right}
use Rattle.page_check.specs.Stages.{unless, check_records, check_directories, check_from_records, check}
use Rattle.page_check.specs.Accepted.{SoundBy, Sound, ObeysBy, Obeys, AcceptedExactly}
use Rattle.page_check.proofs.StageLaws.{records_then}

unless_passed : (f : Option ℕ) (r : ℕ → Refusal) (v : Result ⊤ Refusal) → unless f r v ≡ Ok tt → (f ≡ None) × (v ≡ Ok tt)
unfolding unless
unless_passed None r v e = (refl, e)
unless_passed (Some x) r v e = refused_not e

-- stages 1 to 5

pub headed_if : (s : List ℕ) → check_header s (length s) ≡ Ok tt → Headed s (length s) × (closed s ≡ true)
unfolding check_header
headed_if s e = let a = stages_passed s (length s) _ _ e (λ h. h) in (a.0, (gate_passed _ _ _ a.1.1).0)

if_headed : (s : List ℕ) → Headed s (length s) → closed s ≡ true → check_header s (length s) ≡ Ok tt
unfolding check_header stages first_two next_two gate
if_headed s h c = rw (h.block, h.version, h.header, h.ceilings, c)

-- stages 6 to 8, of a page that is closed or open

pub sound_of :
    (s : List ℕ) → Headed s (length s) → check_records s (Ok tt) ≡ Ok tt → tile_directory_right s ≡ true → metadata_directory_right s ≡ true → Sound s
unfolding check_records checksum_fault body_fault first_wrong right_of
sound_of s h e t w =
    let b = unless_passed _ _ _ e in
    let c = unless_passed _ _ _ b.1 in
    let d = unless_passed _ _ _ c.1 in
    record {
      headed = h;
      chain = chain_whole s (range_of s (length s) h).header_inside b.0;
      header_checksum = none_breaks (checksum_right s) (16 ∷ records s) c.0 (Memᴰ.head refl);
      checksums = λ m. none_breaks (checksum_right s) (16 ∷ records s) c.0 (Memᴰ.tail m);
      bodies = λ m. none_breaks (body_right s) (records s) d.0 m;
      tile_directory = t;
      metadata_directory_lem = w;
    }

-- its pieces, whatever list of records they stand behind the header as
module _ (s : List ℕ) (xs : List ℕ) (o : SoundBy s xs) where
  pub records_are : records s ≡ xs
  unfolding records
  records_are = whole_starts s (header_end s) xs o.chain

  pub no_checksum_fault : checksum_fault s ≡ None
  unfolding checksum_fault first_wrong right_of
  no_checksum_fault =
      rw records_are
      (all_keep (checksum_right s) (16 ∷ xs)
      (λ x m. ⊎_elim (λ h. ap (checksum_right s) h ∙ o.header_checksum) (λ k. o.checksums k) (Memᴰ.cases_cons m)))

  pub no_body_fault : body_fault s ≡ None
  unfolding body_fault first_wrong right_of
  no_body_fault = rw records_are (all_keep (body_right s) xs (λ x m. o.bodies m))

  pub sound_records : (v : Result ⊤ Refusal) → check_records s v ≡ v
  unfolding check_records unless
  sound_records v = rw (whole_chain s xs o.chain, no_checksum_fault, no_body_fault)

-- what Accepted gives
pub accepted_obeys : (s : List ℕ) → check s ≡ Ok tt → Obeys s
unfolding check check_from_records check_directories directories_right
accepted_obeys s e =
    let a = behind_passed _ _ e in
    let b = behind_passed _ _ (sym (records_then s (check_directories s)) ∙ a.1) in
    let d = means _ (gate_passed _ _ _ b.1).0 in
    let h = headed_if s a.0 in
    record { sound = sound_of s h.0 b.0 d.0 d.1.0; not_opened = h.1; file_space = d.1.1.0 }

pub accepted_sound : (s : List ℕ) → check s ≡ Ok tt → Sound s
accepted_sound s e = (accepted_obeys s e).sound

-- what makes a file Accepted
module _ (s : List ℕ) (xs : List ℕ) (o : ObeysBy s xs) where
  directories_right_lem : directories_right s ≡ true
  unfolding directories_right
  directories_right_lem = sym (yes _ (o.sound.tile_directory, (o.sound.metadata_directory_lem, (o.file_space, tt))))

  pub obeys_accepted : check s ≡ Ok tt
  unfolding check check_from_records check_directories unless_refused gate
  obeys_accepted =
      let h = if_headed s o.sound.headed o.not_opened in
      rw (h, sound_records s xs o.sound (check_directories s), directories_right_lem)

pub accepted_exactly : AcceptedExactly
accepted_exactly s = (accepted_obeys s, obeys_accepted s (records s))
