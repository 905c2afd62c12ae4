-- Stages 6 to 8: the stages of the records have the check's verdict. Assumes nothing.
use Rattle.std.specs.Prelude.{Result, Some, ⊤}
use Prim.Native.Nat.{ℕ, ◌+◌}
use mathlib.Core.Path.{◌≡◌, refl, sym, ap, ◌∙◌}
use mathlib.Core.List.{List, [], ◌∷◌, ◌++◌}
use mathlib.Core.Bool.{Bool, true, false, not}
use lib.ListN.{length}
use lib.Dec.{leb}
use Rattle.wire.specs.Pick.{pick}
use Rattle.answer.specs.declared.Refusal.{Refusal}
use Rattle.answer.specs.declared.Refusal.TheVariants.{Chain, Checksum, Body}
use Rattle.answer.specs.Refusals.{gate}
use Rattle.record.specs.Chain.{records, records_end, find, find_not}
use Rattle.check_records.specs.Checksum.{checksum_right}
use Rattle.check_records.specs.Faults.{chain_fault, body_right, right_of, first_wrong, checksum_fault, body_fault}
use Rattle.page_check.specs.Stages.{unless, check_records}
use Rattle.reasons.specs.Rows.{Row, keeps}
use Rattle.reasons.specs.Stages.{Stage, verdict_by}
use Rattle.record_reasons.specs.RecordRows.{chain_rows, checksum_rows, body_rows, stages_of}
use Rattle.record_reasons.proofs.RecordRowLaws.{chain_by, checksum_keeps, body_keeps}
use Rattle.explain.specs.Whole.{last_stages, body_stages, checksum_stages, chain_stages}

chain_case :
    (s : List ℕ) (behind : Result ⊤ Refusal) (b : Bool) → leb (length s) (records_end s) ≡ b → keeps (chain_rows s) ≡ b →
    unless (chain_fault s) Chain behind ≡ gate (keeps (chain_rows s)) (Chain (records_end s)) behind
unfolding unless chain_fault gate
chain_case s behind true e k = rw (e, k) refl
chain_case s behind false e k = rw (e, k) refl

chain_gate : (s : List ℕ) (behind : Result ⊤ Refusal) → unless (chain_fault s) Chain behind ≡ gate (keeps (chain_rows s)) (Chain (records_end s)) behind
chain_gate s behind = go (leb (length s) (records_end s)) refl
  where
    go : (b : Bool) → leb (length s) (records_end s) ≡ b → unless (chain_fault s) Chain behind ≡ gate (keeps (chain_rows s)) (Chain (records_end s)) behind
    go b e = chain_case s behind b e (chain_by s b e)

-- a stage of each record

module _ (refusal : ℕ → Refusal) (rows : ℕ → ℕ → List Row) (p : ℕ → Bool) (h : (k x : ℕ) → keeps (rows k x) ≡ p x) (more : List Stage) where
  stages_told : (k : ℕ) (xs : List ℕ) → verdict_by (stages_of refusal rows k xs ++ more) ≡ unless (find_not p xs) refusal (verdict_by more)
  unfolding stages_of verdict_by find_not find unless gate
  stages_told k [] = refl
  stages_told k (x ∷ xs) = rw (h k x) (go (p x) (stages_told (k + 1) xs))
    where
      go :
          (b : Bool) → verdict_by (stages_of refusal rows (k + 1) xs ++ more) ≡ unless (find_not p xs) refusal (verdict_by more) →
          gate b (refusal x) (verdict_by (stages_of refusal rows (k + 1) xs ++ more)) ≡ unless (pick (not b) (Some x) (find_not p xs)) refusal (verdict_by more)
      go true r = r
      go false r = refl

pub records_told : (s : List ℕ) → verdict_by (chain_stages s) ≡ check_records s (verdict_by (last_stages s))
unfolding chain_stages checksum_stages body_stages verdict_by check_records checksum_fault body_fault first_wrong right_of
records_told s =
    ap (gate (keeps (chain_rows s)) (Chain (records_end s)))
    (stages_told Checksum (checksum_rows s) (checksum_right s) (checksum_keeps s) _ 0 (16 ∷ records s)
    ∙ ap (unless (find_not (checksum_right s) (16 ∷ records s)) Checksum)
    (stages_told Body (body_rows s) (body_right s) (body_keeps s) (last_stages s) 0 (records s)))
    ∙ sym (chain_gate s _)
