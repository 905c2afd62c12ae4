-- A loop over the cursor that asks the rows of one record after another. Assumes nothing.
use Prim.Native.Nat.{ℕ, ◌+◌, ◌-◌, ◌≤◌, ◌<◌}
use mathlib.Core.Path.{◌≡◌, refl, sym, ap, ◌∙◌}
use mathlib.Core.Logic.{◌⊎◌}
use mathlib.Core.List.{List, [], ◌∷◌}
use native.Mathlib.Omega.{arith}
use lib.ListN.{length}
use denote.Enum.Declared.{tag_of}
use Rattle.answer.specs.declared.Refusal.{Refusal}
use Rattle.answer.specs.declared.Refusal.TheVariants.{Checksum, Body}
use Rattle.record.specs.declared.Cursor.{Cursor}
use Rattle.record.specs.declared.Step.{Step}
use Rattle.record.specs.declared.Step.TheVariants.{Record}
use Rattle.record.specs.Record.{step_at, Told}
use Rattle.record.specs.Chain.{starts, header_end, records}
use Rattle.record.proofs.ChainLaws.{stepped, less, starts_none, starts_record}
use Rattle.record.proofs.SeekLaws.{seek_told, seek_type, seek_inside, over}
use Rattle.record.specs.contracts.Step.{the_type}
use Rattle.check_records.specs.Checksum.{checksum_at, checksum_of}
use Rattle.reasons.specs.declared.Explanation.{Explanation}
use Rattle.reasons.specs.Rows.{Row, equal, judged, first_failing, Reason}
use Rattle.reasons.specs.Stages.{refused_by, explained, Explained}
use Rattle.reasons.proofs.StageLaws.{explained_none, explained_more, answer_kept, answer_broken}
use Rattle.reasons.proofs.ReasonLaws.{or_end}
use Rattle.record_reasons.specs.RecordRows.{Stands, checksum_rows, body_rows, stages_of}
use Rattle.std.specs.Prelude.{Ok, Err}

pub stands : (s : List ℕ) (at k st n : ℕ) (nx : Cursor) (x : Step) → x ≡ Record k st n nx → x ≡ step_at s at → Stands s k st n
stands s at k st n nx x u v =
    let h = stepped u v in
    record { told = seek_told s at k st n nx x u v; near = omega (arith, h.start, h.long, h.is.inside) }

pub stands_told : {s : List ℕ} {k at n : ℕ} → Stands s k at n → Told s k at n
stands_told h = h.told

-- what is left to look at has the same answer
pub record Explaining (refusal : ℕ → Refusal) (rows : ℕ → ℕ → List Row) (s : List ℕ) (first from k at : ℕ) : Type 0 where
  pub same : explained (stages_of refusal rows k (starts s at)) ≡ explained (stages_of refusal rows first (starts s from))
  pub few : k ≤ at

module _ (refusal : ℕ → Refusal) (rows : ℕ → ℕ → List Row) where
  none_left : (k : ℕ) → explained (stages_of refusal rows k []) ≡ Ok tt
  unfolding stages_of
  none_left k = explained_none

  one_more :
      (k x : ℕ) (xs : List ℕ) →
      explained (stages_of refusal rows k (x ∷ xs)) ≡ refused_by (refusal x) (first_failing (rows k x)) (explained (stages_of refusal rows (k + 1) xs))
  unfolding stages_of
  one_more k x xs = explained_more _ _

  one_passed :
      (k x : ℕ) (xs : List ℕ) → refused_by (refusal x) (first_failing (rows k x)) (Ok tt) ≡ Ok tt →
      explained (stages_of refusal rows k (x ∷ xs)) ≡ explained (stages_of refusal rows (k + 1) xs)
  one_passed k x xs e = one_more k x xs ∙ answer_kept _ _ _ e

  one_stopped :
      (k x : ℕ) (xs : List ℕ) (z : Explanation) → refused_by (refusal x) (first_failing (rows k x)) (Ok tt) ≡ Err z →
      explained (stages_of refusal rows k (x ∷ xs)) ≡ Err z
  one_stopped k x xs z e = one_more k x xs ∙ answer_broken _ _ _ _ e

module _ {refusal : ℕ → Refusal} {rows : ℕ → ℕ → List Row} {s : List ℕ} where
  pub explain_begin : {k at : ℕ} → at ≡ header_end s → k ≤ at → Explaining refusal rows s k (header_end s) k at
  explain_begin e h = record { same = rw e refl; few = h }

  module _ {first from k at kind st n : ℕ} {nx : Cursor} {x : Step} (i : Explaining refusal rows s first from k at) (u : x ≡ Record kind st n nx) (v : x ≡ step_at s at) where
    pub explain_room : k < length s
    explain_room = let h = stepped u v in omega (arith, i.few, h.before_end)

    module _ {a : Reason} {b : Explained} (q : a ≡ first_failing (rows k st)) (p : b ≡ refused_by (refusal st) a (Ok tt)) where
      here : refused_by (refusal at) (first_failing (rows k at)) (Ok tt) ≡ b
      here = let h = stepped u v in rw (← h.start, ← q) (sym p)

      pub explain_next : b ≡ Ok tt → Explaining refusal rows s first from (k + 1) nx.at
      explain_next e =
          let h = stepped u v in
          record {
            same =
                rw h.next
                (sym (one_passed refusal rows k at _ (here ∙ e)) ∙ ap (λ (l : List ℕ). explained (stages_of refusal rows k l)) (sym (starts_record s at h.ok)) ∙ i.same);
            few = omega (arith, h.next, i.few, h.is.long);
          }

      pub explain_found : {z : Explanation} → b ≡ Err z → Err z ≡ explained (stages_of refusal rows first (starts s from))
      explain_found {z} e =
          let h = stepped u v in
          sym (one_stopped refusal rows k at _ z (here ∙ e)) ∙ ap (λ (l : List ℕ). explained (stages_of refusal rows k l)) (sym (starts_record s at h.ok))
          ∙ i.same

  pub explain_over :
      {first from k at : ℕ} {x : Step} → Explaining refusal rows s first from k at → x ≡ step_at s at →
      (tag_of the_type x ≡ 1) ⊎ (tag_of the_type x ≡ 2) → Ok tt ≡ explained (stages_of refusal rows first (starts s from))
  explain_over {first} {from} {k} {at} {x} i v t =
      sym (none_left refusal rows k) ∙ ap (λ (l : List ℕ). explained (stages_of refusal rows k l)) (sym (starts_none s at (over s at x v t))) ∙ i.same

pub behind_header : (s : List ℕ) (at : ℕ) → at ≡ header_end s → 1 ≤ at
unfolding header_end
behind_header s at e = omega arith

pub checksum_told :
    (s : List ℕ) (k kind at n d f w : ℕ) (r : Reason) → Stands s kind at n → d ≡ n - 4 → f ≡ checksum_at s at → w ≡ checksum_of s at →
    r ≡ judged (equal 38 k (at + d) f w) → r ≡ first_failing (checksum_rows s k at)
unfolding first_failing checksum_rows
checksum_told s k kind at n d f w r h i p q e = let z = h.told.length_is in rw (← z, ← i, ← p, ← q, or_end) e

pub checksum_begin : (s : List ℕ) (at : ℕ) → at ≡ header_end s → Explaining Checksum (checksum_rows s) s 1 (header_end s) 1 at
checksum_begin s at e = explain_begin e (behind_header s at e)

pub body_begin : (s : List ℕ) (at : ℕ) → at ≡ header_end s → Explaining Body (body_rows s) s 0 (header_end s) 0 at
body_begin s at e = explain_begin e (omega arith)

module _
    {s : List ℕ} {first from k at kind st n : ℕ} {nx : Cursor} {x : Step} {a : Reason} {b : Explained} (u : x ≡ Record kind st n nx)
    (v : x ≡ step_at s at)
  where
    pub checksum_found :
        {z : Explanation} → Explaining Checksum (checksum_rows s) s first from k at → a ≡ first_failing (checksum_rows s k st) →
        b ≡ refused_by (Checksum st) a (Ok tt) → b ≡ Err z → Err z ≡ explained (stages_of Checksum (checksum_rows s) first (starts s from))
    checksum_found i q p e = explain_found i u v q p e

    pub checksum_next :
        Explaining Checksum (checksum_rows s) s first from k at → a ≡ first_failing (checksum_rows s k st) →
        b ≡ refused_by (Checksum st) a (Ok tt) → b ≡ Ok tt → Explaining Checksum (checksum_rows s) s first from (k + 1) nx.at
    checksum_next i q p e = explain_next i u v q p e

    pub body_next :
        Explaining Body (body_rows s) s first from k at → a ≡ first_failing (body_rows s k st) → b ≡ refused_by (Body st) a (Ok tt) → b ≡ Ok tt →
        Explaining Body (body_rows s) s first from (k + 1) nx.at
    body_next i q p e = explain_next i u v q p e

    pub body_found :
        {z : Explanation} → Explaining Body (body_rows s) s first from k at → a ≡ first_failing (body_rows s k st) → b ≡ refused_by (Body st) a (Ok tt) → b ≡ Err z →
        Err z ≡ explained (stages_of Body (body_rows s) first (starts s from))
    body_found i q p e = explain_found i u v q p e

-- stage 7: the header first

module _ (s : List ℕ) (a : Reason) (b : Explained) (q : a ≡ first_failing (checksum_rows s 0 16)) (p : b ≡ refused_by (Checksum 16) a (Ok tt)) where
  header_is : refused_by (Checksum 16) (first_failing (checksum_rows s 0 16)) (Ok tt) ≡ b
  header_is = rw (← q) (sym p)

  pub header_broken : (z : Explanation) → b ≡ Err z → Err z ≡ explained (stages_of Checksum (checksum_rows s) 0 (16 ∷ records s))
  header_broken z e = sym (one_stopped Checksum (checksum_rows s) 0 16 (records s) z (header_is ∙ e))

  pub header_kept :
      (r : Explained) → b ≡ Ok tt → r ≡ explained (stages_of Checksum (checksum_rows s) 1 (records s)) →
      r ≡ explained (stages_of Checksum (checksum_rows s) 0 (16 ∷ records s))
  header_kept r e f = f ∙ sym (one_passed Checksum (checksum_rows s) 0 16 (records s) (header_is ∙ e))

pub ruleset explaining = (less, stands, seek_type, seek_inside, checksum_begin, checksum_next, checksum_found, body_begin, body_next, body_found, explain_over)
