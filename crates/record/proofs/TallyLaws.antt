-- A loop over the cursor that counts the records that pass a test. Assumes nothing.
use Prim.Native.Nat.{ℕ, ◌+◌, ◌≤◌, ◌<◌}
use mathlib.Core.Path.{◌≡◌, refl, sym, ap, ◌∙◌}
use mathlib.Core.Logic.{◌⊎◌, inl, inr}
use mathlib.Core.List.{List}
use mathlib.Core.Bool.{Bool, true, false}
use native.Mathlib.Omega.{arith}
use lib.ListN.{length}
use denote.Enum.Declared.{tag_of}
use mir.Val.{bool_byte}
use Rattle.wire.specs.Lists.{select}
use Rattle.record.specs.declared.Cursor.{Cursor}
use Rattle.record.specs.declared.Step.{Step}
use Rattle.record.specs.declared.Step.TheVariants.{Record, Bad, End}
use Rattle.record.specs.Record.{length_at, record_ok, step_at}
use Rattle.record.specs.Chain.{starts, header_end, records}
use Rattle.record.proofs.ChainLaws.{stepped, starts_none, starts_record}
use Rattle.record.proofs.SeekLaws.{over}
use Rattle.record.specs.contracts.Step.{the_type}

-- those of which p holds, from a position on
unfoldable pub ahead : List ℕ → (ℕ → Bool) → ℕ → ℕ
ahead s p at = length (select p (starts s at))

ahead_all : (s : List ℕ) (p : ℕ → Bool) → ahead s p (header_end s) ≡ length (select p (records s))
unfolding ahead records
ahead_all s p = refl

ahead_here : (s : List ℕ) (p : ℕ → Bool) (at : ℕ) → record_ok s at ≡ true → p at ≡ true → ahead s p at ≡ ahead s p (at + length_at s at) + 1
unfolding ahead select
ahead_here s p at o e = rw (starts_record s at o, e) (omega arith)

ahead_pass : (s : List ℕ) (p : ℕ → Bool) (at : ℕ) → record_ok s at ≡ true → p at ≡ false → ahead s p at ≡ ahead s p (at + length_at s at)
unfolding ahead select
ahead_pass s p at o e = rw (starts_record s at o, e)

ahead_none : (s : List ℕ) (p : ℕ → Bool) (at : ℕ) → record_ok s at ≡ false → ahead s p at ≡ 0
unfolding ahead select
ahead_none s p at h = rw (starts_none s at h)

-- what is counted and what is ahead are all of them
pub record Tally (p : ℕ → Bool) (s : List ℕ) (at found : ℕ) : Type 0 where
  pub same : found + ahead s p at ≡ length (select p (records s))
  pub few : found ≤ at

pub tally_begin : {p : ℕ → Bool} {s : List ℕ} {at : ℕ} → at ≡ header_end s → Tally p s at 0
tally_begin {p} {s} e = record { same = let z = ap (λ (x : ℕ). ahead s p x) e ∙ ahead_all s p in omega arith; few = omega arith }

module _
    {p : ℕ → Bool} {s : List ℕ} {at found k st n : ℕ} {nx : Cursor} {x : Step} (t : Tally p s at found) (u : x ≡ Record k st n nx) (v : x ≡ step_at s at)
  where
    pub tally_room : found < length s
    tally_room = let h = stepped u v in omega (arith, t.few, h.before_end)

    pub tally_fits : (r : Bool) → found + bool_byte r ≤ length s
    tally_fits true = omega (arith, tally_room)
    tally_fits false = omega (arith, tally_room)

    module _ {r : Bool} (q : r ≡ p st) where
      here : p at ≡ r
      here = let h = stepped u v in ap p (sym h.start) ∙ sym q

      pub tally_more : r ≡ true → Tally p s nx.at (found + 1)
      tally_more e =
          let h = stepped u v in
          record {
            same =
                let a = ahead_here s p at h.ok (here ∙ e) in
                let b : ahead s p nx.at ≡ ahead s p (at + length_at s at) = ap (λ (y : ℕ). ahead s p y) h.next in
                omega (arith, t.same, a, b);
            few = omega (arith, h.next, t.few, h.is.long);
          }

      pub tally_stay : r ≡ false → Tally p s nx.at found
      tally_stay e =
          let h = stepped u v in
          record {
            same =
                let a = ahead_pass s p at h.ok (here ∙ e) in
                let b : ahead s p nx.at ≡ ahead s p (at + length_at s at) = ap (λ (y : ℕ). ahead s p y) h.next in
                omega (arith, t.same, a, b);
            few = omega (arith, h.next, t.few, h.is.long);
          }

    pub tally_next : (r : Bool) → r ≡ p st → Tally p s nx.at (found + bool_byte r)
    tally_next true q = tally_more q refl
    tally_next false q = let z : found + 0 ≡ found = omega arith in rw z (tally_stay q refl)

pub tally_over :
    {p : ℕ → Bool} {s : List ℕ} {at found : ℕ} {x : Step} → Tally p s at found → x ≡ step_at s at →
    (tag_of the_type x ≡ 1) ⊎ (tag_of the_type x ≡ 2) → found ≡ length (select p (records s))
tally_over {p} {s} {at} {found} {x} t v w = omega (arith, t.same, ahead_none s p at (over s at x v w))

-- what stands there if it is no record
pub tag_other :
    (x : Step) → ((kind start length : ℕ) → (next : Cursor) → x ≡ Record kind start length next → ⊥) → (tag_of the_type x ≡ 1) ⊎ (tag_of the_type x ≡ 2)
tag_other (Record k a b c) n = absurd (n k a b c refl)
tag_other Bad n = inl refl
tag_other End n = inr refl
