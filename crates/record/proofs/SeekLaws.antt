-- A loop over the cursor that looks for the first record, from a position on, of which a rule holds. Assumes nothing.
use Rattle.std.specs.Prelude.{None, Some}
use Prim.Native.Nat.{ℕ, ◌<◌}
use mathlib.Core.Path.{◌≡◌, refl, sym, ap, ◌∙◌}
use mathlib.Core.Logic.{◌⊎◌, ⊎_elim}
use mathlib.Core.List.{List}
use mathlib.Core.Bool.{Bool, true, false, not}
use native.Mathlib.Omega.{arith}
use lib.ListN.{length}
use denote.Enum.Declared.{tag_of}
use Rattle.record.specs.declared.Cursor.{Cursor}
use Rattle.record.specs.declared.Step.{Step}
use Rattle.record.specs.declared.Step.TheVariants.{Record, Bad, End}
use Rattle.record.specs.Record.{type_at, record_ok, step_at, Told}
use Rattle.record.specs.Chain.{starts, end_of, find_not, first_record}
use Rattle.record.proofs.ChainLaws.{stepped, stepped_bad, stepped_end, less, past_bad, first_here, first_next, first_none, end_none, end_record}
use Rattle.record.specs.contracts.Step.{the_type}

-- what is left to look at has the same first one
pub record Seeking (p : ℕ → Bool) (s : List ℕ) (from at : ℕ) : Type 0 where
  pub same : first_record s at p ≡ first_record s from p

pub seek_begin : {p : ℕ → Bool} {s : List ℕ} {from at : ℕ} → at ≡ from → Seeking p s from at
seek_begin e = record { same = rw e }

-- where a step was handed back, the place lies in the file

pub seek_inside : (s : List ℕ) (at k st n : ℕ) (nx : Cursor) (x : Step) → x ≡ Record k st n nx → x ≡ step_at s at → st < length s
seek_inside s at k st n nx x u v = let h = stepped u v in omega arith

pub seek_type : (s : List ℕ) (at k st n : ℕ) (nx : Cursor) (x : Step) → x ≡ Record k st n nx → x ≡ step_at s at → k ≡ type_at s st
seek_type s at k st n nx x u v = (stepped u v).kind

-- and the type and length are the record's
pub seek_told : (s : List ℕ) (at k st n : ℕ) (nx : Cursor) (x : Step) → x ≡ Record k st n nx → x ≡ step_at s at → Told s k st n
seek_told s at k st n nx x u v = let h = stepped u v in record { type_is = h.kind; length_is = h.long ∙ rw h.start }

-- the ways on and out, where a flag says whether the rule holds

module _
    {p : ℕ → Bool} {s : List ℕ} {from at k st n : ℕ} {nx : Cursor} {x : Step} {r : Bool} (i : Seeking p s from at)
    (u : x ≡ Record k st n nx) (v : x ≡ step_at s at) (q : r ≡ p st)
  where
    pub seek_next : r ≡ false → Seeking p s from nx.at
    seek_next e =
        let h = stepped u v in
        let f : p at ≡ false = rw (← h.start) (sym q ∙ e) in
        record { same = rw h.next (sym (first_next p s at h.ok f)) ∙ i.same }

    pub seek_found : r ≡ true → Some st ≡ first_record s from p
    seek_found e =
        let h = stepped u v in
        let f : p at ≡ true = rw (← h.start) (sym q ∙ e) in
        ap Some h.start ∙ first_here p s at h.ok f ∙ i.same

-- where no record was handed back
pub over : (s : List ℕ) (at : ℕ) (x : Step) → x ≡ step_at s at → (tag_of the_type x ≡ 1) ⊎ (tag_of the_type x ≡ 2) → record_ok s at ≡ false
over s at (Record k st n nx) v t = ⊎_elim (λ z. absurd (omega arith)) (λ z. absurd (omega arith)) t
over s at Bad v t = (stepped_bad refl v).bad
over s at End v t = past_bad s at (stepped_end refl v).ended

pub seek_over :
    {p : ℕ → Bool} {s : List ℕ} {from at : ℕ} {x : Step} → Seeking p s from at → x ≡ step_at s at →
    (tag_of the_type x ≡ 1) ⊎ (tag_of the_type x ≡ 2) → None ≡ first_record s from p
seek_over {p} {s} {from} {at} {x} i v t = first_none p s at (over s at x v t) ∙ i.same

-- where they end

pub record Ending (s : List ℕ) (from at : ℕ) : Type 0 where
  pub same : end_of s at (starts s at) ≡ end_of s from (starts s from)

pub ending_begin : (s : List ℕ) (at : ℕ) → Ending s at at
ending_begin s at = record { same = refl }

pub ending_next :
    {s : List ℕ} {from at k st n : ℕ} {nx : Cursor} {x : Step} → Ending s from at → x ≡ Record k st n nx → x ≡ step_at s at → Ending s from nx.at
ending_next {s} {from} {at} i u v =
    let h = stepped u v in
    record { same = rw h.next (sym (end_record s at h.ok)) ∙ i.same }

pub ending_over :
    {s : List ℕ} {from at : ℕ} {x : Step} → Ending s from at → x ≡ step_at s at → (tag_of the_type x ≡ 1) ⊎ (tag_of the_type x ≡ 2) →
    at ≡ end_of s from (starts s from)
ending_over {s} {from} {at} {x} i v t = sym (end_none s at (over s at x v t)) ∙ i.same

-- a rule that is kept so far

pub record Keeping (p : ℕ → Bool) (s : List ℕ) (from at : ℕ) : Type 0 where
  pub so_far : Seeking (λ x. not (p x)) s from at

pub keep_begin : {p : ℕ → Bool} {s : List ℕ} {from at : ℕ} → at ≡ from → Keeping p s from at
keep_begin e = record { so_far = seek_begin e }

module _
    {p : ℕ → Bool} {s : List ℕ} {from at k st n : ℕ} {nx : Cursor} {x : Step} {r : Bool} (i : Keeping p s from at)
    (u : x ≡ Record k st n nx) (v : x ≡ step_at s at) (q : r ≡ p st)
  where
    pub keep_next : r ≡ true → Keeping p s from nx.at
    keep_next e = record { so_far = seek_next i.so_far u v (ap not q) (ap not e) }

    pub keep_broken : r ≡ false → Some st ≡ find_not p (starts s from)
    unfolding find_not first_record
    keep_broken e = seek_found i.so_far u v (ap not q) (ap not e)

pub keep_over :
    {p : ℕ → Bool} {s : List ℕ} {from at : ℕ} {x : Step} → Keeping p s from at → x ≡ step_at s at →
    (tag_of the_type x ≡ 1) ⊎ (tag_of the_type x ≡ 2) → None ≡ find_not p (starts s from)
unfolding find_not first_record
keep_over i v t = seek_over i.so_far v t

pub ruleset keep = (less, keep_begin, seek_told, keep_next, keep_broken, keep_over)

pub ruleset seek = (less, seek_begin, seek_inside, seek_type, seek_told, seek_next, seek_found, seek_over)

pub ruleset ending = (less, ending_next, ending_over)
