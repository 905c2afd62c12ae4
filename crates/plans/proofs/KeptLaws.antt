-- A walk over the records that are kept, and their number. Assumes nothing.
use Rattle.std.specs.Prelude.{None, Option, Some}
use Prim.Native.Nat.{ℕ, suc, ◌+◌, ◌-◌, ◌≤◌, ◌<◌}
use mathlib.Core.Path.{◌≡◌, refl, sym, ap, ◌∙◌}
use mathlib.Core.List.{List, [], ◌∷◌}
use mathlib.Core.Bool.{Bool, true, false}
use native.Mathlib.Omega.{arith}
use lib.ListN.{length}
use borrow.Author.Tests.{eq-eqb, ne_eqb}
use Rattle.wire.specs.Lists.{select}
use Rattle.record.specs.Record.{type_at, length_at, record_ok}
use Rattle.record.specs.Chain.{starts, header_end, records, first_record}
use Rattle.record.proofs.ChainLaws.{IsRecord, ok_means, starts_none, starts_record, by_chain, first_none, first_here, first_next}
use Rattle.correct.specs.Plan.{is_kept, kept_starts}

-- one record

pub kept_not : (s : List ℕ) (at kind : ℕ) → kind ≡ type_at s at → kind ≡ 0 → false ≡ is_kept s at
unfolding is_kept
kept_not s at kind e z = rw (← e, eq-eqb kind 0 z)

pub kept_is : (s : List ℕ) (at kind : ℕ) → kind ≡ type_at s at → (kind ≡ 0 → ⊥) → true ≡ is_kept s at
unfolding is_kept
kept_is s at kind e z = rw (← e, ne_eqb kind 0 z)

-- those from a position on
unfoldable pub kept_from : List ℕ → ℕ → List ℕ
kept_from s at = select (is_kept s) (starts s at)

pub kept_all : (s : List ℕ) → kept_from s (header_end s) ≡ kept_starts s
unfolding kept_from kept_starts records
kept_all s = refl

kept_none : (s : List ℕ) (at : ℕ) → record_ok s at ≡ false → kept_from s at ≡ []
unfolding kept_from select
kept_none s at h = rw (starts_none s at h)

kept_here : (s : List ℕ) (at : ℕ) → record_ok s at ≡ true → is_kept s at ≡ true → kept_from s at ≡ at ∷ kept_from s (at + length_at s at)
unfolding kept_from select
kept_here s at o h = rw (starts_record s at o, h)

kept_pass : (s : List ℕ) (at : ℕ) → record_ok s at ≡ true → is_kept s at ≡ false → kept_from s at ≡ kept_from s (at + length_at s at)
unfolding kept_from select
kept_pass s at o h = rw (starts_record s at o, h)

-- x is the first of them
pub record Next (s : List ℕ) (at x : ℕ) : Type 0 where
  pub behind : at ≤ x
  pub is : IsRecord s x
  pub here : kept_from s at ≡ x ∷ kept_from s (x + length_at s x)

other : {C : Type 0} → ◌≡◌ {A = ℕ} 0 1 → C
other e = absurd (omega arith)

next_at : (s : List ℕ) (x at : ℕ) → Some x ≡ first_record s at (is_kept s) → Next s at x
next_at s x = by_chain s (λ at. Some x ≡ first_record s at (is_kept s) → Next s at x) none more
  where
    none : (at : ℕ) → record_ok s at ≡ false → Some x ≡ first_record s at (is_kept s) → Next s at x
    none at o e = let z = first_none (is_kept s) s at o in other (cc)

    more : (at : ℕ) → record_ok s at ≡ true → (Some x ≡ first_record s (at + length_at s at) (is_kept s) → Next s (at + length_at s at) x) → Some x ≡ first_record s at (is_kept s) → Next s at x
    more at o r e = go (is_kept s at) refl
      where
        go : (b : Bool) → is_kept s at ≡ b → Next s at x
        go true h =
            let z = first_here (is_kept s) s at o h in
            let q : x ≡ at = cc in
            rw q (record { behind = omega arith; is = ok_means s at o; here = kept_here s at o h })
        go false h =
            let n = r (e ∙ first_next (is_kept s) s at o h) in
            record { behind = omega (arith, n.behind); is = n.is; here = kept_pass s at o h ∙ n.here }

pub next_none : (s : List ℕ) (at : ℕ) {r : Option ℕ} → r ≡ first_record s at (is_kept s) → r ≡ None → kept_from s at ≡ []
next_none s at p q = by_chain s (λ at. None ≡ first_record s at (is_kept s) → kept_from s at ≡ []) (λ at o e. kept_none s at o) more at (sym q ∙ p)
  where
    more : (at : ℕ) → record_ok s at ≡ true → (None ≡ first_record s (at + length_at s at) (is_kept s) → kept_from s (at + length_at s at) ≡ []) → None ≡ first_record s at (is_kept s) → kept_from s at ≡ []
    more at o r e = go (is_kept s at) refl
      where
        go : (b : Bool) → is_kept s at ≡ b → kept_from s at ≡ []
        go true h = let z = first_here (is_kept s) s at o h in other (cc)
        go false h = kept_pass s at o h ∙ r (e ∙ first_next (is_kept s) s at o h)

pub next_is : (s : List ℕ) (at x : ℕ) {r : Option ℕ} → r ≡ first_record s at (is_kept s) → r ≡ Some x → Next s at x
next_is s at x p q = next_at s x at (sym q ∙ p)

-- and n its length: the walk goes on, within the page
module _ (s : List ℕ) (at x n : ℕ) (r : Option ℕ) (p : r ≡ first_record s at (is_kept s)) (q : r ≡ Some x) (e : n ≡ length_at s x) where
  pub next_room : x + n ≤ length s
  next_room = omega (arith, (next_is s at x p q).is.inside, e)

  pub next_less : length s - (x + n) < length s - at
  next_less = let h = next_is s at x p q in omega (arith, h.behind, h.is.inside, h.is.long, e)

-- what is counted and what is ahead are all of them
pub record Counting (s : List ℕ) (at found : ℕ) : Type 0 where
  pub same : found + length (kept_from s at) ≡ length (kept_starts s)
  pub few : found ≤ at

pub counting_begin : (s : List ℕ) (at : ℕ) → at ≡ header_end s → Counting s at 0
counting_begin s at e = record { same = let z = ap (λ (y : ℕ). length (kept_from s y)) e ∙ ap length (kept_all s) in omega arith; few = omega arith }

module _ {s : List ℕ} {at found : ℕ} {r : Option ℕ} (t : Counting s at found) (p : r ≡ first_record s at (is_kept s)) where
  pub counting_over : r ≡ None → found ≡ length (kept_starts s)
  counting_over q = omega (arith, t.same, ap length (next_none s at p q))

  module _ {x n : ℕ} (q : r ≡ Some x) (e : n ≡ length_at s x) where
    pub counting_more : Counting s (x + n) (found + 1)
    counting_more =
        let h = next_is s at x p q in
        let a : length (kept_from s at) ≡ suc (length (kept_from s (x + length_at s x))) = ap length h.here in
        let b : length (kept_from s (x + n)) ≡ length (kept_from s (x + length_at s x)) = ap (λ (y : ℕ). length (kept_from s (x + y))) e in
        record { same = omega (arith, t.same); few = omega (arith, t.few, h.behind, h.is.long) }

    pub counting_room : found < length s
    counting_room = let h = next_is s at x p q in omega (arith, t.few, h.behind, h.is.inside, h.is.long)
