-- The first record of which a rule holds: it is one of the records, and the rule holds of none before it. Assumes nothing.
use Rattle.std.specs.Prelude.{None, Some}
use Prim.Native.Nat.{ℕ, ◌+◌, ◌-◌, ◌%◌, ◌≤◌, ◌<◌}
use mathlib.Core.Path.{◌≡◌, refl, sym, ap, ◌∙◌}
use mathlib.Core.List.Memᴰ
use mathlib.Core.List.{List, Memᴰ}
use mathlib.Core.Logic.{◌⊎◌, ⊎_elim}
use mathlib.Core.Bool.{Bool, true, false}
use native.Mathlib.Omega.{arith}
use lib.ListN.{length}
use Rattle.record.specs.Record.{length_at, record_ok}
use Rattle.record.specs.Chain.{starts, first_record, header_end, records, records_of}
use Rattle.record.proofs.ChainLaws.{by_chain, starts_none, starts_record, ok_means, first_none, first_here, first_next}
use Rattle.record.proofs.FindLaws.{of_type, found_not, at_is}

-- a record of the chain stands a multiple of eight bytes behind the chain's start

pub record Placed (s : List ℕ) (at x : ℕ) : Type 0 where
  pub behind : at ≤ x
  pub eights : (x - at) % 8 ≡ 0
  pub inside : x < length s

pub placed : (s : List ℕ) (x at : ℕ) → Memᴰ x (starts s at) → Placed s at x
placed s x =
    by_chain s (λ at. Memᴰ x (starts s at) → Placed s at x) (λ at e m. absurd (Memᴰ.not-nil (rw (starts_none s at e) at m)))
    (λ at e r m.
    let o = ok_means s at e in
    ⊎_elim (λ h. record { behind = omega arith; eights = omega arith; inside = omega (arith, o.long, o.inside) })
    (λ k.
    let q = r k in
    record { behind = omega (arith, q.behind); eights = omega (arith, q.behind, q.eights, o.eights); inside = q.inside })
    (Memᴰ.cases_cons (rw (starts_record s at e) at m)))

pub record_placed : (s : List ℕ) (kind : ℕ) {x : ℕ} → Memᴰ x (records_of s kind) → Placed s (header_end s) x
unfolding records
record_placed s kind {x} m = placed s x (header_end s) (of_type s kind m).0

-- the record at x is the first, from a position on, of which p holds

pub record First (p : ℕ → Bool) (s : List ℕ) (at x : ℕ) : Type 0 where
  pub member : Memᴰ x (starts s at)
  pub holds : p x ≡ true
  pub before : (y : ℕ) → Memᴰ y (starts s at) → y < x → p y ≡ false

pub first_means : (p : ℕ → Bool) (s : List ℕ) (x at : ℕ) → first_record s at p ≡ Some x → First p s at x
first_means p s x =
    by_chain s (λ at. first_record s at p ≡ Some x → First p s at x) (λ at e h. found_not (sym h) (sym (first_none p s at e)))
    (λ at e r h. go at e r h (p at) refl)
  where
    go :
        (at : ℕ) → record_ok s at ≡ true → (first_record s (at + length_at s at) p ≡ Some x → First p s (at + length_at s at) x) →
        first_record s at p ≡ Some x → (b : Bool) → p at ≡ b → First p s at x
    go at e r h true i =
        let z : x ≡ at = at_is (sym h ∙ sym (first_here p s at e i)) in
        record {
          member = rw (starts_record s at e) (Memᴰ.head z);
          holds = ap p z ∙ i;
          before = λ y m l. let q = placed s y at m in absurd (omega (arith, q.behind, z, l));
        }
    go at e r h false i =
        let k = r (sym (first_next p s at e i) ∙ h) in
        record {
          member = rw (starts_record s at e) (Memᴰ.tail k.member);
          holds = k.holds;
          before = λ y m l. ⊎_elim (λ z. ap p z ∙ i) (λ n. k.before y n l) (Memᴰ.cases_cons (rw (starts_record s at e) at m));
        }

pub first_is : (p : ℕ → Bool) (s : List ℕ) (x at : ℕ) → First p s at x → Some x ≡ first_record s at p
first_is p s x =
    by_chain s (λ at. First p s at x → Some x ≡ first_record s at p)
    (λ at e k. absurd (Memᴰ.not-nil (rw (starts_none s at e) at k.member)))
    (λ at e r k.
    ⊎_elim (λ z. ap Some z ∙ first_here p s at e (ap p (sym z) ∙ k.holds))
    (λ n.
    let q = placed s x (at + length_at s at) n in
    let o = ok_means s at e in
    let b = k.before at (rw (starts_record s at e) (Memᴰ.head refl)) (omega (arith, q.behind, o.long)) in
    r (record { member = n; holds = k.holds; before = λ y m l. k.before y (rw (starts_record s at e) (Memᴰ.tail m)) l })
    ∙ sym (first_next p s at e b))
    (Memᴰ.cases_cons (rw (starts_record s at e) at k.member)))

-- none is found just where p holds of none

pub none_means : (p : ℕ → Bool) (s : List ℕ) (x at : ℕ) → first_record s at p ≡ None → Memᴰ x (starts s at) → p x ≡ false
none_means p s x =
    by_chain s (λ at. first_record s at p ≡ None → Memᴰ x (starts s at) → p x ≡ false)
    (λ at e h m. absurd (Memᴰ.not-nil (rw (starts_none s at e) at m)))
    (λ at e r h m. go at e r h (Memᴰ.cases_cons (rw (starts_record s at e) at m)) (p at) refl)
  where
    go :
        (at : ℕ) → record_ok s at ≡ true →
        (first_record s (at + length_at s at) p ≡ None → Memᴰ x (starts s (at + length_at s at)) → p x ≡ false) →
        first_record s at p ≡ None → (x ≡ at) ⊎ Memᴰ x (starts s (at + length_at s at)) → (b : Bool) → p at ≡ b → p x ≡ false
    go at e r h c true i = found_not (first_here p s at e i) h
    go at e r h c false i = ⊎_elim (λ z. ap p z ∙ i) (r (sym (first_next p s at e i) ∙ h)) c

pub none_is : (p : ℕ → Bool) (s : List ℕ) (at : ℕ) → ((x : ℕ) → Memᴰ x (starts s at) → p x ≡ false) → None ≡ first_record s at p
none_is p s =
    by_chain s (λ at. ((x : ℕ) → Memᴰ x (starts s at) → p x ≡ false) → None ≡ first_record s at p) (λ at e f. first_none p s at e)
    (λ at e r f.
    r (λ x m. f x (rw (starts_record s at e) (Memᴰ.tail m)))
    ∙ sym (first_next p s at e (f at (rw (starts_record s at e) (Memᴰ.head refl)))))
