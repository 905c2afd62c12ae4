-- Elements found by their names. Assumes nothing.
use Rattle.std.specs.Prelude.{None, Ok, Option, Some}
use Prim.Native.Nat.{ℕ, ◌+◌, ◌≤◌, ◌<◌}
use mathlib.Core.Path.{◌≡◌, sym, ap, ◌∙◌}
use mathlib.Core.List.{List}
use mathlib.Core.Bool.{Bool, true, false}
use native.Mathlib.Omega.{arith}
use lib.ListN.{length}
use Rattle.wire.specs.Bytes.{part, same_bytes}
use Rattle.wire.specs.Lists.{below}
use Rattle.wire.proofs.TestLaws.{means, not_both, no_true, below_each}
use Rattle.wire.proofs.ByteLaws.{part_whole, same_is, is_same}
use Rattle.answer.specs.Refusals.{unless_refused}
use Rattle.record.specs.Chain.{find, records}
use Rattle.record.proofs.FindLaws.{first_start, first_on, first_at, first_holds, first_none_below}
use Rattle.header.specs.declared.Element.{Element}
use Rattle.header.specs.Names.{identifier}
use Rattle.header.specs.Fields.{element_count}
use Rattle.header.specs.Element.{element, element_name, entries_read}
use Rattle.check_header.specs.HeaderRecord.{names_differ, element_right, elements_right, header_right}
use Rattle.page_check.specs.Stages.{check}
use Rattle.page_check.proofs.AcceptedLaws.{accepted_sound}
use Rattle.page_check.proofs.GivenLaws.{sound_range}
use Rattle.store.specs.Lookup.{has_name, element_named, lookup_of, read_element_named, FoundByName}

module _ (s name : List ℕ) where
  pub name_is :
      (e n : ℕ) (x : Element) (r : Bool) → x ≡ element s e → n ≡ length name →
      r ≡ same_bytes (part s x.name x.name_length) (part name 0 n) → r ≡ has_name s name e
  unfolding has_name element_name
  name_is e n x r p q t = t ∙ rw (q, part_whole name, p)

  -- the loop: no element before e has the name
  pub record Unnamed (n e : ℕ) : Type 0 where
    pub inside : e ≤ n
    pub none : find (has_name s name) (below e) ≡ None

  pub unnamed_begin : (n : ℕ) → Unnamed n 0
  unnamed_begin n = record { inside = omega arith; none = first_start _ }

  module _ (n e : ℕ) (u : Unnamed n e) (r : Bool) (q : r ≡ has_name s name e) (h : e < n) where
    pub unnamed_on : r ≡ false → Unnamed n (e + 1)
    unnamed_on f = record { inside = omega arith; none = first_on _ e u.none (sym q ∙ f) }

    pub named_here : n ≡ element_count s → r ≡ true → Ok (Some e) ≡ lookup_of (element_named s name)
    unfolding element_named
    named_here c f = ap lookup_of (sym (rw c at (first_at (has_name s name) n e h u.none (sym q ∙ f))))

  pub named_nowhere : (n e : ℕ) → Unnamed n e → n ≤ e → n ≡ element_count s → Ok None ≡ lookup_of (element_named s name)
  unfolding element_named
  named_nowhere n e u h c = let z : e ≡ element_count s = omega (arith, u.inside) in ap lookup_of (sym (rw z at u.none))

-- what is answered of an accepted file

number_found : (f : Option ℕ) (e : ℕ) → lookup_of f ≡ Ok (Some e) → f ≡ Some e
number_found (Some x) e p = let z : x ≡ e = cc in ap Some z
number_found None e p = let z : ◌≡◌ {A = ℕ} 0 1 = cc in absurd (omega arith)

module _ (s : List ℕ) (a : check s ≡ Ok tt) where
  pub right : (e : ℕ) → e < element_count s → element_right s e ≡ true
  unfolding header_right elements_right
  right e h =
      let o = accepted_sound s a in
      let r = sound_range s (records s) o in
      let k = means _ (means _ o.headed.header).1.1.1.0 in
      below_each (entries_read s) _ k.1.1.0 e (omega (arith, r.all))

  -- no two elements have one name
  one_name : (d e : ℕ) → d < e → e < element_count s → element_name s d ≡ element_name s e → ⊥
  unfolding element_right names_differ
  one_name d e h k p =
      not_both (is_same _ _ p) (means _ (below_each e _ (means _ (right e k)).1.1.0 d h)).0

  module _ (name : List ℕ) where
    behind : read_element_named s name ≡ lookup_of (element_named s name)
    unfolding read_element_named unless_refused
    behind = rw a

    other_name : (e : ℕ) → (element_name s e ≡ name → ⊥) → has_name s name e ≡ false
    unfolding has_name
    other_name e f = sym (no_true _ (λ t. f (same_is _ _ t)))

    this_name : (e : ℕ) → element_name s e ≡ name → has_name s name e ≡ true
    unfolding has_name
    this_name e p = is_same _ _ p

    by_number : (e : ℕ) → read_element_named s name ≡ Ok (Some e) → (e < element_count s) × (element_name s e ≡ name)
    unfolding element_named has_name
    by_number e p =
        let h = first_holds (has_name s name) (element_count s) e (number_found _ e (sym behind ∙ p)) in
        (h.0, same_is _ _ h.1)

    by_found : (e : ℕ) → e < element_count s → element_name s e ≡ name → read_element_named s name ≡ Ok (Some e)
    unfolding element_named
    by_found e h p =
        behind
        ∙ ap lookup_of
        (first_at (has_name s name) (element_count s) e h
        (first_none_below _ e (λ d k. other_name d (λ q. one_name d e k h (q ∙ sym p)))) (this_name e p))

    by_absent : ((e : ℕ) → e < element_count s → element_name s e ≡ name → ⊥) → read_element_named s name ≡ Ok None
    unfolding element_named
    by_absent f = behind ∙ ap lookup_of (first_none_below (has_name s name) (element_count s) (λ e h. other_name e (f e h)))

    no_such : identifier 32 name ≡ false → read_element_named s name ≡ Ok None
    unfolding element_right
    no_such f = by_absent (λ e h p. not_both (ap (identifier 32) (sym p) ∙ (means _ (right e h)).1.0) f)

pub found_by_name : FoundByName
found_by_name s name a =
    record { number = by_number s a name; found = by_found s a name; absent = by_absent s a name; no_identifier = no_such s a name }
