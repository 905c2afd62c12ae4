-- Req 08: which rule a page says, by its records. Assumes nothing.
use Prim.Native.Nat.{ℕ}
use mathlib.Core.Path.{◌≡◌, refl, sym}
use mathlib.Core.Logic.{⊎_elim}
use mathlib.Core.List.Memᴰ
use mathlib.Core.List.{List, [], ◌∷◌, map, Memᴰ}
use mathlib.Core.Bool.{Bool, true, false, ◌||◌, ◌&&◌}
use lib.Dec.{eqb}
use borrow.Author.Tests.{ne_eqb}
use Rattle.wire.specs.Pick.{pick}
use Rattle.wire.specs.Tests.{◌≡?◌, is}
use Rattle.wire.specs.Bytes.{same_bytes}
use Rattle.wire.specs.Lists.{some}
use Rattle.wire.proofs.TestLaws.{means, yes, not_both}
use Rattle.wire.proofs.ByteLaws.{same_is, is_same}
use Rattle.wire.proofs.ListLaws.{select_member, member_select, some_member, member_some}
use Rattle.record.specs.Types.{metadata_type}
use Rattle.record.specs.Record.{type_at}
use Rattle.record.specs.Chain.{records}
use Rattle.bodies.specs.MetadataRecord.{metadata_name, record_id}
use Rattle.store.specs.Named.{is_named, records_named, ids_named}
use Rattle.score_rule.specs.declared.Said.TheVariants.{First, Second, Wrong}
use Rattle.score_rule.specs.Rules.{other_id, rule_said, score_rule, page_says}
use Rattle.exact_products.specs.Rules.{NamedBy, NamedExactly, RuleExactly}

-- members of a list that is made from another

of_map : {C : Type 0} (f : ℕ → ℕ) (l : List ℕ) {y : ℕ} → Memᴰ y (map f l) → ((x : ℕ) → Memᴰ x l → y ≡ f x → C) → C
of_map f [] m k = absurd (Memᴰ.not-nil m)
of_map f (x ∷ l) m k = ⊎_elim (λ e. k x (Memᴰ.head refl) e) (λ n. of_map f l n (λ z i. k z (Memᴰ.tail i))) (Memᴰ.cases_cons m)

to_map : (f : ℕ → ℕ) (l : List ℕ) {x y : ℕ} → Memᴰ x l → y ≡ f x → Memᴰ y (map f l)
to_map f [] m e = absurd (Memᴰ.not-nil m)
to_map f (z ∷ l) {x} {y} m e =
    ⊎_elim (λ (h : x ≡ z). Memᴰ.head (rw h at e)) (λ n. Memᴰ.tail (to_map f l n e)) (Memᴰ.cases_cons m)

-- the records under a name

module _ (s name : List ℕ) (i : ℕ) where
  named_of : Memᴰ i (ids_named s name) → NamedBy s name i
  unfolding ids_named records_named is_named
  named_of m =
      of_map (record_id s) (records_named s name) m
      (λ x n e.
      let a = select_member (is_named s name) (records s) n in
      let b = means _ a.1 in
      record { start = x; among = a.0; kind = b.0; named = same_is (metadata_name s x) name b.1.0; id = sym e })

  of_named : NamedBy s name i → Memᴰ i (ids_named s name)
  unfolding ids_named records_named is_named
  of_named w =
      let t = yes ((type_at s w.start ≡? metadata_type) ∷ is (same_bytes (metadata_name s w.start) name) ∷ []) (w.kind, (is_same _ _ w.named, tt)) in
      to_map (record_id s) (records_named s name) (member_select (is_named s name) (records s) w.among (sym t)) (sym w.id)

pub named_exactly : NamedExactly
named_exactly s name i = (named_of s name i, of_named s name i)

-- the rule of some IDs

module _ (ids : List ℕ) where
  abbrev one : Bool
  one = some (λ i. eqb i 1) ids

  abbrev two : Bool
  two = some (λ i. eqb i 2) ids

  abbrev other : Bool
  other = some other_id ids

  other_wrong : other ≡ true → rule_said ids ≡ Wrong
  unfolding rule_said
  other_wrong e = rw e

  both_wrong : one ≡ true → two ≡ true → rule_said ids ≡ Wrong
  unfolding rule_said
  both_wrong e f = go other refl
    where
      go : (b : Bool) → other ≡ b → pick (other || (one && two)) Wrong (pick two Second First) ≡ Wrong
      go true g = rw g
      go false g = rw (g, e, f)

  second_said : other ≡ false → one ≡ false → two ≡ true → rule_said ids ≡ Second
  unfolding rule_said
  second_said e f g = rw (e, f, g)

  first_said : other ≡ false → two ≡ false → rule_said ids ≡ First
  unfolding rule_said
  first_said e f = go one refl
    where
      go : (b : Bool) → one ≡ b → pick (other || (one && two)) Wrong (pick two Second First) ≡ First
      go true g = rw (e, f, g)
      go false g = rw (e, f, g)

none_some : (p : ℕ → Bool) (l : List ℕ) → ((x : ℕ) → Memᴰ x l → p x ≡ false) → some p l ≡ false
none_some p l f = go (some p l) refl
  where
    go : (b : Bool) → some p l ≡ b → some p l ≡ false
    go true e = some_member _ p l e (λ x m g. not_both g (f x m))
    go false e = e

other_is : (i : ℕ) → (i ≡ 1 → ⊥) → (i ≡ 2 → ⊥) → other_id i ≡ true
unfolding other_id
other_is i e f = rw (ne_eqb i 1 e, ne_eqb i 2 f)

one_not_other : (i : ℕ) → i ≡ 1 → other_id i ≡ false
unfolding other_id
one_not_other i e = rw e

two_not_other : (i : ℕ) → i ≡ 2 → other_id i ≡ false
unfolding other_id
two_not_other i e = rw e

pub rule_exactly : RuleExactly
unfolding page_says
rule_exactly s =
    let ids = ids_named s score_rule in
    record {
      other = λ i w e f. other_wrong ids (member_some other_id ids (of_named s score_rule i w) (other_is i e f));
      both =
          λ a b.
          both_wrong ids (member_some (λ i. eqb i 1) ids (of_named s score_rule 1 a) refl) (member_some (λ i. eqb i 2) ids (of_named s score_rule 2 b) refl);
      second =
          λ a f.
          second_said ids (none_some other_id ids (λ x m. two_not_other x (f x (named_of s score_rule x m))))
          (none_some (λ i. eqb i 1) ids (λ x m. rw (f x (named_of s score_rule x m)) refl))
          (member_some (λ i. eqb i 2) ids (of_named s score_rule 2 a) refl);
      first =
          λ f.
          first_said ids (none_some other_id ids (λ x m. one_not_other x (f x (named_of s score_rule x m))))
          (none_some (λ i. eqb i 2) ids (λ x m. rw (f x (named_of s score_rule x m)) refl));
    }
