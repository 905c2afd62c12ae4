-- Metadata records with a twin. Assumes nothing.
use Rattle.std.specs.Prelude.{None, Option, Some}
use Prim.Native.Nat.{ℕ}
use mathlib.Core.Path.{◌≡◌, refl, sym, ap, ◌∙◌}
use mathlib.Core.List.{List, [], ◌∷◌, Memᴰ}
use mathlib.Core.Bool.{Bool, true, false, not, ◌||◌}
use lib.Dec.{eqb}
use Rattle.wire.specs.Pick.{pick}
use Rattle.wire.specs.Tests.{both, passes}
use Rattle.wire.proofs.TestLaws.{means, no, no_true, not_both, either_way}
use Rattle.record.specs.Record.{type_at}
use Rattle.record.specs.Chain.{starts, first_record, find, header_end, records, records_of}
use Rattle.record.proofs.FindLaws.{is_found, every_found, found_not, type_of}
use Rattle.wire.specs.Lists.{every}
use Rattle.wire.proofs.ListLaws.{every_member}
use Rattle.metadata_keys.specs.Pairs.{same_key, keys_distinct}
use Rattle.metadata_keys.specs.inner.Twins.{twin_of, has_twin, doubled}
use Rattle.metadata_keys.proofs.TwinLaws.{twin_not}

-- a search among a list

pub find_at : (p : ℕ → Bool) (l : List ℕ) (y : ℕ) → find p l ≡ Some y → Memᴰ y l × (p y ≡ true)
unfolding find
find_at p [] y e = found_not (sym e) refl
find_at p (x ∷ xs) y e = go (p x) refl e (find_at p xs y)
  where
    go : (b : Bool) → p x ≡ b → pick b (Some x) (find p xs) ≡ Some y → (find p xs ≡ Some y → Memᴰ y xs × (p y ≡ true)) → Memᴰ y (x ∷ xs) × (p y ≡ true)
    go true f g r = let w : y ≡ x = cc in (Memᴰ.head w, rw w f)
    go false f g r = let m = r g in (Memᴰ.tail m.0, m.1)

-- a metadata record with a twin

module _ (s : List ℕ) (x k : ℕ) (q : k ≡ type_at s x) where
  pub doubled_type : (k ≡ 1 → ⊥) → false ≡ doubled s x
  unfolding doubled
  doubled_type h = no _ (λ z. h (q ∙ z.0))

  pub doubled_is : (b : Bool) → k ≡ 1 → b ≡ has_twin s x → b ≡ doubled s x
  unfolding doubled
  doubled_is b h e = either_way _ b (λ z. (sym q ∙ h, (sym e ∙ z, tt))) (λ z w. not_both w.1.0 (sym e ∙ z))

no_twin : (s : List ℕ) → keys_distinct s ≡ true → {x : ℕ} → Memᴰ x (records_of s 1) → has_twin s x ≡ false
unfolding keys_distinct
no_twin s k {x} m = twin_not s x ∙ ap not (every_member _ (records_of s 1) k m)

pub twin_breaks : (s : List ℕ) (x y : ℕ) (f : Option ℕ) (r : Bool) → f ≡ Some y → f ≡ first_record s (header_end s) (twin_of s x) → r ≡ has_twin s y → r ≡ true → keys_distinct s ≡ false
unfolding first_record twin_of records
twin_breaks s x y f r p e q t =
    let m = find_at (twin_of s x) (starts s (header_end s)) y (sym e ∙ p) in
    sym (no_true _ (λ k. not_both (sym q ∙ t) (no_twin s k (type_of s 1 m.0 (means _ m.1).0))))

pub false_true : {C : Type 0} → false ≡ true → C
false_true e = not_both e refl

distinct_found : (s : List ℕ) (f : Option ℕ) → f ≡ first_record s (header_end s) (doubled s) → not (is_found f) ≡ keys_distinct s
unfolding keys_distinct records_of records first_record doubled passes
distinct_found s f e =
    ap (λ (g : Option ℕ). not (is_found g)) e
    ∙ sym (every_found _ (λ y. eqb (type_at s y) 1) (doubled s) (λ x. rw (twin_not s x) (go (eqb (type_at s x) 1) (every (λ y. eqb x y || not (same_key s x y)) (records_of s 1)))) (starts s (header_end s)))
  where
    go : (a b : Bool) → both a (both (not b) true) ≡ both a (not b)
    go true true = refl
    go true false = refl
    go false b = refl

pub distinct_not : (s : List ℕ) (x : ℕ) (f : Option ℕ) → f ≡ Some x → f ≡ first_record s (header_end s) (doubled s) → false ≡ keys_distinct s
distinct_not s x f p e = ap (λ (g : Option ℕ). not (is_found g)) (sym p) ∙ distinct_found s f e

pub distinct_yes : (s : List ℕ) (f : Option ℕ) → f ≡ None → f ≡ first_record s (header_end s) (doubled s) → true ≡ keys_distinct s
distinct_yes s f p e = ap (λ (g : Option ℕ). not (is_found g)) (sym p) ∙ distinct_found s f e
