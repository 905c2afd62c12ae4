-- Another record with the same name and ID. Assumes nothing.
use Rattle.std.specs.Prelude.{None, Option, Some}
use Prim.Native.Nat.{ℕ}
use mathlib.Core.Path.{◌≡◌, refl, sym, ap, ◌∙◌}
use mathlib.Core.List.{List, [], ◌∷◌}
use mathlib.Core.Bool.{Bool, true, false, not, ◌||◌}
use lib.Dec.{eqb}
use Rattle.wire.specs.Tests.{both, passes}
use Rattle.wire.proofs.TestLaws.{no, not_both, either_way}
use Rattle.record.specs.Record.{type_at}
use Rattle.record.specs.Chain.{starts, first_record, header_end, records, records_of}
use Rattle.record.proofs.FindLaws.{is_found, some_found}
use Rattle.wire.specs.Lists.{every, some}
use Rattle.metadata_keys.specs.Pairs.{same_key}
use Rattle.metadata_keys.specs.inner.Twins.{twin_of, has_twin}

-- another record with the same name and ID

module _ (s : List ℕ) (x y k : ℕ) (q : k ≡ type_at s y) where
  pub twin_type : (k ≡ 1 → ⊥) → false ≡ twin_of s x y
  unfolding twin_of
  twin_type h = no _ (λ z. h (q ∙ z.0))

  pub twin_is : (b : Bool) → k ≡ 1 → (x ≡ y → ⊥) → b ≡ same_key s x y → b ≡ twin_of s x y
  unfolding twin_of
  twin_is b h n e = either_way _ b (λ z. (sym q ∙ h, (n, (sym e ∙ z, tt)))) (λ z w. not_both w.1.1.0 (sym e ∙ z))

pub twin_self : (s : List ℕ) (x y : ℕ) → x ≡ y → false ≡ twin_of s x y
unfolding twin_of
twin_self s x y e = no _ (λ z. z.1.0 e)

twin_found : (s : List ℕ) (x : ℕ) (f : Option ℕ) → f ≡ first_record s (header_end s) (twin_of s x) → is_found f ≡ has_twin s x
unfolding has_twin records_of records first_record twin_of passes
twin_found s x f e = ap is_found e ∙ sym (some_found _ (λ y. eqb (type_at s y) 1) (twin_of s x) (λ y. refl) (starts s (header_end s)))

pub twin_yes : (s : List ℕ) (x y : ℕ) (f : Option ℕ) → f ≡ Some y → f ≡ first_record s (header_end s) (twin_of s x) → true ≡ has_twin s x
twin_yes s x y f p e = ap is_found (sym p) ∙ twin_found s x f e

pub twin_no : (s : List ℕ) (x : ℕ) (f : Option ℕ) → f ≡ None → f ≡ first_record s (header_end s) (twin_of s x) → false ≡ has_twin s x
twin_no s x f p e = ap is_found (sym p) ∙ twin_found s x f e

-- no two metadata records have the same name and ID

some_not : (p q : ℕ → Bool) → ((x : ℕ) → p x ≡ not (q x)) → (l : List ℕ) → some p l ≡ not (every q l)
unfolding some every passes
some_not p q e [] = refl
some_not p q e (x ∷ xs) = go (q x) refl (every q xs) (some_not p q e xs)
  where
    go : (a : Bool) → q x ≡ a → (b : Bool) → some p xs ≡ not b → (p x || some p xs) ≡ not (both (q x) (both b true))
    go true f true r = rw (e x, f, r)
    go true f false r = rw (e x, f, r)
    go false f b r = rw (e x, f)

pub twin_not : (s : List ℕ) (x : ℕ) → has_twin s x ≡ not (every (λ y. eqb x y || not (same_key s x y)) (records_of s 1))
unfolding has_twin passes
twin_not s x = some_not _ _ (λ y. go (eqb x y) (same_key s x y)) (records_of s 1)
  where
    go : (a b : Bool) → both (not a) (both b true) ≡ not (a || not b)
    go true b = refl
    go false true = refl
    go false false = refl
