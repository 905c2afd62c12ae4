-- The rules of stages 1 to 4, from what the functions below them answer. Assumes nothing.
use Prim.Native.Nat.{ℕ, min, ◌-◌, ◌≤◌, ◌<◌}
use mathlib.Core.Path.{◌≡◌, sym, ap, ◌∙◌}
use mathlib.Core.List.{List}
use mathlib.Core.Bool.{Bool, true, false}
use native.Mathlib.Omega.{arith}
use borrow.Author.Tests.{le-leb, lt-leb}
use Rattle.wire.specs.Tests.{all_below}
use Rattle.wire.specs.Bytes.{part, same_bytes, largest_integer}
use Rattle.wire.proofs.TestLaws.{yes, no, not_both, either_way}
use Rattle.header.specs.declared.Element.{Element}
use Rattle.header.specs.Names.{identifier}
use Rattle.header.specs.Fields.{element_count, header_limit}
use Rattle.header.specs.Element.{element, element_name, entry_start, entries_read}
use Rattle.header.specs.Texts.{text_right, entry_texts}
use Rattle.header.specs.Tail.{method_count, product_label_at, fields_end}
use Rattle.geometry.specs.Sizes.{cap}
use Rattle.check_header.specs.Identification.{mark, identified}
use Rattle.check_header.specs.HeaderRecord.{positive, names_differ, element_right, elements_right, tail_right}

-- stage 1

pub marked : (s : List ℕ) (n : ℕ) (x : List ℕ) (r : Bool) → 16 ≤ n → x ≡ part s 0 12 → r ≡ same_bytes x mark → r ≡ identified s n
unfolding identified
marked s n x r h p q =
    either_way _ r (λ e. (h, (ap (λ (l : List ℕ). same_bytes l mark) (sym p) ∙ sym q ∙ e, tt)))
    (λ e z. not_both z.1.0 (ap (λ (l : List ℕ). same_bytes l mark) (sym p) ∙ sym q ∙ e))

-- names

module _
    (s : List ℕ) (e d : ℕ) (x y : Element) (r : Bool) (p : x ≡ element s d) (q : y ≡ element s e)
    (t : r ≡ same_bytes (part s x.name x.name_length) (part s y.name y.name_length))
  where
    same : r ≡ same_bytes (element_name s d) (element_name s e)
    unfolding element_name
    same = t ∙ rw (p, q)

    pub differ_not : r ≡ true → false ≡ names_differ s e d
    unfolding names_differ
    differ_not f = no _ (λ z. not_both (sym same ∙ f) z.0)

    pub differ_yes : r ≡ false → true ≡ names_differ s e d
    unfolding names_differ
    differ_yes f = yes _ (sym same ∙ f, tt)

-- an element

module _ (s : List ℕ) (e : ℕ) (x : Element) (p : x ≡ element s e) where
  pub kind_not : 3 < x.kind → false ≡ element_right s e
  unfolding element_right
  kind_not h = let k : 3 < (element s e).kind = rw p at h in no _ (λ z. omega (arith, z.0))

  module _ (r : Bool) (q : r ≡ identifier 32 (part s x.name x.name_length)) where
    named : r ≡ identifier 32 (element_name s e)
    unfolding element_name
    named = q ∙ rw p

    pub name_not : r ≡ false → false ≡ element_right s e
    unfolding element_right
    name_not f = no _ (λ z. not_both z.1.0 (sym named ∙ f))

    module _ (n : Bool) (v : n ≡ all_below e (names_differ s e)) where
      pub new_not : n ≡ false → false ≡ element_right s e
      unfolding element_right
      new_not f = no _ (λ z. not_both z.1.1.0 (sym v ∙ f))

      pub element_last :
          (t : Bool) → t ≡ entry_texts s (entry_start s e) → x.kind ≤ 3 → r ≡ true → n ≡ true → t ≡ element_right s e
      unfolding element_right
      element_last t u h f g =
          let k : (element s e).kind ≤ 3 = rw p at h in
          either_way _ t (λ o. (k, (sym named ∙ f, (sym v ∙ g, (sym u ∙ o, tt))))) (λ o z. not_both z.1.1.1.0 (sym u ∙ o))

-- the elements

module _ (s : List ℕ) (c : ℕ) (a : Bool) (p : c ≡ element_count s) (q : a ≡ positive c) where
  pub count_not : a ≡ false → false ≡ elements_right s
  unfolding elements_right
  count_not f = no _ (λ z. not_both z.0 (ap positive (sym p) ∙ sym q ∙ f))

  module _ (l n b : ℕ) (u : l ≡ header_limit s) (v : n ≡ entries_read s) (w : b ≡ entry_start s n) where
    pub entries_past : l < b → false ≡ elements_right s
    unfolding elements_right
    entries_past h = no _ (λ z. omega (arith, ap (entry_start s) v, z.1.0))

    pub elements_last : (r : Bool) → r ≡ all_below n (element_right s) → a ≡ true → b ≤ l → r ≡ elements_right s
    unfolding elements_right
    elements_last r t f h =
        let k : r ≡ all_below (entries_read s) (element_right s) = t ∙ ap (λ (m : ℕ). all_below m (element_right s)) v in
        either_way _ r (λ g. (ap positive (sym p) ∙ sym q ∙ f, (omega (arith, ap (entry_start s) v), (sym k ∙ g, tt))))
        (λ g z. not_both z.1.1.0 (sym k ∙ g))

-- what follows them

pub tail_many : (s : List ℕ) (c : ℕ) → c ≡ element_count s → 16 < c → true ≡ tail_right s
unfolding tail_right
tail_many s c p h = rw (lt-leb (element_count s) 16 (omega arith))

module _ (s : List ℕ) (c m : ℕ) (p : c ≡ element_count s) (q : m ≡ method_count s) (h : c ≤ 16) where
  pub tail_methods : largest_integer < m → false ≡ tail_right s
  unfolding tail_right
  tail_methods k = rw (le-leb (element_count s) 16 (omega arith)) (no _ (λ z. omega arith))

  module _ (e l : ℕ) (u : e ≡ fields_end s) (v : l ≡ header_limit s) where
    pub tail_past : l < e → false ≡ tail_right s
    unfolding tail_right
    tail_past k = rw (le-leb (element_count s) 16 (omega arith)) (no _ (λ z. omega arith))

    pub tail_loose : e ≤ l → 7 < l - e → false ≡ tail_right s
    unfolding tail_right
    tail_loose j k = rw (le-leb (element_count s) 16 (omega arith)) (no _ (λ z. omega arith))

    pub tail_fits :
        (a : ℕ) → a ≡ product_label_at s → (t : Bool) → t ≡ text_right s a → m ≤ largest_integer → e ≤ l → l - e ≤ 7 → t ≡ tail_right s
    unfolding tail_right
    tail_fits a w t o i j k =
        let n : t ≡ text_right s (product_label_at s) = o ∙ ap (text_right s) w in
        rw (le-leb (element_count s) 16 (omega arith))
        (either_way _ t (λ g. (omega arith, (omega arith, (omega arith, (sym n ∙ g, tt))))) (λ g z. not_both z.1.1.1.0 (sym n ∙ g)))

-- ceilings: U is held under a bound that lies above its ceiling

pub bytes_within : (a u : ℕ) → u ≡ min a cap → u ≤ 1048576 → a ≤ 1048576
bytes_within a u e h = omega arith

pub bytes_past : (a u : ℕ) → u ≡ min a cap → 1048576 < u → 1048576 < a
bytes_past a u e h = omega arith

-- what a function's answer tells of its definition
pub told : {r b v : Bool} → r ≡ b → r ≡ v → b ≡ v
told p q = sym p ∙ q
