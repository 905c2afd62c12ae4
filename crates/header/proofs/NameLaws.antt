-- The bytes of a name, and the loop over them. Assumes nothing.
use Prim.Native.Nat.{ℕ, ◌-◌, ◌≤◌, ◌<◌}
use mathlib.Core.Path.{◌≡◌, refl, sym, ap, ap₂, ◌∙◌}
use mathlib.Core.List.{List, [], ◌∷◌, ◌++◌}
use mathlib.Core.Bool.{Bool, true, false}
use native.Mathlib.Omega.{arith}
use Rattle.std.specs.Prelude.{◌==◌, ◌&&◌, ◌||◌, leb}
use Rattle.std.specs.List.{list_all}
use Rattle.std.specs.Int.{is_in_range}
use Rattle.std.specs.Char.{is_ascii_alphabetic, is_ascii_alphanumeric}
use lib.ListN.{length, get_or, length-append}
use lib.Seq.{get_or_at}
use borrow.Author.Tests.{le-leb, eq-eqb, eqb-true}
use Rattle.wire.specs.Tests.{◌≢?◌, both, is, passes}
use Rattle.wire.specs.Bytes.{byte_at}
use Rattle.wire.proofs.TestLaws.{yes, no, not_both, iff, means}
use Rattle.header.specs.Names.{within, letter, name_byte, name_bytes, five_rules, last_byte, identifier, Underscores}

-- std's tests of a byte are the rules

in_range : (a b x : ℕ) → is_in_range a b x ≡ within a b x
unfolding within passes
in_range a b x = go (leb a x) (leb x b)
  where
    go : (p q : Bool) → (p && q) ≡ both p (both q true)
    go true true = refl
    go true false = refl
    go false q = refl

pub letter_is : (b : ℕ) → is_ascii_alphabetic b ≡ letter b
unfolding letter
letter_is b = ap₂ (λ (p q : Bool). p || q) (in_range 65 90 b) (in_range 97 122 b)

pub name_byte_is : (b : ℕ) → (is_ascii_alphanumeric b || (b == 95)) ≡ name_byte b
unfolding name_byte letter within
name_byte_is b =
    rw (in_range 48 57 b, in_range 65 90 b, in_range 97 122 b, one_is b)
    (go (within 48 57 b) (within 65 90 b) (within 97 122 b) (within 95 95 b))
  where
    one_is : (x : ℕ) → (x == 95) ≡ within 95 95 x
    one_is x = iff _ _ (λ e. sym (yes _ (omega (arith, eqb-true x 95 e), (omega (arith, eqb-true x 95 e), tt)))) (λ e. let m = means _ e in eq-eqb x 95 (omega (arith, m.0, m.1.0)))

    go : (p q r t : Bool) → (((p || q) || r) || t) ≡ ((q || r) || (p || t))
    go true true r t = refl
    go true false true t = refl
    go true false false t = refl
    go false q r t = refl

-- the rule of each byte is the rule of all
pub all_is : (l : List ℕ) → list_all name_byte l ≡ name_bytes l
unfolding name_bytes passes
all_is [] = refl
all_is (b ∷ bs) = go (name_byte b) (all_is bs)
  where
    go : (p : Bool) → list_all name_byte bs ≡ name_bytes bs → (p && list_all name_byte bs) ≡ both p (both (name_bytes bs) true)
    go true e = e ∙ with_true (name_bytes bs)
      where
        with_true : (q : Bool) → q ≡ both q true
        with_true true = refl
        with_true false = refl
    go false e = refl

-- identifiers

pub five_empty : (m : ℕ) (l : List ℕ) → length l < 1 → false ≡ five_rules m l
unfolding five_rules
five_empty m [] h = refl
five_empty m (b ∷ bs) h = absurd (omega arith)

pub five_long : (m : ℕ) (l : List ℕ) → m < length l → false ≡ five_rules m l
unfolding five_rules
five_long m [] h = refl
five_long m (b ∷ bs) h = no _ (λ z. omega (arith, z.1.1.0))

pub five_first : (m : ℕ) (l : List ℕ) {r : Bool} → r ≡ letter (get_or l 0 0) → r ≡ false → false ≡ five_rules m l
unfolding five_rules
five_first m [] p q = refl
five_first m (b ∷ bs) p q = no _ (λ z. not_both z.0 (sym p ∙ q))

pub five_rest :
    (m : ℕ) (l : List ℕ) (x : ℕ) (rest : List ℕ) {q r : Bool} → l ≡ x ∷ rest → length l ≤ m → q ≡ letter x → q ≡ true → r ≡ name_bytes rest →
    r ≡ five_rules m l
unfolding five_rules passes
five_rest m l x rest g k p e f = rw (g, ← p, e, ← f, le-leb (length (x ∷ rest)) m (omega (arith, ap length g))) (go _)
  where
    go : (b : Bool) → b ≡ both b true
    go true = refl
    go false = refl

pub five_not : (m : ℕ) (l : List ℕ) (x : ℕ) (rest : List ℕ) {r : Bool} → l ≡ x ∷ rest → r ≡ letter x → r ≡ false → false ≡ five_rules m l
five_not m l x rest g p q = rw g (five_first m (x ∷ rest) p q)

-- and no underscore at the end

pub identifier_empty : (m : ℕ) (l : List ℕ) → length l < 1 → false ≡ identifier m l
unfolding identifier
identifier_empty m l h = no _ (λ z. not_both z.0 (sym (five_empty m l h)))

pub identifier_last : (m : ℕ) (l : List ℕ) → get_or l (length l - 1) 0 ≡ 95 → false ≡ identifier m l
unfolding identifier last_byte byte_at
identifier_last m l e = no _ (λ z. z.1.0 e)

pub identifier_five : (m : ℕ) (l : List ℕ) {r : Bool} → (get_or l (length l - 1) 0 ≡ 95 → ⊥) → r ≡ five_rules m l → r ≡ identifier m l
unfolding identifier last_byte byte_at
identifier_five m l n p = p ∙ go (five_rules m l) refl
  where
    go : (b : Bool) → five_rules m l ≡ b → five_rules m l ≡ passes (is (five_rules m l) ∷ (get_or l (length l - 1) 0 ≢? 95) ∷ [])
    go true e = e ∙ yes _ (e, (n, tt))
    go false e = e ∙ no _ (λ z. not_both z.0 e)

last_is : (l : List ℕ) → get_or (l ++ 95 ∷ []) (length (l ++ 95 ∷ []) - 1) 0 ≡ 95
last_is l =
    let n = length-append l (95 ∷ []) in
    let e : length l ≡ length (l ++ 95 ∷ []) - 1 = omega arith in
    get_or_at l 95 [] 0 _ e

pub underscores : Underscores
unfolding identifier last_byte byte_at
underscores =
    record {
      last = λ m l. sym (identifier_last m (l ++ 95 ∷ []) (last_is l));
      first = λ m l. sym (no _ (λ z. not_both z.0 (sym (five_first m (95 ∷ l) (letter_is 95) refl))));
      else_as_before = λ m l n. sym (identifier_five m l n refl);
    }
