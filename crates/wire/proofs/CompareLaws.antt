-- What a comparison tells of names of different lengths, of equal names, and of names with a first pair that differs; and that
-- nothing behind the pairs read counts. Assumes nothing.
use Prim.Native.Nat.{ℕ, zero, suc, ◌+◌, ◌≤◌, ◌<◌}
use mathlib.Core.Path.{◌≡◌, refl, sym, ap, ◌∙◌}
use mathlib.Core.List.{List, [], ◌∷◌}
use mathlib.Core.Bool.{Bool, true, false}
use mathlib.Core.Logic.{◌⊎◌, inl, inr, ⊎_elim, by_cases}
use native.Mathlib.Decide.{dec_le}
use native.Mathlib.Omega.{arith}
use lib.ListN.{length}
use lib.Dec.{eqb}
use Rattle.std.specs.Prelude.{position, not, ◌==◌, nat_lt, cond, Some, None}
use Rattle.std.specs.List.{zip, position_or_len}
use Rattle.std.proofs.lemmas.Slice.Zip.{length-zip}
use borrow.Author.Tests.{eqb-true, eqb-false, eq-eqb, ne_eqb}
use Rattle.wire.specs.declared.Compared.{Compared}
use Rattle.wire.specs.Pick.{pick}
use Rattle.wire.specs.Bytes.{byte_at, same_bytes, Same}
use Rattle.wire.specs.Compare.{agreeing, pairs_read, compared, PairsRead, NothingBehind}
use Rattle.wire.proofs.TestLaws.{no_true}
use Rattle.wire.proofs.ByteLaws.{same_is, is_same, same_none, same_whole, same_part, same_sym, same_trans}

-- names of one length whose first pair that differs is at k
pub record Apart (a b : List ℕ) (k : ℕ) : Type 0 where
  pub long : length a ≡ length b
  pub inside : k < length a
  pub before : Same a b 0 k
  pub other : byte_at a k ≡ byte_at b k → ⊥

module _ {x y : ℕ} {xs ys : List ℕ} where
  apart_here : (x ≡ y → ⊥) → length xs ≡ length ys → Apart (x ∷ xs) (y ∷ ys) 0
  unfolding byte_at
  apart_here n l = record { long = ap suc l; inside = omega arith; before = same_none _ _; other = n }

  apart_behind : {k : ℕ} → x ≡ y → Apart xs ys k → Apart (x ∷ xs) (y ∷ ys) (suc k)
  unfolding byte_at
  apart_behind {k} e p =
      record {
        long = ap suc p.long;
        inside = omega arith;
        before = record { in_first = omega arith; in_second = omega arith; each = each };
        other = p.other;
      }
    where
      each : (i : ℕ) → 0 ≤ i → i < suc k → byte_at (x ∷ xs) i ≡ byte_at (y ∷ ys) i
      each zero g h = e
      each (suc i) g h = p.before.each i (omega arith) (omega arith)

-- names of one length are equal, or as many pairs agree as stand before the first that differs
equal_or_apart : (a b : List ℕ) → length a ≡ length b → (a ≡ b) ⊎ Apart a b (agreeing a b)
unfolding agreeing
equal_or_apart [] [] l = inl refl
equal_or_apart [] (y ∷ ys) l = absurd (omega arith)
equal_or_apart (x ∷ xs) [] l = absurd (omega arith)
equal_or_apart (x ∷ xs) (y ∷ ys) l = go (eqb x y) refl (equal_or_apart xs ys (omega arith))
  where
    go : (q : Bool) → eqb x y ≡ q → (xs ≡ ys) ⊎ Apart xs ys (agreeing xs ys) → (x ∷ xs ≡ y ∷ ys) ⊎ Apart (x ∷ xs) (y ∷ ys) (pick q (suc (agreeing xs ys)) 0)
    go true e (inl f) = inl (rw (eqb-true x y e, f))
    go true e (inr p) = inr (apart_behind (eqb-true x y e) p)
    go false e r = inr (apart_here (eqb-false x y e) (omega arith))

all_agree : (l : List ℕ) → agreeing l l ≡ length l
unfolding agreeing
all_agree [] = refl
all_agree (x ∷ xs) = rw (eq-eqb x x refl) (ap suc (all_agree xs))

-- as many pairs agree as stand before the first that differs
agree_first : (a b : List ℕ) → position_or_len (λ p. not (p.0 == p.1)) (zip a b) ≡ agreeing a b
unfolding agreeing
agree_first [] ys = refl
agree_first (x ∷ xs) [] = refl
agree_first (x ∷ xs) (y ∷ ys) = go (eqb x y) (agree_first xs ys)
  where
    go : (q : Bool) → position_or_len (λ p. not (p.0 == p.1)) (zip xs ys) ≡ agreeing xs ys → cond (not (not q)) (1 + position_or_len (λ p. not (p.0 == p.1)) (zip xs ys)) 0 ≡ pick q (suc (agreeing xs ys)) 0
    go true e = omega arith
    go false e = refl

module _ (a b : List ℕ) where
  apart_not : {C : Type 0} {k : ℕ} → Apart a b k → a ≡ b → C
  apart_not {k} p e = absurd (p.other (ap (λ (l : List ℕ). byte_at l k) e))

  -- there is one first pair that differs
  apart_least : {j k : ℕ} → Apart a b j → Apart a b k → j ≤ k
  apart_least {j} {k} p q = by_cases (dec_le j k) (λ h. h) (λ n. absurd (q.other (p.before.each k (omega arith) (omega arith))))

  apart_agree : {k : ℕ} → Apart a b k → agreeing a b ≡ k
  apart_agree p = ⊎_elim (apart_not p) (λ q. omega (arith, apart_least p q, apart_least q p)) (equal_or_apart a b p.long)

  -- the pairs read

  pairs_none : (length a ≡ length b → ⊥) → pairs_read a b ≡ 0
  unfolding pairs_read
  pairs_none n = rw (ne_eqb (length a) (length b) n)

  pairs_all : a ≡ b → pairs_read a b ≡ length a
  unfolding pairs_read
  pairs_all e =
      let l : length a ≡ length b = ap length e in
      let g : agreeing a b ≡ length a = ap (agreeing a) (sym e) ∙ all_agree a in
      rw (eq-eqb (length a) (length b) l) (omega arith)

  pairs_first : {k : ℕ} → Apart a b k → pairs_read a b ≡ k + 1
  unfolding pairs_read
  pairs_first p = let g = apart_agree p in rw (eq-eqb (length a) (length b) p.long) (omega arith)

  -- what is told

  told : {e : Bool} {n : ℕ} → e ≡ same_bytes a b → n ≡ pairs_read a b → record { equal = e; pairs = n } ≡ compared a b
  unfolding compared
  told p q = rw (p, q)

  not_same : (a ≡ b → ⊥) → false ≡ same_bytes a b
  not_same n = no_true _ (λ e. n (same_is a b e))

  pub told_none : (length a ≡ length b → ⊥) → record { equal = false; pairs = 0 } ≡ compared a b
  told_none n = told (not_same (λ e. n (ap length e))) (sym (pairs_none n))

  pub told_all : {n : ℕ} → a ≡ b → n ≡ length a → record { equal = true; pairs = n } ≡ compared a b
  told_all e m = told (sym (is_same a b e)) (m ∙ sym (pairs_all e))

  pub told_first : {n k : ℕ} → Apart a b k → n ≡ k + 1 → record { equal = false; pairs = n } ≡ compared a b
  told_first p m = told (not_same (apart_not p)) (m ∙ sym (pairs_first p))

  first_other : length a ≡ length b → position (λ p. not (p.0 == p.1)) (zip a b) ≡ cond (nat_lt (agreeing a b) (length a)) (Some (agreeing a b)) None
  first_other l = let z : length (zip a b) ≡ length a = length-zip a b ∙ omega arith in rw (agree_first a b, z) refl

  pub told_some : {k : ℕ} → length a ≡ length b → Some k ≡ position (λ p. not (p.0 == p.1)) (zip a b) → record { equal = false; pairs = k + 1 } ≡ compared a b
  told_some {k} l e = ⊎_elim
      (λ q. absurd (grind (arith, e ∙ first_other l, pairs_all q, all_agree a, ap (agreeing a) q)))
      (λ p. told_first p (grind (arith, e ∙ first_other l, p.inside)))
      (equal_or_apart a b l)

  pub told_no_other : length a ≡ length b → None ≡ position (λ p. not (p.0 == p.1)) (zip a b) → record { equal = true; pairs = length a } ≡ compared a b
  told_no_other l e = ⊎_elim (λ q. told_all q refl) (λ p. absurd (grind (arith, e ∙ first_other l, p.inside))) (equal_or_apart a b l)

  pub told_equal : {c : Compared} → c ≡ compared a b → c.equal ≡ same_bytes a b
  unfolding compared
  told_equal e = rw e

-- the sentence of Req 04
pub pairs_read_lem : PairsRead
pairs_read_lem a b =
    record {
      lengths = pairs_none a b;
      equal = pairs_all a b;
      first = λ l k h s n. pairs_first a b (record { long = l; inside = h; before = s; other = n });
    }

-- other names, of the same lengths, that are the same up to the pair that differs
apart_same : {a b a' b' : List ℕ} {k : ℕ} → Apart a b k → length a ≡ length a' → length b ≡ length b' → Same a a' 0 (k + 1) → Same b b' 0 (k + 1) → Apart a' b' k
apart_same {k} p l m e f =
    record {
      long = sym l ∙ p.long ∙ m;
      inside = omega arith;
      before = same_trans (same_sym (same_part e 0 k (omega arith) (omega arith))) (same_trans p.before (same_part f 0 k (omega arith) (omega arith)));
      other = λ z. p.other (e.each k (omega arith) (omega arith) ∙ z ∙ sym (f.each k (omega arith) (omega arith)));
    }

pub nothing_behind : NothingBehind
nothing_behind a b a' b' l m e f = go (eqb (length a) (length b)) refl
  where
    go : (q : Bool) → eqb (length a) (length b) ≡ q → compared a' b' ≡ compared a b
    go false z =
        let n = eqb-false (length a) (length b) z in
        sym (told_none a' b' (λ w. n (omega arith))) ∙ told_none a b n
    go true z =
        ⊎_elim
        (λ q. let n = pairs_all a b q in rw (same_whole e l (omega arith), same_whole f m (omega (arith, ap length q))))
        (λ p.
        let n = pairs_first a b p in
        sym (told_first a' b' (apart_same p l m (rw n at e) (rw n at f)) refl) ∙ told_first a b p refl)
        (equal_or_apart a b (eqb-true (length a) (length b) z))
