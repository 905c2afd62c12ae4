-- A page's pieces with more pieces behind them. Assumes nothing.
use Prim.Native.Nat.{ℕ, ◌+◌, ◌-◌, ◌≤◌}
use mathlib.Core.Path.{◌≡◌, refl, sym, ap, ◌∙◌}
use mathlib.Core.List.{List, [], ◌∷◌, ◌++◌, append_assoc}
use mathlib.Core.Bool.{Bool, true, false, ◌&&◌}
use native.Mathlib.Omega.{arith}
use lib.ListN.{length, length-append}
use lib.Dec.{eqb}
use borrow.Author.Tests.{eqb-true}
use Rattle.wire.specs.Pick.{pick}
use Rattle.wire.specs.Bytes.{byte_at}
use Rattle.wire.proofs.TestLaws.{not_both}
use Rattle.wire.proofs.ByteLaws.{byte_behind}
use Rattle.record.specs.Record.{type_at}
use Rattle.record.specs.Chain.{joined, WellFormed}
use Rattle.pieces.specs.Pieces.{is_free, nothing_to_join}
use Rattle.pieces.specs.Standing.{AllOf, standing, without}

-- the byte at a place of two lists, behind beginnings of one length
pub byte_past :
    (a b c d : List ℕ) → length a ≡ length b → (k : ℕ) → length a ≤ k → byte_at c (k - length a) ≡ byte_at d (k - length a) → byte_at (a ++ c) k ≡ byte_at (b ++ d) k
byte_past a b c d e k l h =
    let x : k ≡ length a + (k - length a) = omega arith in
    let y : k ≡ length b + (k - length a) = omega arith in
    ap (byte_at (a ++ c)) x ∙ byte_behind a c (k - length a) ∙ h ∙ sym (byte_behind b d (k - length a)) ∙ ap (byte_at (b ++ d)) (sym y)

-- more behind them

pub well_append : (rs qs : List (List ℕ)) → WellFormed rs → WellFormed qs → WellFormed (rs ++ qs)
well_append [] qs w v = v
well_append (r ∷ rs) qs w v = (w.0, well_append rs qs w.1 v)

pub all_append : (P : List ℕ → Type 0) (rs qs : List (List ℕ)) → AllOf P rs → AllOf P qs → AllOf P (rs ++ qs)
all_append P [] qs a b = b
all_append P (r ∷ rs) qs a b = (a.0, all_append P rs qs a.1 b)

pub joined_append : (rs qs : List (List ℕ)) → joined (rs ++ qs) ≡ joined rs ++ joined qs
joined_append [] qs = refl
joined_append (r ∷ rs) qs = ap (λ (l : List ℕ). r ++ l) (joined_append rs qs) ∙ sym (append_assoc r (joined rs) (joined qs))

pub standing_append :
    (kind at : ℕ) (rs qs : List (List ℕ)) → standing kind at (rs ++ qs) ≡ standing kind at rs ++ standing kind (at + length (joined rs)) qs
unfolding standing
standing_append kind at [] qs = let e : at + 0 ≡ at = omega arith in rw e
standing_append kind at (r ∷ rs) qs =
    let e : at + length r + length (joined rs) ≡ at + length (r ++ joined rs) = rw length-append (omega arith) in
    rw (← e) (go (eqb (type_at r 0) kind) (standing_append kind (at + length r) rs qs))
  where
    go :
        (b : Bool) →
        standing kind (at + length r) (rs ++ qs) ≡ standing kind (at + length r) rs ++ standing kind (at + length r + length (joined rs)) qs →
        pick b ((at, r) ∷ standing kind (at + length r) (rs ++ qs)) (standing kind (at + length r) (rs ++ qs))
        ≡ pick b ((at, r) ∷ standing kind (at + length r) rs) (standing kind (at + length r) rs) ++ standing kind (at + length r + length (joined rs)) qs
    go true i = ap (λ (l : List (ℕ × List ℕ)). (at, r) ∷ l) i
    go false i = i

-- all of a type go
pub without_all :
    (p : List ℕ → Bool) (kind at : ℕ) (rs : List (List ℕ)) → ((r : List ℕ) → type_at r 0 ≡ kind → p r ≡ true) → without p (standing kind at rs) ≡ []
unfolding without standing
without_all p kind at [] h = refl
without_all p kind at (r ∷ rs) h = go (eqb (type_at r 0) kind) refl (without_all p kind (at + length r) rs h)
  where
    go :
        (b : Bool) → eqb (type_at r 0) kind ≡ b → without p (standing kind (at + length r) rs) ≡ [] →
        without p (pick b ((at, r) ∷ standing kind (at + length r) rs) (standing kind (at + length r) rs)) ≡ []
    go true e i = rw (h r (eqb-true _ _ e)) i
    go false e i = i

-- one behind them that is not free
pub used_behind : (rs : List (List ℕ)) (v : List ℕ) → is_free v ≡ false → nothing_to_join rs ≡ true → nothing_to_join (rs ++ (v ∷ [])) ≡ true
unfolding nothing_to_join
used_behind [] v u n = refl
used_behind (r ∷ []) v u n = rw u (go (is_free r))
  where
    go : (b : Bool) → pick (b && false) false true ≡ true
    go true = refl
    go false = refl
used_behind (r ∷ q ∷ qs) v u n = go (is_free r && is_free q) refl (used_behind (q ∷ qs) v u)
  where
    go :
        (b : Bool) → (is_free r && is_free q) ≡ b → (nothing_to_join (q ∷ qs) ≡ true → nothing_to_join (q ∷ qs ++ (v ∷ [])) ≡ true) →
        pick (is_free r && is_free q) false (nothing_to_join (q ∷ qs ++ (v ∷ []))) ≡ true
    go true e i = not_both (rw e at n) refl
    go false e i = rw e (i (rw e at n))
