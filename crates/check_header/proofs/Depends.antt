-- Stages 1 to 5 depend only on the file's length and the bytes up to the header's end. Assumes nothing.
use Prim.Native.Nat.{ℕ, max, ◌-◌, ◌≤◌, ◌<◌}
use mathlib.Core.Path.{◌≡◌, refl, sym, ap, ◌∙◌}
use mathlib.Core.List.{List, [], ◌∷◌}
use mathlib.Core.Bool.{Bool, true, false}
use mathlib.Core.Logic.{⊎_elim}
use native.Mathlib.Omega.{arith}
use lib.Dec.{leb}
use borrow.Author.Tests.{leb-true, leb-false}
use Rattle.wire.specs.Pick.{pick}
use Rattle.wire.specs.Tests.{is, passes}
use Rattle.wire.specs.Bytes.{Same}
use Rattle.wire.proofs.TestLaws.{no_true, not_both}
use Rattle.wire.proofs.ByteLaws.{number_same, same_part, same_from_take}
use Rattle.answer.specs.Refusals.{gate}
use Rattle.record.specs.Chain.{header_end}
use Rattle.check_header.specs.Identification.{identified, version_right}
use Rattle.check_header.specs.HeaderRecord.{length_right, header_right}
use Rattle.check_header.specs.Ceilings.{within_ceilings}
use Rattle.check_header.specs.Stages.{closed, first_two, next_two, stages, check_header}
use Rattle.check_header.specs.Judged.{SameJudged, JudgedAlike}
use Rattle.check_header.specs.Depends.{reach, DependsOnHeader}
use Rattle.check_header.proofs.Judged.{end_same, identified_same, version_same, length_right_same, header_long, header_lawful, nothing_else_judged}

-- the bytes up to the header's end are the same

judged : (s t : List ℕ) (k : ℕ) → Same s t 0 k → header_end s ≤ k → 288 ≤ header_end s → SameJudged s t
judged s t k m h l =
    record {
      block = same_part m 0 14 (omega arith) (omega arith);
      frame = same_part m 16 21 (omega arith) (omega arith);
      sides = same_part m 104 120 (omega arith) (omega arith);
      options = same_part m 128 131 (omega arith) (omega arith);
      rest = same_part m 280 (header_end s - 4) (omega arith) (omega arith);
      in_first = omega (arith, m.in_first);
      in_second = omega (arith, m.in_second);
    }

-- the answer, from what the stages say of each

both_fail :
    (s t : List ℕ) (n : ℕ) → identified s n ≡ identified t n → version_right s ≡ version_right t → header_right s n ≡ false →
    header_right t n ≡ false → check_header s n ≡ check_header t n
unfolding check_header stages first_two next_two gate
both_fail s t n p q e f = rw (p, q, e, f)

both_pass :
    (s t : List ℕ) (n : ℕ) → identified s n ≡ identified t n → version_right s ≡ version_right t → header_right s n ≡ header_right t n →
    within_ceilings s n ≡ within_ceilings t n → closed s ≡ closed t → check_header s n ≡ check_header t n
unfolding check_header stages first_two next_two gate
both_pass s t n p q e f g = rw (p, q, e, f, g)

closed_same : {s t : List ℕ} → Same s t 48 56 → closed s ≡ closed t
unfolding closed
closed_same e = rw (number_same e 8 48 (omega arith) (omega arith))

unlawful : (s : List ℕ) (n : ℕ) → length_right s n ≡ false → header_right s n ≡ false
unlawful s n e = sym (no_true _ (λ f. not_both (header_lawful s n f) e))

short : (s : List ℕ) (n : ℕ) → header_end s < 288 → header_right s n ≡ false
short s n h = sym (no_true _ (λ f. absurd (omega (arith, header_long s n f))))

-- stage 1 or 2 fails
first_fail :
    (s t : List ℕ) (n : ℕ) (a b : Bool) → identified s n ≡ a → version_right s ≡ b → identified t n ≡ a → version_right t ≡ b →
    passes (is a ∷ is b ∷ []) ≡ false → check_header s n ≡ check_header t n
unfolding check_header stages first_two gate passes
first_fail s t n false b p q u v e = rw (p, u)
first_fail s t n true false p q u v e = rw (p, q, u, v)
first_fail s t n true true p q u v e = not_both refl e

-- they pass, and the bytes agree as far as stage 3 asks for them
behind :
    (s t : List ℕ) (n : ℕ) → Same s t 0 (pick (length_right s n) (max 24 (header_end s)) 24) → check_header s n ≡ check_header t n
behind s t n m = go (length_right s n) refl (leb 288 (header_end s)) refl (header_right s n) refl
  where
    far : (b : Bool) → 24 ≤ pick b (max 24 (header_end s)) 24
    far true = omega arith
    far false = omega arith

    front : Same s t 0 14
    front = same_part m 0 14 (omega arith) (omega (arith, far (length_right s n)))

    frame : Same s t 16 21
    frame = same_part m 16 21 (omega arith) (omega (arith, far (length_right s n)))

    fail : header_right s n ≡ false → header_right t n ≡ false → check_header s n ≡ check_header t n
    fail = both_fail s t n (identified_same front n) (version_same front)

    go :
        (a : Bool) → length_right s n ≡ a → (b : Bool) → leb 288 (header_end s) ≡ b → (c : Bool) → header_right s n ≡ c →
        check_header s n ≡ check_header t n
    go false ea b eb c ec = fail (unlawful s n ea) (unlawful t n (sym (length_right_same frame n) ∙ ea))
    go true ea false eb c ec =
        let h : header_end s < 288 = leb-false _ _ eb in
        let e = end_same frame in
        fail (short s n h) (short t n (omega arith))
    go true ea true eb c ec =
        let l : 288 ≤ header_end s = leb-true _ _ eb in
        let k : pick (length_right s n) (max 24 (header_end s)) 24 ≡ header_end s = rw ea (omega arith) in
        let w : Same s t 0 (header_end s) = rw k at m in
        let j = judged s t (header_end s) w (omega arith) l in
        last c ec (nothing_else_judged s t n j) w l
      where
        last : (c : Bool) → header_right s n ≡ c → JudgedAlike s t n → Same s t 0 (header_end s) → 288 ≤ header_end s → check_header s n ≡ check_header t n
        last false ec j w l = fail ec (sym j.header ∙ ec)
        last true ec j w l =
            both_pass s t n j.identification j.version j.header (j.ceilings ec)
            (closed_same (same_part w 48 56 (omega arith) (omega arith)))

agree : (s t : List ℕ) (n : ℕ) → Same s t 0 (reach s n) → check_header s n ≡ check_header t n
unfolding reach
agree s t n m = go (passes (is (identified s n) ∷ is (version_right s) ∷ [])) refl
  where
    go : (b : Bool) → passes (is (identified s n) ∷ is (version_right s) ∷ []) ≡ b → check_header s n ≡ check_header t n
    go true e = behind s t n (rw e at m)
    go false e =
        let w : Same s t 0 16 = rw e at m in
        let f : Same s t 0 14 = same_part w 0 14 (omega arith) (omega arith) in
        first_fail s t n _ _ refl refl (sym (identified_same f n)) (sym (version_same f)) e

pub depends : DependsOnHeader
depends s t n e = ⊎_elim (λ p. ap (λ (l : List ℕ). check_header l n) p) (agree s t n) (same_from_take (reach s n) s t e)
