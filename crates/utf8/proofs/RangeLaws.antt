-- Octets in a row, one after the other, hold the bytes of a range of numbers. Assumes nothing.
use Prim.Native.Nat.{ℕ, suc, ◌+◌, ◌*◌, ◌-◌, ◌/◌, ◌%◌, ◌≤◌}
use mathlib.Core.Path.{◌≡◌, refl, ap, ◌∙◌}
use mathlib.Core.List.{List, [], ◌∷◌, ◌++◌}
use mathlib.Core.Bool.{Bool, true, false}
use mathlib.Core.Logic.{◌⊎◌, inr, ⊎_elim}
use native.Mathlib.Omega.{arith}
use Rattle.wire.proofs.TestLaws.{not_both}
use Rattle.utf8.specs.Utf8.{octet, matches}
use Rattle.utf8.specs.CodePoints.{filled}
use Rattle.utf8.proofs.OctetLaws.{Within, octet_in, octet_means, both_split, one_more_lem, nothing_left}

-- a row with one octet more, at its end

longer : (ps : List (ℕ → Bool)) (p : ℕ → Bool) (s : List ℕ) (t : ℕ) → matches ps s ≡ true → p t ≡ true → matches (ps ++ (p ∷ [])) (s ++ (t ∷ [])) ≡ true
unfolding matches
longer [] p [] t m e = rw e
longer [] p (b ∷ s) t m e = not_both m refl
longer (q ∷ ps) p [] t m e = not_both m refl
longer (q ∷ ps) p (b ∷ s) t m e = let d = both_split (q b) (matches ps s) m in rw d.0 (longer ps p s t d.1 e)

-- the bytes of such a row
record Longer (ps : List (ℕ → Bool)) (p : ℕ → Bool) (s : List ℕ) : Type 0 where
  c : List ℕ
  t : ℕ
  whole : s ≡ c ++ (t ∷ [])
  fits : matches ps c ≡ true
  last : p t ≡ true

shorter : (ps : List (ℕ → Bool)) (p : ℕ → Bool) (s : List ℕ) → matches (ps ++ (p ∷ [])) s ≡ true → Longer ps p s
unfolding matches
shorter [] p [] m = not_both m refl
shorter [] p (b ∷ []) m = record { c = []; t = b; whole = refl; fits = refl; last = (both_split (p b) true m).0 }
shorter [] p (b ∷ (x ∷ s)) m = not_both (both_split (p b) false m).1 refl
shorter (q ∷ ps) p [] m = not_both m refl
shorter (q ∷ ps) p (b ∷ s) m =
    let d = both_split (q b) (matches (ps ++ (p ∷ [])) s) m in
    let k = shorter ps p s d.1 in
    record { c = b ∷ k.c; t = k.t; whole = ap (λ (l : List ℕ). b ∷ l) k.whole; fits = one_more_lem q ps b k.c d.0 k.fits; last = k.last }

-- the bytes are those of a number from lo to hi, with k octets behind the first
pub record Filled (mark k lo hi : ℕ) (s : List ℕ) : Type 0 where
  pub c : ℕ
  pub within : Within lo hi c
  pub is : s ≡ filled mark k c

-- the row holds the bytes of the numbers from lo to hi, and no others
pub record Range (row : List (ℕ → Bool)) (mark k lo hi : ℕ) : Type 0 where
  pub holds : (c : ℕ) → Within lo hi c → matches row (filled mark k c) ≡ true
  pub only : (s : List ℕ) → matches row s ≡ true → Filled mark k lo hi s

module _ (mark : ℕ) where
  pub first_octet : (a b : ℕ) → (mark ≤ a) × (a ≤ b) → Range (octet a b ∷ []) mark 0 (a - mark) (b - mark)
  unfolding matches filled
  first_octet a b h =
      record {
        holds = λ c i. rw (octet_in a b (mark + c) (omega arith));
        only =
            λ s m.
            let o = shorter [] (octet a b) s m in
            let i = octet_means a b o.t o.last in
            let e : mark + (o.t - mark) ≡ o.t = omega arith in
            record { c = o.t - mark; within = omega arith; is = o.whole ∙ rw (e, nothing_left o.c o.fits) };
      }

  -- one octet more: behind the bytes of one number those from l to h, behind those of several every tail
  pub next_octet :
      {row : List (ℕ → Bool)} {k lo hi : ℕ} (l h : ℕ) → (lo ≡ hi) ⊎ ((l ≡ 0x80) × (h ≡ 0xBF)) → (0x80 ≤ l) × ((l ≤ h) × (h ≤ 0xBF)) → Range row mark k lo hi →
      Range (row ++ (octet l h ∷ [])) mark (suc k) (lo * 64 + (l - 0x80)) (hi * 64 + (h - 0x80))
  unfolding filled
  next_octet {row} {k} {lo} {hi} l h w x r =
      record {
        holds = ⊎_elim (λ q c i. step c (omega arith)) (λ q c i. step c (omega arith)) w;
        only =
            λ s m.
            let o = shorter row (octet l h) s m in
            let i = octet_means l h o.t o.last in
            let n = r.only o.c o.fits in
            let c = n.c * 64 + (o.t - 0x80) in
            let e : c / 64 ≡ n.c = omega arith in
            let f : 0x80 + c % 64 ≡ o.t = omega arith in
            record { c = c; within = omega arith; is = o.whole ∙ rw (e, f, ← n.is) };
      }
    where
      step :
          (c : ℕ) → Within lo hi (c / 64) × Within l h (0x80 + c % 64) →
          matches (row ++ (octet l h ∷ [])) (filled mark k (c / 64) ++ ((0x80 + c % 64) ∷ [])) ≡ true
      step c i = longer row (octet l h) _ _ (r.holds (c / 64) i.0) (octet_in l h _ i.1)

  pub tail_octet : {row : List (ℕ → Bool)} {k lo hi : ℕ} → Range row mark k lo hi → Range (row ++ (octet 0x80 0xBF ∷ [])) mark (suc k) (lo * 64 + 0) (hi * 64 + 63)
  tail_octet = next_octet 0x80 0xBF (inr (refl, refl)) (omega arith)
