-- Bytes are the encodings of one list of character numbers only: the first number can be read off, with the bytes behind it.
-- Assumes nothing.
use Prim.Native.Nat.{ℕ, zero, suc, ◌+◌, ◌*◌, ◌-◌, ◌/◌}
use mathlib.Core.Path.{◌≡◌, refl, sym, ap, ap₂, ◌∙◌}
use mathlib.Core.List.{List, [], ◌∷◌, ◌++◌}
use mathlib.Core.Logic.{by_cases}
use native.Mathlib.Decide.{dec_le}
use native.Mathlib.Omega.{arith}
use lib.Dec.{leb}
use borrow.Author.Tests.{le-leb, lt-leb}
use Rattle.wire.specs.Pick.{pick}
use Rattle.utf8.specs.CodePoints.{Scalar, filled, encode, encodings, DecodesOnce}
use Rattle.utf8.proofs.Encodings.{written_1, written_2, written_3, written_4}

data Read : Type 0 where
  nothing : Read
  number : ℕ → List ℕ → Read

-- the bits h, and those of k bytes more
tails_read : ℕ → ℕ → List ℕ → Read
tails_read zero h s = number h s
tails_read (suc k) h [] = nothing
tails_read (suc k) h (b ∷ s) = tails_read k (h * 64 + (b - 0x80)) s

first_read : List ℕ → Read
first_read [] = nothing
first_read (b ∷ s) =
    pick (leb b 0x7F) (tails_read 0 b s)
    (pick (leb b 0xDF) (tails_read 1 (b - 0xC0) s)
    (pick (leb b 0xEF) (tails_read 2 (b - 0xE0) s) (tails_read 3 (b - 0xF0) s)))

module _ (c : ℕ) (s : List ℕ) where
  same : (n : ℕ) → n ≡ c → number n s ≡ number c s
  same n e = rw e

  first_read_lem : Scalar c → first_read (encode c ++ s) ≡ number c s
  unfolding first_read tails_read filled
  first_read_lem h =
      by_cases (dec_le c 0x7F) (λ k. rw (written_1 c (omega arith), le-leb (0 + c) 0x7F (omega arith)) (same _ (omega arith)))
      (λ k.
      by_cases (dec_le c 0x7FF)
      (λ l. rw (written_2 c (omega arith), lt-leb (0xC0 + c / 64) 0x7F (omega arith), le-leb (0xC0 + c / 64) 0xDF (omega arith)) (same _ (omega arith)))
      (λ l.
      by_cases (dec_le c 0xFFFF)
      (λ m.
      let b = 0xE0 + c / 64 / 64 in
      rw (written_3 c (omega arith), lt-leb b 0x7F (omega arith), lt-leb b 0xDF (omega arith), le-leb b 0xEF (omega arith)) (same _ (omega arith)))
      (λ m.
      let b = 0xF0 + c / 64 / 64 / 64 in
      rw (written_4 c (omega arith), lt-leb b 0x7F (omega arith), lt-leb b 0xDF (omega arith), lt-leb b 0xEF (omega arith)) (same _ (omega arith)))))

pub decodes_once : DecodesOnce
unfolding encodings first_read
decodes_once [] [] h k e = refl
decodes_once [] (d ∷ ds) h k e = let r = ap first_read e ∙ first_read_lem d (encodings ds) k.0 in cc
decodes_once (c ∷ cs) [] h k e = let r = ap first_read (sym e) ∙ first_read_lem c (encodings cs) h.0 in cc
decodes_once (c ∷ cs) (d ∷ ds) h k e =
    let r = sym (first_read_lem c (encodings cs) h.0) ∙ ap first_read e ∙ first_read_lem d (encodings ds) k.0 in
    let p : c ≡ d = cc in
    let q : encodings cs ≡ encodings ds = cc in
    ap₂ (λ (x : ℕ) (xs : List ℕ). x ∷ xs) p (decodes_once cs ds h.1 k.1 q)
