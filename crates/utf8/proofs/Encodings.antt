-- The grammar of section 4 is the encodings of section 3: each of its rows holds those of a range of numbers, and the ranges are all
-- character numbers. Assumes nothing.
use Prim.Native.Nat.{ℕ, suc, ◌≤◌}
use mathlib.Core.Path.{◌≡◌, refl, sym, ap₂, ◌∙◌}
use mathlib.Core.List.Memᴰ
use mathlib.Core.List.{List, [], ◌∷◌, ◌++◌, Memᴰ}
use mathlib.Core.Bool.{Bool, true}
use mathlib.Core.Logic.{inl, ⊎_elim, by_cases}
use native.Mathlib.Decide.{dec_le}
use native.Mathlib.Omega.{arith}
use borrow.Author.Tests.{le-leb, lt-leb}
use Rattle.utf8.specs.Utf8.{tail, rows, matches, Octets}
use Rattle.utf8.specs.CodePoints.{Scalar, filled, encode, encodings, Scalars, Encoded, IsEncodings}
use Rattle.utf8.proofs.OctetLaws.{Within}
use Rattle.utf8.proofs.RangeLaws.{Range, first_octet, next_octet, tail_octet}

-- the rows of section 3's table

abbrev pub Written : ℕ → ℕ → ℕ → ℕ → Type 0
Written mark k low high = (c : ℕ) → Within low high c → encode c ≡ filled mark k c

pub written_1 : Written 0x00 0 0x00 0x7F
unfolding encode
written_1 c h = rw (le-leb c 0x7F (omega arith))

pub written_2 : Written 0xC0 1 0x80 0x7FF
unfolding encode
written_2 c h = rw (lt-leb c 0x7F (omega arith), le-leb c 0x7FF (omega arith))

pub written_3 : Written 0xE0 2 0x800 0xFFFF
unfolding encode
written_3 c h = rw (lt-leb c 0x7F (omega arith), lt-leb c 0x7FF (omega arith), le-leb c 0xFFFF (omega arith))

pub written_4 : Written 0xF0 3 0x10000 0x10FFFF
unfolding encode
written_4 c h = rw (lt-leb c 0x7F (omega arith), lt-leb c 0x7FF (omega arith), lt-leb c 0xFFFF (omega arith), le-leb c 0x10FFFF (omega arith))

-- rows of section 4 that hold the encodings of the character numbers from n on, a range after the other
data Covered : ℕ → List (List (ℕ → Bool)) → Type 0 where
  done : {n : ℕ} → n ≡ 0x110000 → Covered n []
  skip : {n : ℕ} {rs : List (List (ℕ → Bool))} → n ≡ 0xD800 → Covered 0xE000 rs → Covered n rs
  next :
      {mark k lo hi low high : ℕ} {row : List (ℕ → Bool)} {rs : List (List (ℕ → Bool))} → Written mark k low high → Range row mark k lo hi →
      (low ≤ lo) × ((hi ≤ high) × ((c : ℕ) → Within lo hi c → Scalar c)) → Covered (suc hi) rs → Covered lo (row ∷ rs)

covered : Covered 0 rows
unfolding rows tail
covered =
    next written_1 (first_octet 0x00 0x00 0x7F (omega arith)) (omega arith)
    (next written_2 (tail_octet 0xC0 (first_octet 0xC0 0xC2 0xDF (omega arith))) (omega arith)
    (next written_3 (tail_octet 0xE0 (next_octet 0xE0 0xA0 0xBF (inl refl) (omega arith) (first_octet 0xE0 0xE0 0xE0 (omega arith)))) (omega arith)
    (next written_3 (tail_octet 0xE0 (tail_octet 0xE0 (first_octet 0xE0 0xE1 0xEC (omega arith)))) (omega arith)
    (next written_3 (tail_octet 0xE0 (next_octet 0xE0 0x80 0x9F (inl refl) (omega arith) (first_octet 0xE0 0xED 0xED (omega arith)))) (omega arith)
    (skip refl
    (next written_3 (tail_octet 0xE0 (tail_octet 0xE0 (first_octet 0xE0 0xEE 0xEF (omega arith)))) (omega arith)
    (next written_4 (tail_octet 0xF0 (tail_octet 0xF0 (next_octet 0xF0 0x90 0xBF (inl refl) (omega arith) (first_octet 0xF0 0xF0 0xF0 (omega arith))))) (omega arith)
    (next written_4 (tail_octet 0xF0 (tail_octet 0xF0 (tail_octet 0xF0 (first_octet 0xF0 0xF1 0xF3 (omega arith))))) (omega arith)
    (next written_4 (tail_octet 0xF0 (tail_octet 0xF0 (next_octet 0xF0 0x80 0x8F (inl refl) (omega arith) (first_octet 0xF0 0xF4 0xF4 (omega arith))))) (omega arith)
    (done refl))))))))))

-- the row of a number's encoding
record Row (rs : List (List (ℕ → Bool))) (c : ℕ) : Type 0 where
  row : List (ℕ → Bool)
  among : Memᴰ row rs
  fits : matches row (encode c) ≡ true

row_under : {n : ℕ} {rs : List (List (ℕ → Bool))} → Covered n rs → (c : ℕ) → Scalar c → n ≤ c → Row rs c
row_under (done e) c s l = absurd (omega arith)
row_under (skip e t) c s l = row_under t c s (by_cases (dec_le 0xE000 c) (λ h. h) (λ h. absurd (s.no_surrogate (omega arith) (omega arith))))
row_under (next {hi} w r b t) c s l =
    by_cases (dec_le c hi)
    (λ h. record { row = _; among = Memᴰ.head refl; fits = rw (w c (omega arith)) (r.holds c (l, h)) })
    (λ h. let o = row_under t c s (omega arith) in record { row = o.row; among = Memᴰ.tail o.among; fits = o.fits })

-- the number whose encoding the bytes are
record Character (s : List ℕ) : Type 0 where
  c : ℕ
  scalar : Scalar c
  is : s ≡ encode c

number_of : {n : ℕ} {rs : List (List (ℕ → Bool))} → Covered n rs → (row : List (ℕ → Bool)) (s : List ℕ) → Memᴰ row rs → matches row s ≡ true → Character s
number_of (done e) row s m f = absurd (Memᴰ.not-nil m)
number_of (skip e t) row s m f = number_of t row s m f
number_of (next w r b t) row s m f =
    ⊎_elim
    (λ q.
    let n = r.only s (rw q at f) in
    record { c = n.c; scalar = b.1.1 n.c n.within; is = n.is ∙ sym (w n.c (omega arith)) })
    (λ k. number_of t row s k f)
    (Memᴰ.cases_cons m)

-- one character after the other

numbers_of_lem : {s : List ℕ} → Octets s → Encoded s
unfolding encodings
numbers_of_lem Octets.none = record { numbers = []; scalars = tt; are = refl }
numbers_of_lem (Octets.more row c rest m e o) =
    let k = number_of covered row c m e in
    let t = numbers_of_lem o in
    record { numbers = k.c ∷ t.numbers; scalars = (k.scalar, t.scalars); are = ap₂ (λ (x y : List ℕ). x ++ y) k.is t.are }

octets_of : (cs : List ℕ) → Scalars cs → Octets (encodings cs)
unfolding encodings
octets_of [] s = Octets.none
octets_of (c ∷ cs) s =
    let r = row_under covered c s.0 (omega arith) in
    Octets.more r.row (encode c) (encodings cs) r.among r.fits (octets_of cs s.1)

pub is_encodings : IsEncodings
is_encodings s = (numbers_of_lem, λ e. rw e.are (octets_of e.numbers e.scalars))
