-- What a number's code is, by its magnitude. Assumes nothing.
use Prim.Native.Nat.{ℕ, zero, suc, ◌+◌, ◌-◌, ◌/◌, ◌%◌, ◌≤◌, ◌<◌}
use mathlib.Core.Path.{◌≡◌, refl, ◌∙◌}
use mathlib.Core.List.{[], ◌∷◌}
use native.Mathlib.Omega.{arith}
use lib.ListN.{length, get_or, length-append}
use lib.Dec.{leb}
use borrow.Author.Tests.{le-leb, lt-leb, eq-eqb, ne_eqb}
use Rattle.wire.specs.Pick.{pick}
use Rattle.m32.specs.M32.{bases, absolute, reached, continued, sevens, payload, wide, code_of}

module _ (x : ℕ) where
  pub plus : x ≤ 2147483647 → absolute x ≡ x
  unfolding absolute
  plus h = rw (le-leb x 2147483647 h)

  pub minus : 2147483647 < x → absolute x ≡ 4294967296 - x
  unfolding absolute
  minus h = rw (lt-leb x 2147483647 h)

-- of a number with the magnitude m
module _ (x m : ℕ) (e : m ≡ absolute x) where
  pub code_small : m ≤ 126 → code_of x ≡ (x % 256) ∷ []
  unfolding code_of
  code_small h = rw (← e, le-leb m 126 h)

  pub code_lowest : m ≡ 2147483648 → code_of x ≡ 128 ∷ []
  unfolding code_of
  code_lowest h = rw (← e, lt-leb m 126 (omega arith), eq-eqb m 2147483648 h)

  code_wide : 126 < m → (m ≡ 2147483648 → ⊥) → code_of x ≡ pick (leb x 2147483647) 127 129 ∷ wide m
  unfolding code_of
  code_wide h n = rw (← e, lt-leb m 126 h, ne_eqb m 2147483648 n)

  pub code_plus : 126 < m → (m ≡ 2147483648 → ⊥) → x ≤ 2147483647 → code_of x ≡ 127 ∷ wide m
  code_plus h n k = code_wide h n ∙ rw (le-leb x 2147483647 k)

  pub code_minus : 126 < m → (m ≡ 2147483648 → ⊥) → 2147483647 < x → code_of x ≡ 129 ∷ wide m
  code_minus h n k = code_wide h n ∙ rw (lt-leb x 2147483647 k)

-- lengths

pub sevens_length : (k v : ℕ) → length (sevens k v) ≡ k
unfolding sevens
sevens_length zero v = refl
sevens_length (suc k) v = length-append (sevens k (v / 128)) ((128 + v % 128) ∷ []) ∙ omega (arith, sevens_length k (v / 128))

pub wide_length : (m : ℕ) → length (wide m) ≡ continued m + 1
unfolding wide payload
wide_length m =
    let v : ℕ = m - get_or bases (continued m) 0 in
    length-append (sevens (continued m) (v / 128)) ((v % 128) ∷ []) ∙ omega (arith, sevens_length (continued m) (v / 128))

-- by the number k of bytes that are followed by another, and by the base b

pub wide_is : (m k b : ℕ) → k ≡ continued m → b ≡ get_or bases k 0 → payload k (m - b) ≡ wide m
unfolding wide
wide_is m k b e f = rw (f, e)

small_continued : (m : ℕ) → m < 255 → 0 ≡ continued m
unfolding continued reached
small_continued m h = rw (lt-leb 255 m h)

pub length_wide : (x m k : ℕ) → m ≡ absolute x → k ≡ continued m → 126 < m → (m ≡ 2147483648 → ⊥) → k + 2 ≡ length (code_of x)
length_wide x m k e f h n = rw (code_wide x m e h n, f) (omega (arith, wide_length m))

-- a magnitude of one byte
pub length_two : (x m : ℕ) → m ≡ absolute x → 126 < m → m < 255 → 2 ≡ length (code_of x)
length_two x m e h k = length_wide x m 0 e (small_continued m k) h (λ q. absurd (omega arith))
