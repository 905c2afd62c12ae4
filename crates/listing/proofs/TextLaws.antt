-- A number in decimal, a digit at a time. Assumes nothing.
use Prim.Native.Nat.{ℕ, zero, suc, ◌+◌, ◌*◌, ◌/◌, ◌%◌, ◌^◌, ◌≤◌, ◌<◌}
use mathlib.Core.Path.{◌≡◌, ap, ◌∙◌}
use mathlib.Core.List.{List, [], ◌∷◌, ◌++◌}
use mathlib.Core.Logic.{by_cases}
use native.Mathlib.Decide.{dec_le}
use native.Mathlib.Omega.{arith}
use native.Mathlib.Nat.{pow-suc}
use lib.ListN.{length, length-append}
use borrow.Author.Tests.{le-leb, lt-leb}
use Rattle.listing.specs.Text.{digits, decimal}

-- the bound only has to be above the number

digits_more : (k n : ℕ) → 10 ≤ n → digits (suc k) n ≡ digits k (n / 10) ++ ((48 + n % 10) ∷ [])
unfolding digits
digits_more k n h = rw (digits, le-leb 10 n h)

digits_last : (k n : ℕ) → n < 10 → digits (suc k) n ≡ (48 + n) ∷ []
unfolding digits
digits_last k n h = rw (digits, lt-leb 10 n h)

digits_enough : (j k n : ℕ) → n < j → n < k → digits j n ≡ digits k n
digits_enough zero k n h l = absurd (omega arith)
digits_enough (suc j) zero n h l = absurd (omega arith)
digits_enough (suc j) (suc k) n h l =
    by_cases (dec_le 10 n)
    (λ m. rw (digits_more j n m, digits_more k n m, digits_enough j k (n / 10) (omega arith) (omega arith)))
    (λ f. let m : n < 10 = omega arith in rw (digits_last j n m, digits_last k n m))

-- a number of one digit, and of more

pub decimal_last : (n : ℕ) → n < 10 → decimal n ≡ (48 + n) ∷ []
unfolding decimal
decimal_last n h = digits_last n n h

pub decimal_more : (n : ℕ) → 10 ≤ n → decimal n ≡ decimal (n / 10) ++ ((48 + n % 10) ∷ [])
unfolding decimal
decimal_more n h =
    digits_more n n h ∙ ap (λ (l : List ℕ). l ++ ((48 + n % 10) ∷ [])) (digits_enough n (suc (n / 10)) (n / 10) (omega arith) (omega arith))

-- how many digits

pub long_last : (n : ℕ) → n < 10 → length (decimal n) ≡ 1
long_last n h = rw (decimal_last n h)

pub long_more : (n : ℕ) → 10 ≤ n → length (decimal n) ≡ length (decimal (n / 10)) + 1
long_more n h = rw (decimal_more n h, length-append)

pub long_least : (n : ℕ) → 1 ≤ length (decimal n)
long_least n =
    by_cases (dec_le 10 n) (λ h. omega (arith, long_more n h)) (λ f. let h : n < 10 = omega arith in omega (arith, long_last n h))

pub long_most : (k n : ℕ) → n < 10 ^ suc k → length (decimal n) ≤ suc k
long_most zero n h = omega (arith, long_last n (omega arith))
long_most (suc k) n h =
    let e : 10 ^ suc (suc k) ≡ 10 ^ suc k * 10 = pow-suc 10 (suc k) in
    by_cases (dec_le 10 n) (λ m. omega (arith, long_more n m, long_most k (n / 10) (omega arith)))
    (λ f. let m : n < 10 = omega arith in omega (arith, long_last n m))
