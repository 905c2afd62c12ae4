-- A table that agrees with the definition at each of its places does at any of them. Assumes nothing.
use Prim.Native.Nat.{ℕ, ◌+◌, ◌*◌, ◌-◌, ◌≤◌, ◌<◌}
use mathlib.Core.Path.{◌≡◌, refl, ap, ◌∙◌}
use mathlib.Core.Bool.{true}
use mathlib.Core.List.{List, []}
use lib.ListN.{get_or}
use lib.Dec.{eqb}
use borrow.Author.Tests.{eqb-true}
use Rattle.wire.specs.Tests.{passes, all_below}
use Rattle.wire.proofs.TestLaws.{below_each}
use native.Mathlib.Omega.{arith}
use Rattle.crc32c.specs.declared.tables.TheConstants.{AFTER_8, AFTER_64, AFTER_SIXES}
use Rattle.crc32c.specs.Crc.{crc_bit}
use Rattle.crc32c.specs.inner.Ahead.{over_bits}

-- a row of n entries: after k bits
row : (t : List ℕ) (k n b : ℕ) → all_below n (λ i. eqb (get_or t i 0) (over_bits k i)) ≡ true → b < n → get_or t b 0 ≡ over_bits k b
row t k n b e h = eqb-true _ _ (below_each n _ e b h)

pub two_bits : (b : ℕ) → b < 4 → get_or AFTER_8 b 0 ≡ over_bits 8 b
unfolding over_bits crc_bit all_below passes
two_bits b h = row AFTER_8 8 4 b refl h

pub four_bits : (b : ℕ) → b < 16 → get_or AFTER_64 b 0 ≡ over_bits 64 b
unfolding over_bits crc_bit all_below passes
four_bits b h = row AFTER_64 64 16 b refl h

-- the rows: after six bits, twice as many, and so on
pub six_bits : (n b : ℕ) → 1 ≤ n → n ≤ 10 → b < 64 → get_or (get_or AFTER_SIXES (n - 1) []) b 0 ≡ over_bits (6 * n) b
unfolding over_bits crc_bit all_below passes
six_bits n b h k l =
    let e : n - 1 + 1 ≡ n = omega arith in
    row (get_or AFTER_SIXES (n - 1) []) (6 * (n - 1 + 1)) 64 b
    (below_each 10 (λ j. all_below 64 (λ i. eqb (get_or (get_or AFTER_SIXES j []) i 0) (over_bits (6 * (j + 1)) i))) refl (n - 1) (omega arith)) l
    ∙ ap (λ (m : ℕ). over_bits (6 * m) b) e
