-- `crc32c::eight` meets its contract. Assumes nothing.
use native.Mathlib.Omega.{arith}
use Prim.Native.Nat.{◌/◌, ◌%◌}
use mathlib.Core.Path.{◌≡◌, ap, ◌∙◌}
use lib.Bits.{bit_xor}
use Rattle.crc32c.specs.inner.Ahead.{over_bits}
use Rattle.crc32c.proofs.Linear.{joined}
use Rattle.crc32c.proofs.eight.Goals as goal

pub returns : goal.returns
returns c = let a = c.lower in
    let b = c.middle in
    let d = c.upper in
    let y = c.args.y in
    let y4 = y / 16 / 64 / 64 / 64 in
    let y7 = y4 / 64 / 64 / 64 in
    let y10 = y7 / 64 / 64 / 64 in
    let z = over_bits 6 y10 in
    let m : y10 % 64 ≡ y10 = omega (arith, c.ranges.y) in
    ap (bit_xor (bit_xor a.result (bit_xor b.result d.result))) c.after_sixes.ensures
    ∙ rw m (joined a.result (bit_xor b.result d.result) z (over_bits 42 y4) (over_bits 64 y) a.ensures (joined b.result d.result z (over_bits 24 y7) (over_bits 42 y4) b.ensures d.ensures))
