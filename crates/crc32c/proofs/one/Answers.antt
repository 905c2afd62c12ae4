-- `crc32c::one` meets its contract. Assumes nothing.
use Prim.Native.Nat.{◌/◌, ◌%◌}
use mathlib.Core.Path.{sym, ap, ◌∙◌}
use lib.Bits.{bit_xor, xor_comm}
use Rattle.crc32c.specs.inner.Ahead.{over_bits}
use Rattle.crc32c.proofs.Linear.{lowest, more}
use Rattle.crc32c.proofs.one.Goals as goal

pub returns : goal.returns
unfolding over_bits
returns c = let x = c.args.x in
    let x1 = x / 4 in
    ap (bit_xor (bit_xor c.after_8.result (x1 / 64))) c.after_sixes.ensures
    ∙ more 2 6 x _ (x1 / 64) (over_bits 6 (x1 % 64)) c.after_8.ensures (xor_comm (x1 / 64) (over_bits 6 (x1 % 64)) ∙ sym (lowest 6 0 x1))
