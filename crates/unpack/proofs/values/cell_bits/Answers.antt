-- `unpack::values::cell_bits` meets its contract. Assumes nothing.
use Rattle.unpack.proofs.ValueLaws.{bits_short, bits_wide}
use Rattle.unpack.proofs.values.cell_bits.Goals as goal

pub returns-then-short : goal.returns-then-short
returns-then-short c = bits_short _ _ c.if-short.true

pub returns : goal.returns
returns c = bits_wide _ _ c.if-short.false
