-- `crc32c::tables::after_sixes` meets its contract. Assumes nothing.
use Rattle.crc32c.proofs.RowLaws.{six_bits}
use Rattle.crc32c.proofs.tables.after_sixes.Goals as goal

pub returns : goal.returns
returns c = six_bits _ _ c.requires.sixes.0 c.requires.sixes.1 c.requires.bits
