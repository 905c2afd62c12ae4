-- `crc32c::tables::after_64` meets its contract. Assumes nothing.
use Rattle.crc32c.proofs.RowLaws.{four_bits}
use Rattle.crc32c.proofs.tables.after_64.Goals as goal

pub returns : goal.returns
returns c = four_bits _ c.requires
