-- `crc32c::tables::after_8` meets its contract. Assumes nothing.
use Rattle.crc32c.proofs.RowLaws.{two_bits}
use Rattle.crc32c.proofs.tables.after_8.Goals as goal

pub returns : goal.returns
returns c = two_bits _ c.requires
