-- The published vectors, by computing. Assumes nothing.
use mathlib.Core.Path.{refl}
use Rattle.wire.specs.Bytes.{part, put, zeros}
use Rattle.crc32c.specs.Crc.{crc_bit, crc_byte, crc_over, crc_of, crc_part, crc_without}
use Rattle.crc32c.specs.Samples.{VectorsHold}

pub vectors_hold : VectorsHold
unfolding crc_bit crc_byte crc_over crc_of crc_part crc_without part put zeros
vectors_hold = record { whole = refl; of_part = refl; past_end = refl; read_as_zeros = refl }
