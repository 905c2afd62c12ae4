-- `crc32c::crc_part` meets its contract. Assumes nothing.
use mathlib.Core.Path.{ap, ◌∙◌}
use Rattle.crc32c.specs.Crc.{crc_of, crc_part}
use Rattle.crc32c.proofs.crc_part.Goals as goal

pub returns : goal.returns
unfolding crc_part
returns c = c.crc_of.ensures ∙ ap crc_of c.part_of.ensures.holds
