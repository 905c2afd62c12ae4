-- `crc32c::upper` meets its contract. Assumes nothing.
use Rattle.crc32c.proofs.Linear.{more, by_table}
use Rattle.crc32c.proofs.upper.Goals as goal

pub returns : goal.returns
returns c = more 6 18 _ _ _ _ c.after_sixes-a.ensures
    (more 6 12 _ _ _ _ c.after_sixes-b.ensures
    (by_table 6 6 _ _ c.after_sixes-c.ensures))
