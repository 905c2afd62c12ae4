-- `crc32c::middle` meets its contract. Assumes nothing.
use Rattle.crc32c.proofs.Linear.{more, by_table}
use Rattle.crc32c.proofs.middle.Goals as goal

pub returns : goal.returns
returns c = more 6 36 _ _ _ _ c.after_sixes-a.ensures
    (more 6 30 _ _ _ _ c.after_sixes-b.ensures
    (by_table 6 24 _ _ c.after_sixes-c.ensures))
