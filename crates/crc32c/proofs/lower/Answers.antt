-- `crc32c::lower` meets its contract. Assumes nothing.
use Rattle.crc32c.proofs.Linear.{more, by_table}
use Rattle.crc32c.proofs.lower.Goals as goal

pub returns : goal.returns
returns c = more 4 60 _ _ _ _ c.after_64-a.ensures
    (more 6 54 _ _ _ _ c.after_sixes-b.ensures
    (more 6 48 _ _ _ _ c.after_sixes-c.ensures
    (by_table 6 42 _ _ c.after_sixes-d.ensures)))
