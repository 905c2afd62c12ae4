-- `calls::reading::layout_of` meets its contract. Assumes nothing.
use Rattle.calls.proofs.ReadLaws.{layout_is}
use Rattle.calls.proofs.reading.layout_of.Goals as goal

pub returns-clause-is : goal.returns-clause-is
returns-clause-is c = layout_is _ c.checksum_enabled-flag.ensures c.records_start-end.ensures.is c.tile_directory_at-directory.ensures c.u32_at-long.ensures c.is_wide-wide.ensures

pub returns-clause-near : goal.returns-clause-near
returns-clause-near c = c.records_start-end.ensures.near
