-- `lay_down::sheet::tile_unread` meets its contract. Assumes nothing.
use Rattle.lay_down.proofs.SheetLaws.{unread_is}
use Rattle.lay_down.proofs.sheet.tile_unread.Goals as goal

pub returns : goal.returns
returns c = unread_is _ _ _ _ _ _ _ _ c.corner_of-a.ensures.row c.corner_of-a.ensures.column c.tile_rows-rows.ensures c.tile_columns-columns.ensures c.part_unread.ensures
