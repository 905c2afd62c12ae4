-- `lay_down::page::tile_length` meets its contract. Assumes nothing.
use Rattle.lay_down.proofs.FrontLaws.{front_of_lem, length_of}
use Rattle.lay_down.proofs.page.tile_length.Goals as goal

pub returns : goal.returns
returns c = length_of _ (front_of_lem _ c.requires) _ c.plain_tile_length.ensures
