-- `lay_down::element_sizes` meets its contract. Assumes nothing.
use Rattle.lay_down.proofs.FrontLaws.{front_of_lem, sizes_of_lem}
use Rattle.lay_down.proofs.element_sizes.Goals as goal

pub returns : goal.returns
returns c = sizes_of_lem _ (front_of_lem _ c.requires.0) _ c.element_sizes.ensures c.requires.1
