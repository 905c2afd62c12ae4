-- `sheets::whole` meets its contract. Assumes nothing.
use Rattle.sheets.proofs.GridLaws.{whole_is}
use Rattle.sheets.proofs.whole.Goals as goal

pub returns : goal.returns
returns c = whole_is _ _ _ c.shape_of-shape.ensures.rows c.shape_of-shape.ensures.columns
