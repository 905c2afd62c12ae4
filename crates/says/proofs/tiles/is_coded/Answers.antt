-- `says::tiles::is_coded` meets its contract. Assumes nothing.
use Rattle.says.proofs.TileLaws.{coded_float, coded_is}
use Rattle.says.proofs.tiles.is_coded.Goals as goal

pub returns-then-kind_of-eq-FLOAT : goal.returns-then-kind_of-eq-FLOAT
returns-then-kind_of-eq-FLOAT c = coded_float _ _ _ _ c.kind_of.ensures c.if-kind_of-eq-FLOAT.true

pub returns : goal.returns
returns c = coded_is _ _ _ _ c.kind_of.ensures _ c.if-kind_of-eq-FLOAT.false c.section_packed.ensures
