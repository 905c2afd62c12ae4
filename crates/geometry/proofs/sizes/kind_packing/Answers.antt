-- `geometry::sizes::kind_packing` meets its contract. Assumes nothing.
use native.Mathlib.Omega.{arith}
use Rattle.geometry.proofs.SizeLaws.{kind_packing_is}
use Rattle.geometry.proofs.sizes.kind_packing.Goals as goal

pub returns : goal.returns
returns c = kind_packing_is _ _ _ _ _ _ _ c.tile_rows-h.ensures c.tile_columns-w.ensures c.uncompressed.ensures c.packing_of.ensures (omega arith)
