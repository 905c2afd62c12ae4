-- `cells::held::put_unpacked` meets its contract. Assumes nothing.
use mathlib.Core.Path.{refl}
use Rattle.cells.proofs.HeldLaws.{all_unpacked}
use Rattle.cells.proofs.held.put_unpacked.Goals as goal

pub returns-then-keep : goal.returns-then-keep
returns-then-keep c = let all_of = all_unpacked _ _ _ _ _ _ _ _ c.kind_of-short.ensures c.tile_rows-rows.ensures c.tile_columns-columns.ensures refl c.content_of-content.ensures _ _ _ _ c.unpack_all.ensures.answer (λ f. c.unpack_all.ensures.holds) in record { whole = all_of.0; holds = all_of.1 }

pub returns : goal.returns
returns c = let all_of = all_unpacked _ _ _ _ _ _ _ _ c.kind_of-short.ensures c.tile_rows-rows.ensures c.tile_columns-columns.ensures refl c.content_of-content.ensures _ _ _ _ c.unpack_lent.ensures.answer (λ f. c.unpack_lent.ensures.holds (f c.if-keep.false)) in record { whole = all_of.0; holds = all_of.1 }
