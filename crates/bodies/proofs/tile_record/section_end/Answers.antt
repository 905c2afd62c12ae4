-- `bodies::tile_record::section_end` meets its contract. Assumes nothing.
use native.Mathlib.Omega.{arith}
use Rattle.bodies.proofs.SectionLaws.{section_is, stored_most}
use Rattle.bodies.proofs.tile_record.section_end.Goals as goal

pub overflow_add-result : goal.overflow_add-result
overflow_add-result c = let m = stored_most _ _ c.stored_size.ensures (omega arith) in record { fits = omega arith }

pub returns : goal.returns
returns c = let m = stored_most _ _ c.stored_size.ensures (omega arith) in record { is = section_is _ _ _ _ c.u32_at.ensures c.stored_size.ensures; near = omega arith }
