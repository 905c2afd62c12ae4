-- `correct::tiles::put_section_cut` meets its contract. Assumes nothing.
use native.Mathlib.Omega.{arith}
use mathlib.Core.Path.{refl}
use Rattle.stores.proofs.JoinLaws.{ran, told}
use Rattle.correct.proofs.TileLaws.{section_stored, section_room}
use Rattle.correct.proofs.tiles.put_section_cut.Goals as goal

pub overflow_add-at-3 : goal.overflow_add-at-3
overflow_add-at-3 c = omega (arith, section_room _ _ c.requires)

pub returns : goal.returns
returns c = let all_of = told (section_stored _ _ _ _ _ _ _ refl c.padding-pad.ensures.is refl (ran (c.put_u32_cut-a.ensures.left, c.put_u32_cut-a.ensures.holds)) (ran (c.put_cut-b.ensures.left, c.put_cut-b.ensures.holds)) (ran (c.put_zeros_cut.ensures.left, c.put_zeros_cut.ensures.holds)) c.requires) in record { left = all_of.0; holds = all_of.1 }
