-- `listing::put_indexes` meets its contract. Assumes nothing.
use borrow.Author.Rules.{rules}
use native.Mathlib.Omega.{arith}
use mathlib.Core.Path.{◌∙◌}
use Rattle.page_check.proofs.AcceptedLaws.{accepted_obeys}
use Rattle.page_check.proofs.GivenLaws.{obeys_range}
use Rattle.listing.proofs.LineLaws.{indexes_none, indexes_more, indexes_all}
use Rattle.listing.proofs.put_indexes.Goals as goal

pub overflow_cast-n : goal.overflow_cast-n
overflow_cast-n c = record { fits = omega (arith, c.tile_count-n.ensures, (obeys_range _ _ (accepted_obeys _ c.requires.0)).tiles) }

pub loop-i-init : goal.loop-i-init
loop-i-init c = (search rules, omega arith, search rules, indexes_none _ _ _)

pub put_index-p-requires : goal.put_index-p-requires
put_index-p-requires c = let t = (obeys_range _ _ (accepted_obeys _ c.requires.0)).tiles in (c.requires.0, (omega (arith, c.tile_count-n.ensures), omega (arith, t, c.loop-i.invariant.1, c.requires.1)))

pub overflow_add-i : goal.overflow_add-i
overflow_add-i c = record { fits = omega (arith, c.tile_count-n.ensures, (obeys_range _ _ (accepted_obeys _ c.requires.0)).tiles) }

pub loop-i-preserved : goal.loop-i-preserved
loop-i-preserved c = let i = c.loop-i.invariant in (omega arith, omega (arith, c.put_index-p.ensures.few, i.1), c.put_index-p.auto.out ∙ i.2, indexes_more _ _ _ _ i.3 c.put_index-p.ensures.text i.2)

pub shape_of-out : goal.shape_of-out
shape_of-out c = c.loop-i.invariant.2

pub returns : goal.returns
returns c = let i = c.loop-i.invariant in indexes_all _ _ _ _ _ i.3 i.0 (omega arith) c.tile_count-n.ensures
