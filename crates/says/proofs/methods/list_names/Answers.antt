-- `says::methods::list_names` meets its contract. Assumes nothing.
use native.Mathlib.Omega.{arith}
use mathlib.Core.Path.{refl}
use Rattle.says.proofs.ItemLaws.{seen_more, long_kept}
use Rattle.says.proofs.MethodLaws.{names_begin, method_next, names_step, names_end, names_written}
use Rattle.says.proofs.methods.list_names.Goals as goal

pub loop-k-init : goal.loop-k-init
loop-k-init c = (omega arith, c.method_count-n.ensures, c.first_name-at.ensures.is, c.first_name-at.ensures.near, omega arith, refl, names_begin _ _ _)

pub offer-p-requires : goal.offer-p-requires
offer-p-requires c = let i = c.loop-k.invariant in (i.6.fits, (i.6.fewer, omega (arith, i.4, c.method_count-n.ensures)))

pub loop-k-preserved : goal.loop-k-preserved
loop-k-preserved c = let i = c.loop-k.invariant in (omega arith, i.1, method_next _ _ _ _ i.2 c.next_name-at.ensures.is, c.next_name-at.ensures.near, seen_more _ _ _ _ _ c.offer-p.ensures.is i.4, long_kept _ _ _ _ _ c.offer-p.ensures.numbers i.5, names_step _ _ _ _ _ _ _ i.6 i.1 _ _ _ _ (omega arith) i.2 c.name_item-item.ensures c.offer-p.ensures.is c.offer-p.ensures.numbers)

pub shape_of-numbers : goal.shape_of-numbers
shape_of-numbers c = c.loop-k.invariant.5

pub returns : goal.returns
returns c = let i = c.loop-k.invariant in record { is = names_end _ _ _ _ _ _ _ i.6 i.1 (omega arith); numbers = names_written _ _ _ _ _ _ _ i.6 i.1 (omega arith) }
