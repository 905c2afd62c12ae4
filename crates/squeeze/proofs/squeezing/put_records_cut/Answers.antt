-- `squeeze::squeezing::put_records_cut` meets its contract. Assumes nothing.
use native.Mathlib.Omega.{arith}
use mathlib.Core.Path.{refl}
use Rattle.record.specs.Chain.{header_end}
use Rattle.header.specs.Fields.{checksum_enabled}
use Rattle.stores.proofs.JoinLaws.{ran, told}
use Rattle.squeeze.proofs.SlideLaws.{upper_is, lower_is, in_page, inside, slide_begin, slide_room, slide_all, next_order, next_inside, next_fits, slide_more}
use Rattle.squeeze.proofs.squeezing.put_records_cut.Goals as goal

pub loop-i-init : goal.loop-i-init
loop-i-init c = slide_begin c.requires _ (in_page header_end _ _ c.part_of-2.ensures.holds c.header_end-e.ensures)

pub overflow_sub-p : goal.overflow_sub-p
overflow_sub-p c = omega (arith, (next_order c.requires c.loop-i.invariant (omega arith) refl (upper_is _) (lower_is _)).0)

pub put_kept_cut-left-requires : goal.put_kept_cut-left-requires
put_kept_cut-left-requires c = ((next_order c.requires c.loop-i.invariant (omega arith) refl (upper_is _) (lower_is _)).1, (c.requires.packs.ascend, next_fits c.requires c.loop-i.invariant (omega arith) refl (upper_is _) (lower_is _) (in_page checksum_enabled _ _ c.part_of.ensures.holds c.checksum_enabled-flag.ensures) (ran (c.put_rest_cut-left.ensures.left, c.put_rest_cut-left.ensures.holds))))

pub overflow_add-e : goal.overflow_add-e
overflow_add-e c = omega (arith, (next_order c.requires c.loop-i.invariant (omega arith) refl (upper_is _) (lower_is _)).1, next_inside c.requires c.loop-i.invariant (omega arith) refl (upper_is _) (lower_is _), inside c.requires, c.u32_at-long.ensures)

pub loop-i-preserved : goal.loop-i-preserved
loop-i-preserved c = slide_more c.requires c.loop-i.invariant (omega arith) refl (upper_is _) (lower_is _) (in_page checksum_enabled _ _ c.part_of.ensures.holds c.checksum_enabled-flag.ensures) (ran (c.put_rest_cut-left.ensures.left, c.put_rest_cut-left.ensures.holds)) c.u32_at-long.ensures (ran (c.put_kept_cut-left.ensures.left, c.put_kept_cut-left.ensures.holds))

pub shape_of-out : goal.shape_of-out
shape_of-out c = slide_room c.requires c.loop-i.invariant

pub returns : goal.returns
returns c = let all_of = told (slide_all c.requires c.loop-i.invariant (omega arith)) in record { left = all_of.0; holds = all_of.1 }
