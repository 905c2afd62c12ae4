-- `correct::directories::put_entries_cut` meets its contract. Assumes nothing.
use native.Mathlib.Omega.{arith}
use Rattle.record.proofs.TallyLaws.{tag_other}
use Rattle.stores.proofs.JoinLaws.{ran, told}
use Rattle.correct.proofs.ListLaws.{listing_begin, listing_room, listing_less, listing_stay, listing_fits, listing_more, listing_over}
use Rattle.correct.proofs.directories.put_entries_cut.Goals as goal

pub loop-kind-init : goal.loop-kind-init
loop-kind-init c = listing_begin _ _ _ _ c.part_of.ensures.holds c.header_end.ensures

pub shape_of-out-in_default : goal.shape_of-out-in_default
shape_of-out-in_default c = listing_room c.loop-kind.invariant

pub returns-in_default : goal.returns-in_default
returns-in_default c = let all_of = told (listing_over c.loop-kind.invariant c.part_of-in-loop-kind.ensures.holds c.step.ensures (tag_other _ c.in_default.not-Record)) in record { left = all_of.0; holds = all_of.1 }

pub put_entry_cut-left-requires : goal.put_entry_cut-left-requires
put_entry_cut-left-requires c = listing_fits c.loop-kind.invariant c.part_of-in-loop-kind.ensures.holds c.in-Record.is c.step.ensures (omega arith) c.requires

pub overflow_add-at-then-kind-eq-FREE : goal.overflow_add-at-then-kind-eq-FREE
overflow_add-at-then-kind-eq-FREE c = omega (arith, listing_fits c.loop-kind.invariant c.part_of-in-loop-kind.ensures.holds c.in-Record.is c.step.ensures (omega arith) c.requires, listing_room c.loop-kind.invariant)

pub loop-kind-smaller-then-kind-eq-FREE : goal.loop-kind-smaller-then-kind-eq-FREE
loop-kind-smaller-then-kind-eq-FREE c = listing_less c.loop-kind.invariant c.part_of-in-loop-kind.ensures.holds c.in-Record.is c.step.ensures

pub loop-kind-preserved-then-kind-eq-FREE : goal.loop-kind-preserved-then-kind-eq-FREE
loop-kind-preserved-then-kind-eq-FREE c = listing_more c.loop-kind.invariant c.part_of-in-loop-kind.ensures.holds c.in-Record.is c.step.ensures (omega arith) c.requires (ran (c.put_entry_cut-left.ensures.left, c.put_entry_cut-left.ensures.holds))

pub loop-kind-smaller : goal.loop-kind-smaller
loop-kind-smaller c = listing_less c.loop-kind.invariant c.part_of-in-loop-kind.ensures.holds c.in-Record.is c.step.ensures

pub loop-kind-preserved : goal.loop-kind-preserved
loop-kind-preserved c = listing_stay c.loop-kind.invariant c.part_of-in-loop-kind.ensures.holds c.in-Record.is c.step.ensures (λ z. omega arith)
