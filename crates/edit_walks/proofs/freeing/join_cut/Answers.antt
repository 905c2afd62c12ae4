-- `edit_walks::freeing::join_cut` meets its contract. Assumes nothing.
use Rattle.record.proofs.TallyLaws.{tag_other}
use mathlib.Core.Path.{sym, ◌∙◌}
use Rattle.stores.proofs.JoinLaws.{ran, ran_room, told}
use Rattle.edit_walks.proofs.JoinLaws.{walk_begin, walk_less, walk_kind, walk_loose, walk_used, walk_over}
use Rattle.edit_walks.proofs.freeing.join_cut.Goals as goal

pub loop-kind-init : goal.loop-kind-init
loop-kind-init c = walk_begin _ _ _ _ _ _

pub shape_of-out-in_default : goal.shape_of-out-in_default
shape_of-out-in_default c = ran_room (walk_over c.loop-kind.invariant c.part_of-s.ensures.holds c.step.ensures (tag_other _ c.in_default.not-Record) (ran (c.end_run_cut.ensures.left, c.end_run_cut.ensures.holds)))

pub returns-in_default : goal.returns-in_default
returns-in_default c = let all_of = told (walk_over c.loop-kind.invariant c.part_of-s.ensures.holds c.step.ensures (tag_other _ c.in_default.not-Record) (ran (c.end_run_cut.ensures.left, c.end_run_cut.ensures.holds))) in record { left = all_of.0; holds = all_of.1 }

pub is_wanted-freed-requires : goal.is_wanted-freed-requires
is_wanted-freed-requires c = walk_kind c.loop-kind.invariant c.part_of-s.ensures.holds c.in-Record.is c.step.ensures

pub loop-kind-smaller-then-is_loose : goal.loop-kind-smaller-then-is_loose
loop-kind-smaller-then-is_loose c = walk_less c.loop-kind.invariant c.part_of-s.ensures.holds c.in-Record.is c.step.ensures

pub loop-kind-preserved-then-is_loose : goal.loop-kind-preserved-then-is_loose
loop-kind-preserved-then-is_loose c = walk_loose c.loop-kind.invariant c.part_of-s.ensures.holds c.in-Record.is c.step.ensures c.is_wanted-freed.ensures (sym c.is_loose.ensures ∙ c.if-is_loose.true) c.is_due-due.ensures

pub loop-kind-smaller : goal.loop-kind-smaller
loop-kind-smaller c = walk_less c.loop-kind.invariant c.part_of-s.ensures.holds c.in-Record.is c.step.ensures

pub loop-kind-preserved : goal.loop-kind-preserved
loop-kind-preserved c = walk_used c.loop-kind.invariant c.part_of-s.ensures.holds c.in-Record.is c.step.ensures c.is_wanted-freed.ensures (sym c.is_loose.ensures ∙ c.if-is_loose.false) (ran (c.end_run_cut-left.ensures.left, c.end_run_cut-left.ensures.holds))
