-- `plans::kept::next_kept` meets its contract. Assumes nothing.
use borrow.Author.Rules.{rules}
use Rattle.record.proofs.SeekLaws.{seek}
use Rattle.plans.proofs.kept.next_kept.Goals as goal

pub loop-kind-init : goal.loop-kind-init
loop-kind-init c = search (rules, seek)

pub step-requires : goal.step-requires
step-requires c = search (rules, seek)

pub enum_known-kind : goal.enum_known-kind
enum_known-kind c = search (rules, seek)

pub returns-in_default : goal.returns-in_default
returns-in_default c = search (rules, seek)

pub is_kept-requires : goal.is_kept-requires
is_kept-requires c = search (rules, seek)

pub returns-then-is_kept : goal.returns-then-is_kept
returns-then-is_kept c = search (rules, seek)

pub loop-kind-smaller : goal.loop-kind-smaller
loop-kind-smaller c = search (rules, seek)

pub loop-kind-preserved : goal.loop-kind-preserved
loop-kind-preserved c = search (rules, seek)
