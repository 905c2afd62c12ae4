-- `store::named::first_record_named` meets its contract. Assumes nothing.
use borrow.Author.Rules.{rules}
use Rattle.record.proofs.SeekLaws.{seek}
use Rattle.store.proofs.named.first_record_named.Goals as goal

pub loop-kind-init : goal.loop-kind-init
loop-kind-init c = search (rules, seek)

pub step-requires : goal.step-requires
step-requires c = search (rules, seek)

pub enum_known-kind : goal.enum_known-kind
enum_known-kind c = search (rules, seek)

pub returns-in_default : goal.returns-in_default
returns-in_default c = search (rules, seek)

pub is_named-requires : goal.is_named-requires
is_named-requires c = search (rules, seek)

pub returns-then-is_named : goal.returns-then-is_named
returns-then-is_named c = search (rules, seek)

pub loop-kind-smaller : goal.loop-kind-smaller
loop-kind-smaller c = search (rules, seek)

pub loop-kind-preserved : goal.loop-kind-preserved
loop-kind-preserved c = search (rules, seek)
