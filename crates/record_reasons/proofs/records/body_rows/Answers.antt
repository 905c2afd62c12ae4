-- `explain::records::body_rows` meets its contract. Assumes nothing.
use borrow.Author.Rules.{rules}
use native.Mathlib.Omega.{arith}
use Rattle.record.specs.Chain.{records}
use Rattle.record_reasons.proofs.LoopLaws.{explain_room, explaining, body_next}
use Rattle.record_reasons.proofs.records.body_rows.Goals as goal

pub header_end-requires : goal.header_end-requires
unfolding records
header_end-requires c = search (rules, explaining)

pub loop-kind-init : goal.loop-kind-init
unfolding records
loop-kind-init c = search (rules, explaining)

pub step-requires : goal.step-requires
unfolding records
step-requires c = search (rules, explaining)

pub enum_known-kind : goal.enum_known-kind
unfolding records
enum_known-kind c = search (rules, explaining)

pub returns-in_default : goal.returns-in_default
unfolding records
returns-in_default c = search (rules, explaining)

pub body_row-requires : goal.body_row-requires
unfolding records
body_row-requires c = search (rules, explaining)

pub returns-in_err-refused_by : goal.returns-in_err-refused_by
unfolding records
returns-in_err-refused_by c = search (rules, explaining)

pub overflow_add-k : goal.overflow_add-k
unfolding records
overflow_add-k c = record { fits = omega (arith, explain_room c.loop-kind.invariant c.in-Record.is c.step.ensures) }

pub loop-kind-smaller : goal.loop-kind-smaller
unfolding records
loop-kind-smaller c = search (rules, explaining)

pub loop-kind-preserved : goal.loop-kind-preserved
unfolding records
loop-kind-preserved c = body_next c.in-Record.is c.step.ensures c.loop-kind.invariant c.body_row.ensures c.refused_by.ensures c.in_ok-refused_by.was
