-- `explain::records::body_rows` meets its contract. Assumes nothing.
use Prim.Native.Nat.{◌-◌}
use lib.ListN.{length}
use Rattle.answer.specs.declared.Refusal.TheVariants.{Body}
use Rattle.record.specs.Chain.{header_end}
use Rattle.record_reasons.specs.RecordRows.{body_rows}
use Rattle.record_reasons.proofs.LoopLaws.{Explaining}
use Rattle.record_reasons.proofs.records.body_rows.Given as goal

abbrev pub invariant-loop-kind : goal.invariant-loop-kind
invariant-loop-kind l = Explaining Body (body_rows l.s) l.s 0 (header_end l.s) l.k l.c.at

abbrev pub decreases-loop-kind : goal.decreases-loop-kind
decreases-loop-kind l = length l.s - l.c.at
