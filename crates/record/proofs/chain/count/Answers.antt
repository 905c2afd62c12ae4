-- `record::chain::count` meets its contract. Assumes nothing.
use Rattle.std.proofs.Common.{rules}
use native.Mathlib.Omega.{arith}
use Rattle.record.proofs.ChainLaws.{less}
use Rattle.record.proofs.SeekLaws.{seek_inside, seek_told}
use Rattle.record.proofs.TallyLaws.{tally_begin, tally_fits, tally_next, tally_over, tag_other}
use Rattle.record.proofs.chain.count.Goals as goal

pub loop-kind-init : goal.loop-kind-init
loop-kind-init g c = tally_begin c.header_end.ensures

pub returns-in_default : goal.returns-in_default
returns-in_default g c = tally_over c.loop-kind.invariant c.step.ensures (tag_other _ c.in_default.not-Record)

pub invariant_of-seen : goal.invariant_of-seen
invariant_of-seen g c = record {
  inside = seek_inside _ _ _ _ _ _ _ c.in-Record.is c.step.ensures;
  is = seek_told _ _ _ _ _ _ _ c.in-Record.is c.step.ensures;
}

pub overflow_add-found : goal.overflow_add-found
overflow_add-found g c =
    record { fits = omega (arith, tally_fits c.loop-kind.invariant c.in-Record.is c.step.ensures c.test.result) }

pub loop-kind-smaller : goal.loop-kind-smaller
loop-kind-smaller g c = search (rules, less)

pub loop-kind-preserved : goal.loop-kind-preserved
loop-kind-preserved g c = tally_next c.loop-kind.invariant c.in-Record.is c.step.ensures _ c.test.ensures
