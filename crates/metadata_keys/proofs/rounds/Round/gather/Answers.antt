-- `metadata_keys::rounds::Round::gather` meets its contract. Assumes nothing.
use borrow.Author.Rules.{rules}
use Rattle.record.proofs.ChainLaws.{less}
use Rattle.record.proofs.SeekLaws.{seek_type}
use Rattle.metadata_keys.proofs.RoundLaws.{gather_begin, gather_keep, gather_pass, gather_over}
use Rattle.metadata_keys.proofs.rounds.Round.gather.Goals as goal

pub loop-kind-init : goal.loop-kind-init
loop-kind-init c = search (rules, gather_begin)

pub returns-in_default : goal.returns-in_default
returns-in_default c = search (rules, gather_over)

pub has-requires : goal.has-requires
has-requires c = search (rules, seek_type)

pub loop-kind-smaller-in_ok-n : goal.loop-kind-smaller-in_ok-n
loop-kind-smaller-in_ok-n c = search (rules, less)

pub loop-kind-preserved-in_ok-n : goal.loop-kind-preserved-in_ok-n
loop-kind-preserved-in_ok-n c = gather_keep _ _ _ _ _ c.loop-kind.invariant _ c.step.ensures _ _ _ _ _ _ c.in-Record.is c.in_ok-n.ensures

pub loop-kind-smaller : goal.loop-kind-smaller
loop-kind-smaller c = search (rules, less)

pub loop-kind-preserved : goal.loop-kind-preserved
loop-kind-preserved c = search (rules, gather_pass)
