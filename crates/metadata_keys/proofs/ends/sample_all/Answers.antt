-- `metadata_keys::ends::sample_all` meets its contract. Assumes nothing.
use borrow.Author.Rules.{rules}
use Rattle.record.proofs.ChainLaws.{less}
use Rattle.metadata_keys.proofs.ends.sample_all.Goals as goal

pub loop-kind-smaller-else-m-eq-SAMPLED : goal.loop-kind-smaller-else-m-eq-SAMPLED
loop-kind-smaller-else-m-eq-SAMPLED c = search (rules, less)

pub loop-kind-smaller : goal.loop-kind-smaller
loop-kind-smaller c = search (rules, less)
