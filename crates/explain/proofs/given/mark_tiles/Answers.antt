-- `explain::given::mark_tiles` meets its contract. Assumes nothing.
use borrow.Author.Rules.{rules}
use native.Mathlib.Omega.{arith}
use Rattle.explain.proofs.MarkLaws.{marking}
use Rattle.explain.proofs.given.mark_tiles.Goals as goal

pub loop-kind-init : goal.loop-kind-init
loop-kind-init c = (omega arith, search (rules, marking))

pub returns-in_default : goal.returns-in_default
returns-in_default c = search (rules, marking)

pub mark_tile-requires-clause-chain : goal.mark_tile-requires-clause-chain
mark_tile-requires-clause-chain c = search (rules, marking)

pub mark_tile-requires-clause-marked : goal.mark_tile-requires-clause-marked
mark_tile-requires-clause-marked c = search (rules, marking)

pub loop-kind-smaller : goal.loop-kind-smaller
loop-kind-smaller c = search (rules, marking)

pub loop-kind-preserved : goal.loop-kind-preserved
loop-kind-preserved c = (omega arith, search (rules, marking))
