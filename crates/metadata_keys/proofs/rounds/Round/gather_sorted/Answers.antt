-- `metadata_keys::rounds::Round::gather_sorted` meets its contract. Assumes nothing.
use borrow.Author.Rules.{rules}
use Rattle.metadata_keys.proofs.RoundLaws.{sorted_round}
use Rattle.metadata_keys.proofs.rounds.Round.gather_sorted.Goals as goal

pub returns : goal.returns
returns c = sorted_round _ _ _ _ _ c.in_ok-n.ensures c.order.ensures (search rules)
