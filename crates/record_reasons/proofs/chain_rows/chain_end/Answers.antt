-- `explain::chain_rows::chain_end` meets its contract. Assumes nothing.
use borrow.Author.Rules.{rules}
use Rattle.record_reasons.proofs.ChainRowLaws.{chain_kept, chain_broken}
use Rattle.record_reasons.proofs.chain_rows.chain_end.Goals as goal

pub returns-then-s-end : goal.returns-then-s-end
returns-then-s-end c = search (rules, chain_kept)

pub returns : goal.returns
returns c = search (rules, chain_broken)
