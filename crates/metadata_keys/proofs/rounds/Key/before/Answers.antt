-- `metadata_keys::rounds::Key::before` meets its contract. Assumes nothing.
use borrow.Author.Rules.{rules}
use Rattle.metadata_keys.proofs.OrderLaws.{told_apart, told_pairs, ids_tell}
use Rattle.metadata_keys.proofs.rounds.Key.before.Goals as goal

pub returns-then-c : goal.returns-then-c
returns-then-c c = search (rules, ids_tell)

pub name_before-requires-clause-apart : goal.name_before-requires-clause-apart
name_before-requires-clause-apart c = search (rules, told_apart)

pub name_before-requires-clause-told : goal.name_before-requires-clause-told
name_before-requires-clause-told c = search (rules, told_pairs)
