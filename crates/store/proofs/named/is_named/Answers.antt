-- `store::named::is_named` meets its contract. Assumes nothing.
use borrow.Author.Rules.{rules}
use Rattle.store.proofs.NamedLaws.{other_type, of_type_named}
use Rattle.store.proofs.named.is_named.Goals as goal

pub returns-then-kind-eq-METADATA : goal.returns-then-kind-eq-METADATA
returns-then-kind-eq-METADATA c = search (rules, of_type_named)

pub returns : goal.returns
returns c = search (rules, other_type)
