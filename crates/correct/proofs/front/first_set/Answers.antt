-- `correct::front::first_set` meets its contract. Assumes nothing.
use Rattle.std.proofs.Common.{ℕ, Option, length, ◌∙◌, ap}
use Rattle.std.specs.Option.{unwrap_or}
use Rattle.correct.proofs.FieldLaws.{lowest_first}
use Rattle.correct.proofs.front.first_set.Goals as goal

pub returns-clause-is : goal.returns-clause-is
returns-clause-is c = lowest_first _ _ (c.unwrap_or.ensures ∙ ap (λ (o : Option ℕ). unwrap_or o (length c.args.bytes.now)) c.lowest_nonzero.ensures)
