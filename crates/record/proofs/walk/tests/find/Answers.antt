-- `record::walk::tests::find` meets its contract. Assumes nothing.
use Rattle.std.proofs.Common.{rules}
use Rattle.record.proofs.WalkLaws.{callable, first_from_find}
use Rattle.record.proofs.walk.tests.find.Goals as goal

pub find-requires-clause-callable : goal.find-requires-clause-callable
find-requires-clause-callable g c = callable c.records_from.ensures.file (λ x v k. search rules) (λ x o i y e. search (rules, c.requires x o i))

pub returns : goal.returns
returns g c = λ p d.
    let is = first_from_find {p = p} (λ x b v k. search rules) (λ x o i b k. search (rules, d x o i b)) c.find.result c.records_from.result c.find.new.self
    c.records_from.ensures.file c.records_from.ensures.at c.find.ensures.ran in search rules
