-- `record::walk::tests::count` meets its contract. Assumes nothing.
use Rattle.std.proofs.Common.{rules}
use mathlib.Core.Path.{◌∙◌}
use Rattle.record.specs.Chain.{records}
use Rattle.record.proofs.WalkLaws.{callable, length_from_filter}
use Rattle.record.proofs.walk.tests.count.Goals as goal

pub count-requires-clause-can : goal.count-requires-clause-can
count-requires-clause-can g c = (
  tt,
  tt,
  rw (c.filter.ensures.source, c.filter.ensures.closure)
      (callable c.records_from.ensures.file (λ x v k. search rules) (λ x o i y e. search (rules, c.requires x o i))),
)

pub returns : goal.returns
unfolding records
returns g c = λ p d.
    length_from_filter {p = p} (λ x b v k. search rules) (λ x o i b k. search (rules, d x o i b)) _ _ _
    c.records_from.ensures.file (c.records_from.ensures.at ∙ c.header_end.ensures) c.filter.ensures.source c.filter.ensures.closure c.count.ensures.ran
