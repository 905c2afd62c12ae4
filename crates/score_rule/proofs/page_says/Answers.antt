-- `score_rule::page_says` meets its contract. Assumes nothing.
use mathlib.Core.Path.{refl}
use Rattle.score_rule.specs.Rules.{score_rule}
use Rattle.score_rule.proofs.RuleLaws.{page_said}
use Rattle.score_rule.proofs.page_says.Goals as goal

pub returns : goal.returns
unfolding score_rule
returns c = let all_of = page_said _ _ _ _ refl c.name_said.ensures c.rule_of.ensures in record { is = all_of.0; accepted = all_of.1 }
