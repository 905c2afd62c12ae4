-- `score_rule::rule_of` meets its contract. Assumes nothing.
use borrow.Author.Rules.{rules}
use Rattle.score_rule.specs.Rules.{said_by}
use Rattle.score_rule.proofs.RuleLaws.{said_none, said_several, said_first, said_second, said_wrong}
use Rattle.score_rule.proofs.rule_of.Goals as goal

pub returns-then-id-eq1 : goal.returns-then-id-eq1
unfolding said_by
returns-then-id-eq1 c = search rules

pub returns-then-id-eq2 : goal.returns-then-id-eq2
unfolding said_by
returns-then-id-eq2 c = search (rules, said_none, said_several, said_first, said_second, said_wrong)

pub enum_told-in-Several : goal.enum_told-in-Several
unfolding said_by
enum_told-in-Several c = search (rules, said_none, said_several, said_first, said_second, said_wrong)

pub returns-in-Absent : goal.returns-in-Absent
unfolding said_by
returns-in-Absent c = search (rules, said_none, said_several, said_first, said_second, said_wrong)

pub returns-else-id-eq2 : goal.returns-else-id-eq2
unfolding said_by
returns-else-id-eq2 c = search (rules, said_none, said_several, said_first, said_second, said_wrong)

pub returns-in-Several : goal.returns-in-Several
unfolding said_by
returns-in-Several c = search (rules, said_none, said_several, said_first, said_second, said_wrong)
