-- `explain::given::given_right` meets its contract. Assumes nothing.
use borrow.Author.Rules.{rules}
use Rattle.explain.proofs.GivenLaws.{given_zero, given_none, given_own, given_other}
use Rattle.explain.proofs.given.given_right.Goals as goal

pub returns-then-reference-eq0 : goal.returns-then-reference-eq0
returns-then-reference-eq0 c = search (rules, given_zero)

pub returns-then-u32_off-i : goal.returns-then-u32_off-i
returns-then-u32_off-i c = search (rules, given_own)

pub returns-then-refers_to : goal.returns-then-refers_to
returns-then-refers_to c = search (rules, given_other)

pub returns : goal.returns
returns c = search (rules, given_none)
