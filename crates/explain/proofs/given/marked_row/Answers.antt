-- `explain::given::marked_row` meets its contract. Assumes nothing.
use borrow.Author.Rules.{rules}
use Rattle.explain.proofs.MarkLaws.{marked_kept}
use Rattle.explain.proofs.given.marked_row.Goals as goal

pub returns-then-marks-j-eq1 : goal.returns-then-marks-j-eq1
returns-then-marks-j-eq1 c = search (rules, marked_kept)
