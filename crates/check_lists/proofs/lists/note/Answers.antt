-- `check_lists::lists::note` meets its contract. Assumes nothing.
use native.Mathlib.Omega.{arith}
use Rattle.check_lists.proofs.WindowLaws.{note_in, note_out}
use borrow.Author.Rules.{rules}
use Rattle.check_lists.proofs.lists.note.Goals as goal

pub returns-then-j-counts : goal.returns-then-j-counts
returns-then-j-counts c = search (rules, note_in)

pub returns-else-j-counts : goal.returns-else-j-counts
returns-else-j-counts c = note_out _ _ (omega arith)
