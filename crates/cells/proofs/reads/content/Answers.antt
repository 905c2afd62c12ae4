-- `cells::reads::content` meets its contract. Assumes nothing.
use borrow.Author.Rules.{rules}
use Rattle.cells.proofs.ReadLaws.{content_refused, content_mean, content_answer}
use Rattle.cells.proofs.reads.content.Goals as goal

pub returns-in_err-check : goal.returns-in_err-check
returns-in_err-check c = search (rules, content_refused)

pub returns : goal.returns
returns c = content_mean _ _ c.check.ensures _ _ _ c.in_ok-check.was (content_answer _ _ _ _ _ c.look_up_content.ensures c.tile_directory_at.ensures)
