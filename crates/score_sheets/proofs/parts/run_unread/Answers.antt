-- `score_sheets::parts::run_unread` meets its contract. Assumes nothing.
use mathlib.Core.Path.{refl}
use borrow.Author.Rules.{rules}
use borrow.Author.Tests.{tests}
use Rattle.wire.proofs.RangeLaws.{all_range}
use Rattle.score_sheets.proofs.SheetLaws.{score_read}
use Rattle.score_sheets.proofs.parts.run_unread.Goals as goal

pub returns : goal.returns
returns c = all_range _ _ _ _ _ _ c.all.ensures.ran refl (λ x b q k. search (rules, tests, score_read))
