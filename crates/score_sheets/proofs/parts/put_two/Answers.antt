-- `score_sheets::parts::put_two` meets its contract. Assumes nothing.
use Rattle.score_sheets.proofs.PartLaws.{two_put}
use Rattle.score_sheets.proofs.parts.put_two.Goals as goal

pub returns : goal.returns
returns c = two_put _ _ _ c.requires.0 c.requires.1
