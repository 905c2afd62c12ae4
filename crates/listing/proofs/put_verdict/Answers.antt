-- `listing::put_verdict` meets its contract. Assumes nothing.
use Rattle.listing.proofs.ListLaws.{refused_put, accepted_put}
use Rattle.listing.specs.Text.{refused_word, at_word}
use Rattle.listing.proofs.put_verdict.Goals as goal

pub returns-in-Err : goal.returns-in-Err
unfolding refused_word at_word
returns-in-Err c = refused_put _ _ c.requires _ c.in-Err.is c.put_line.ensures.text c.refusal_number-number.ensures c.refusal_place-place.ensures

pub returns-in-Ok : goal.returns-in-Ok
returns-in-Ok c = accepted_put _ _ c.requires c.in-Ok.is c.put_listed.ensures
