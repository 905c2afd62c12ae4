-- `listing::put_elements` meets its contract. Assumes nothing.
use Rattle.listing.proofs.LineLaws.{elements_put}
use Rattle.listing.specs.Text.{elements_word}
use Rattle.listing.proofs.put_elements.Goals as goal

pub returns-clause-text : goal.returns-clause-text
unfolding elements_word
returns-clause-text c = elements_put _ _ _ _ _ _ _ c.put_bytes.ensures c.put_last.ensures.text c.element_count-n.ensures
