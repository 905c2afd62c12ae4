-- `listing::put_listed` meets its contract. Assumes nothing.
use Rattle.listing.specs.Listing.{listed}
use Rattle.listing.proofs.PutsLaws.{puts_then}
use mathlib.Core.Path.{◌∙◌}
use Rattle.listing.proofs.put_listed.Goals as goal

pub returns : goal.returns
unfolding listed
returns c = let a = c.put_sides-sides in let b = c.put_elements-elements in let d = c.put_written-at in let j = b.auto.out ∙ a.auto.out in
    puts_then (puts_then (puts_then a.ensures.text b.ensures.text a.auto.out) d.ensures.text j) c.put_indexes.ensures (d.auto.out ∙ j)
