-- `fronts::fixed::put_mark` meets its contract. Assumes nothing.
use Rattle.check_header.specs.Identification.{mark}
use Rattle.fronts.specs.Front.{block_bytes}
use Rattle.fronts.proofs.fixed.put_mark.Goals as goal

pub returns : goal.returns
unfolding block_bytes mark
returns c = c.put_bytes.ensures
