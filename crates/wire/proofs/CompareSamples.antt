-- Req 04's samples of names compared hold. Assumes nothing.
use mathlib.Core.Path.{refl}
use Rattle.wire.specs.Bytes.{same_bytes}
use Rattle.wire.specs.Compare.{agreeing, pairs_read, compared}
use Rattle.wire.specs.CompareSamples.{ComparisonsHold}

pub comparisons_hold : ComparisonsHold
unfolding same_bytes agreeing pairs_read compared
comparisons_hold = refl
