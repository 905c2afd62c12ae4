-- The sample sums. Assumes nothing.
use mathlib.Core.Path.{refl}
use Rattle.wire.specs.Tests.{passes}
use Rattle.utf8.specs.Utf8.{octet, tail, rows, never, following, goes_on, utf8}
use Rattle.utf8.specs.CodePoints.{filled, encode, encodings}
use Rattle.utf8.specs.TextSamples.{TextsHold}

pub texts_hold : TextsHold
unfolding passes octet tail rows never following goes_on utf8 filled encode encodings
texts_hold = refl
