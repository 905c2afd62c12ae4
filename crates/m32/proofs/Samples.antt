-- The sample numbers and their codes. Assumes nothing.
use mathlib.Core.Path.{refl}
use Rattle.wire.specs.Tests.{passes}
use Rattle.m32.specs.M32.{bytes_next, first_step, go_on, ended, further_step, magnitude, read_code, absolute, reached, continued, sevens, payload, wide, code_of}
use Rattle.m32.specs.Samples.{SamplesHold}

pub samples_hold : SamplesHold
unfolding passes bytes_next first_step go_on ended further_step magnitude read_code absolute reached continued sevens payload wide code_of
samples_hold = record { written = refl; back = refl; refused = refl }
