-- Req 02's samples of names hold. Assumes nothing.
use mathlib.Core.Path.{refl}
use Rattle.wire.specs.Tests.{passes}
use Rattle.wire.specs.Bytes.{byte_at}
use Rattle.header.specs.Names.{within, letter, name_byte, name_bytes, five_rules, last_byte, identifier}
use Rattle.header.specs.NameSamples.{NamesHold}

pub names_hold : NamesHold
unfolding passes byte_at within letter name_byte name_bytes five_rules last_byte identifier
names_hold = refl
