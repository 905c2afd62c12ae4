-- Req 12's samples of the first half hold. Assumes nothing.
use mathlib.Core.Path.{refl}
use Rattle.wire.specs.Tests.{passes}
use Rattle.wire.specs.Bytes.{byte_at, part, number, number_at, same_bytes, zeros}
use Rattle.answer.specs.Refusals.{gate}
use Rattle.record.specs.Chain.{header_end}
use Rattle.check_header.specs.Identification.{mark, identified, version_right}
use Rattle.check_header.specs.HeaderRecord.{length_right, frame_right, header_right}
use Rattle.check_header.specs.Stages.{first_two, next_two}
use Rattle.check_start.specs.Start.{no_more, given, header_given, check_start, needed}
use Rattle.check_start.specs.StartSamples.{StartsHold}

pub starts_hold : StartsHold
unfolding passes byte_at part number number_at same_bytes zeros gate header_end mark identified version_right length_right frame_right header_right first_two next_two no_more given header_given check_start needed
starts_hold = record { answers = refl; places = refl; needs = refl }
