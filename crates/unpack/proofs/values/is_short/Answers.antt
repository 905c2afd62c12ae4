-- `unpack::values::is_short` meets its contract. Assumes nothing.
use Rattle.unpack.proofs.ValueLaws.{short_low, short_high}
use native.Mathlib.Omega.{arith}
use Rattle.unpack.proofs.values.is_short.Goals as goal

pub returns-then-v-le32767 : goal.returns-then-v-le32767
returns-then-v-le32767 c = short_low _ (omega arith)

pub returns : goal.returns
returns c = short_high _ (omega arith)
