-- `answer::float_of` meets its contract. Assumes nothing.
use mathlib.Core.Path.{sym, ◌∙◌}
use Rattle.answer.proofs.FloatLaws.{bits_nan, bits_not_nan, zero_over_zero}
use Rattle.answer.proofs.float_of.Goals as goal

pub returns-then-bits-gt2139095040 : goal.returns-then-bits-gt2139095040
returns-then-bits-gt2139095040 c = zero_over_zero ∙ sym (bits_nan _ c.if-bits-gt2139095040.true)

pub float_from_bits-result : goal.float_from_bits-result
float_from_bits-result c = bits_not_nan _ c.if-bits-gt2139095040.false
