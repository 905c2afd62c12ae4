-- `listing::numbers::decimal_length` meets its contract. Assumes nothing.
use native.Mathlib.Omega.{arith}
use Rattle.listing.proofs.TextLaws.{long_last, long_more, long_least, long_most}
use Rattle.listing.proofs.numbers.decimal_length.Goals as goal

pub loop-v-init : goal.loop-v-init
loop-v-init c = (omega arith, long_most 19 _ (omega arith))

pub overflow_add-k : goal.overflow_add-k
overflow_add-k c = record { fits = omega (arith, long_least c.loop-v.v) }

pub loop-v-preserved : goal.loop-v-preserved
loop-v-preserved c = (omega (arith, long_more c.loop-v.v (omega arith)), c.loop-v.invariant.1)

pub returns : goal.returns
returns c = let e = long_last c.loop-v.v (omega arith) in record { is = omega arith; few = omega arith }
