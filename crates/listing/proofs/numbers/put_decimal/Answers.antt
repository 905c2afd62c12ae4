-- `listing::numbers::put_decimal` meets its contract. Assumes nothing.
use borrow.Author.Rules.{rules}
use Prim.Native.Nat.{◌/◌}
use mathlib.Core.Path.{sym}
use native.Mathlib.Omega.{arith}
use lib.ListN.{length-set}
use Rattle.wire.proofs.PutLaws.{put_not}
use Rattle.listing.proofs.TextLaws.{long_least, long_more}
use Rattle.listing.proofs.PutsLaws.{filling_none, filling_more, filling_all}
use Rattle.listing.proofs.numbers.put_decimal.Goals as goal

pub returns-then-out-long-clause-long : goal.returns-then-out-long-clause-long
returns-then-out-long-clause-long c = c.decimal_length-long.ensures.is

pub returns-then-out-long-clause-few : goal.returns-then-out-long-clause-few
returns-then-out-long-clause-few c = c.decimal_length-long.ensures.few

pub returns-then-out-long-clause-holds : goal.returns-then-out-long-clause-holds
returns-then-out-long-clause-holds c = sym (put_not _ _ _ (omega arith))

pub returns-then-out-long-2-clause-long : goal.returns-then-out-long-2-clause-long
returns-then-out-long-2-clause-long c = c.decimal_length-long.ensures.is

pub returns-then-out-long-2-clause-few : goal.returns-then-out-long-2-clause-few
returns-then-out-long-2-clause-few c = c.decimal_length-long.ensures.few

pub returns-then-out-long-2-clause-holds : goal.returns-then-out-long-2-clause-holds
returns-then-out-long-2-clause-holds c = sym (put_not _ _ _ (omega arith))

pub loop-v-init : goal.loop-v-init
loop-v-init c = let m = long_least c.args.n in (omega arith, search rules, omega arith, omega arith, filling_none _ _ _ _ c.decimal_length-long.ensures.is (omega arith))

pub loop-v-preserved : goal.loop-v-preserved
loop-v-preserved c = let i = c.loop-v.invariant in let v = c.loop-v.v in let m = long_more v (omega arith) in
    (search rules, simp length-set i.1, omega (arith, i.4.long, long_least (v / 10)), omega arith, filling_more i.4 i.0 (omega arith))

pub shape_of-out : goal.shape_of-out
shape_of-out c = simp length-set c.loop-v.invariant.1

pub returns : goal.returns
returns c = let i = c.loop-v.invariant in record { long = c.decimal_length-long.ensures.is; few = c.decimal_length-long.ensures.few; holds = filling_all i.4 i.0 (omega arith) }
