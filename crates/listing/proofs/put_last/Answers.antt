-- `listing::put_last` meets its contract. Assumes nothing.
use native.Mathlib.Omega.{arith}
use Rattle.listing.proofs.LineLaws.{last_put}
use Rattle.listing.proofs.put_last.Goals as goal

pub returns-clause-text : goal.returns-clause-text
returns-clause-text c = last_put _ _ _ _ _ _ c.put_decimal.ensures.holds c.put_decimal.ensures.long c.put_byte.ensures

pub returns-clause-few : goal.returns-clause-few
returns-clause-few c = omega (arith, c.put_decimal.ensures.few)
