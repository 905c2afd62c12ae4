-- `listing::put_line` meets its contract. Assumes nothing.
use native.Mathlib.Omega.{arith}
use Rattle.listing.proofs.LineLaws.{line_put}
use Rattle.listing.proofs.put_line.Goals as goal

pub returns : goal.returns
returns c = let s = c in record { text = line_put _ _ _ _ _ _ _ _ _ _ _ _ c.put_bytes.ensures c.put_decimal.ensures.holds c.put_decimal.ensures.long c.put_bytes-2.ensures c.put_last.ensures.text; few = omega (arith, c.put_last.ensures.few, c.put_decimal.ensures.few, s.requires.1.0, s.requires.1.1) }
