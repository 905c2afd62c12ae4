-- `listing::list` meets its contract. Assumes nothing.
use native.Mathlib.Omega.{arith}
use Rattle.listing.proofs.ListLaws.{too_long_put, listing_put, listing_not}
use Rattle.listing.specs.Text.{too_long}
use Rattle.listing.proofs.list.Goals as goal

pub returns-then-file-gt-MOST_LISTED-clause-long : goal.returns-then-file-gt-MOST_LISTED-clause-long
unfolding too_long
returns-then-file-gt-MOST_LISTED-clause-long c = (too_long_put _ _ _ (omega arith) c.put_bytes.ensures).0

pub returns-then-file-gt-MOST_LISTED-clause-holds : goal.returns-then-file-gt-MOST_LISTED-clause-holds
unfolding too_long
returns-then-file-gt-MOST_LISTED-clause-holds c = (too_long_put _ _ _ (omega arith) c.put_bytes.ensures).1

pub returns-then-n-text-clause-long : goal.returns-then-n-text-clause-long
returns-then-n-text-clause-long c = (listing_put _ (omega arith) c.put_verdict-n.ensures c.put_verdict.ensures (omega arith)).0

pub returns-then-n-text-clause-holds : goal.returns-then-n-text-clause-holds
returns-then-n-text-clause-holds c = (listing_put _ (omega arith) c.put_verdict-n.ensures c.put_verdict.ensures (omega arith)).1

pub returns-else-n-text-clause-long : goal.returns-else-n-text-clause-long
returns-else-n-text-clause-long c = (listing_not _ (omega arith) c.put_verdict-n.ensures c.args.text.now (omega arith)).0

pub returns-else-n-text-clause-holds : goal.returns-else-n-text-clause-holds
returns-else-n-text-clause-holds c = (listing_not _ (omega arith) c.put_verdict-n.ensures c.args.text.now (omega arith)).1
