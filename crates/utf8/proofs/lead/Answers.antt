-- `utf8::lead` meets its contract: each way out by the row's place in the table, those of a single first octet before the ranges.
-- Assumes nothing.
use native.Mathlib.Omega.{arith}
use Rattle.utf8.specs.inner.Wanted.{wanted}
use Rattle.utf8.proofs.LeadLaws.{leads, lead_in, lead_out}
use Rattle.utf8.proofs.lead.Goals as goal

pub returns-then-b-lt128 : goal.returns-then-b-lt128
unfolding wanted leads
returns-then-b-lt128 c = lead_in 0 _ (omega arith)

pub returns-in-224 : goal.returns-in-224
unfolding wanted leads
returns-in-224 c = lead_in 2 _ (omega arith)

pub returns-in-237 : goal.returns-in-237
unfolding wanted leads
returns-in-237 c = lead_in 4 _ (omega arith)

pub returns-in-240 : goal.returns-in-240
unfolding wanted leads
returns-in-240 c = lead_in 6 _ (omega arith)

pub returns-in-244 : goal.returns-in-244
unfolding wanted leads
returns-in-244 c = lead_in 8 _ (omega arith)

pub returns-in-194-to-223 : goal.returns-in-194-to-223
unfolding wanted leads
returns-in-194-to-223 c = lead_in 1 _ (omega arith)

pub returns-in-225-to-236 : goal.returns-in-225-to-236
unfolding wanted leads
returns-in-225-to-236 c = lead_in 3 _ (omega arith)

pub returns-in-238-to-239 : goal.returns-in-238-to-239
unfolding wanted leads
returns-in-238-to-239 c = lead_in 5 _ (omega arith)

pub returns-in-241-to-243 : goal.returns-in-241-to-243
unfolding wanted leads
returns-in-241-to-243 c = lead_in 7 _ (omega arith)

pub returns-in_default : goal.returns-in_default
unfolding wanted leads
returns-in_default c = lead_out _ (omega arith)

pub returns-in_default-2 : goal.returns-in_default-2
unfolding wanted leads
returns-in_default-2 c = lead_out _ (omega arith)
