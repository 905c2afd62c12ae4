-- `record::frame::entries_fit` meets its contract. Assumes nothing.
use Rattle.std.proofs.lemmas.Bool.{not_from_true, not_from_false}
use native.Mathlib.Omega.{arith}
use Rattle.record.proofs.FitLaws.{within_told, over_told, fit_over, fit_loose, fit_yes}
use Rattle.record.proofs.frame.entries_fit.Goals as goal

pub returns-then-limit-fixed : goal.returns-then-limit-fixed
returns-then-limit-fixed c = fit_over _ _ _ _ c.record_limit-limit.ensures.is (omega arith)

pub returns-then-limit-fixed-2 : goal.returns-then-limit-fixed-2
returns-then-limit-fixed-2 c = fit_over _ _ _ _ c.record_limit-limit.ensures.is (omega arith)

pub returns-then-not-within : goal.returns-then-not-within
returns-then-not-within c = let h = over_told _ _ _ _ c.within.ensures (not_from_false _ c.if-not-within.true) in fit_over _ _ _ _ c.record_limit-limit.ensures.is (omega arith)

pub overflow_mul-count : goal.overflow_mul-count
overflow_mul-count c = let h = within_told _ _ _ _ c.within.ensures (not_from_true _ c.if-not-within.false) in record { fits = omega arith }

pub overflow_sub-room-3 : goal.overflow_sub-room-3
overflow_sub-room-3 c = within_told _ _ _ _ c.within.ensures (not_from_true _ c.if-not-within.false)

pub returns-then-room-count-gt7 : goal.returns-then-room-count-gt7
returns-then-room-count-gt7 c = let h = within_told _ _ _ _ c.within.ensures (not_from_true _ c.if-not-within.false) in fit_loose _ _ _ _ c.record_limit-limit.ensures.is (omega arith)

pub returns : goal.returns
returns c = let h = within_told _ _ _ _ c.within.ensures (not_from_true _ c.if-not-within.false) in fit_yes _ _ _ _ c.record_limit-limit.ensures.is (omega arith) (omega arith)
