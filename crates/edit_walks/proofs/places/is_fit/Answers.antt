-- `edit_walks::places::is_fit` meets its contract. Assumes nothing.
use native.Mathlib.Omega.{arith}
use Rattle.edit_walks.proofs.SpotLaws.{fit_empty, fit_equal, fit_not, fit_more}
use Rattle.edit_walks.proofs.places.is_fit.Goals as goal

pub returns-then-room-eq0 : goal.returns-then-room-eq0
returns-then-room-eq0 c = fit_empty _ _ (omega arith)

pub returns-then-room-n : goal.returns-then-room-n
returns-then-room-n c = fit_equal _ _ (λ z. omega arith) (omega arith)

pub returns-then-room-lt16 : goal.returns-then-room-lt16
returns-then-room-lt16 c = fit_not _ _ (λ z. omega arith) (omega arith)

pub returns-then-room-n-2 : goal.returns-then-room-n-2
returns-then-room-n-2 c = fit_not _ _ (λ z. omega arith) (omega arith)

pub returns : goal.returns
returns c = fit_more _ _ (λ z. omega arith) (omega arith)
