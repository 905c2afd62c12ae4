-- `answer::cell_verdict` meets its contract. Assumes nothing.

use Rattle.answer.proofs.cell_verdict.Goals as goal

pub returns-in-Err : goal.returns-in-Err
returns-in-Err c = rw c.in-Err.is
