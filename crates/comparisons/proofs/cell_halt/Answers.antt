-- `comparisons::cell_halt` meets its contract. Assumes nothing.
use Rattle.comparisons.proofs.CellLaws.{halt_first, halt_second, halt_none}
use Rattle.comparisons.proofs.cell_halt.Goals as goal

pub returns-in-Err : goal.returns-in-Err
returns-in-Err c = halt_first _ _ _ c.cell_verdict.ensures _ c.in-Err.is

pub returns-in-Err-cell_verdict : goal.returns-in-Err-cell_verdict
returns-in-Err-cell_verdict c = halt_second _ _ _ c.cell_verdict.ensures _ c.cell_verdict-in-Ok.ensures c.in-Ok.is _ c.in-Err-cell_verdict.is

pub returns-in-Ok-cell_verdict : goal.returns-in-Ok-cell_verdict
returns-in-Ok-cell_verdict c = halt_none _ _ _ c.cell_verdict.ensures _ c.cell_verdict-in-Ok.ensures c.in-Ok.is c.in-Ok-cell_verdict.is
