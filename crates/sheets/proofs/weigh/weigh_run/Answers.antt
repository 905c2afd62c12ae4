-- `sheets::weigh::weigh_run` meets its contract. Assumes nothing.
use Rattle.sheets.proofs.ReadLaws.{clean_row}
use Rattle.sheets.proofs.WeighLaws.{heavy_none}
use Rattle.sheets.proofs.weigh.weigh_run.Goals as goal

pub returns-then-run_clean : goal.returns-then-run_clean
returns-then-run_clean c = heavy_none _ _ _ _ _ _ _ (clean_row _ _ _ _ _ _ _ _ _ _ _ c.requires.reads (c.run_clean.ensures c.if-run_clean.true))
