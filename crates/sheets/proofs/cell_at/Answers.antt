-- `sheets::cell_at` meets its contract. Assumes nothing.
use Rattle.sheets.proofs.GridLaws.{cell_asked}
use Rattle.sheets.proofs.cell_at.Goals as goal

pub returns : goal.returns
returns c = cell_asked _ _ _ _ c.requires _ _ _ _ c.first_piece-p.ensures c.hold_lent-held.ensures.holds c.held_cell.ensures
