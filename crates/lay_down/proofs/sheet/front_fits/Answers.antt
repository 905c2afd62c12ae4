-- `lay_down::sheet::front_fits` meets its contract. Assumes nothing.
use Rattle.lay_down.proofs.SheetLaws.{fits_rows, fits_columns, fits_element}
use Rattle.lay_down.proofs.sheet.front_fits.Goals as goal

pub returns-then-grid_rows-sheet_rows : goal.returns-then-grid_rows-sheet_rows
returns-then-grid_rows-sheet_rows c = fits_rows _ _ _ _ c.grid_rows.ensures c.sheet_rows.ensures.is c.if-grid_rows-sheet_rows.true

pub returns-then-grid_columns-sheet_columns : goal.returns-then-grid_columns-sheet_columns
returns-then-grid_columns-sheet_columns c = fits_columns _ _ _ _ c.grid_rows.ensures c.sheet_rows.ensures.is c.if-grid_rows-sheet_rows.false _ _ c.grid_columns.ensures c.sheet_columns.ensures.is c.if-grid_columns-sheet_columns.true

pub returns : goal.returns
returns c = fits_element _ _ _ _ c.grid_rows.ensures c.sheet_rows.ensures.is c.if-grid_rows-sheet_rows.false _ _ c.grid_columns.ensures c.sheet_columns.ensures.is _ c.if-grid_columns-sheet_columns.false c.score_element.ensures
