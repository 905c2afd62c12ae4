-- `comparisons::alike` meets its contract. Assumes nothing.
use mathlib.Core.Path.{sym, ◌∙◌}
use Rattle.comparisons.proofs.PageLaws.{not_alike, alike_kinds}
use Rattle.comparisons.proofs.alike.Goals as goal

pub returns-then-a-b : goal.returns-then-a-b
returns-then-a-b c = not_alike _ _ (λ h. c.if-a-b.true (c.shape_of-a.ensures.rows ∙ h.rows ∙ sym c.shape_of-b.ensures.rows))

pub returns-then-a-b-2 : goal.returns-then-a-b-2
returns-then-a-b-2 c = not_alike _ _ (λ h. c.if-a-b-2.true (c.shape_of-a.ensures.columns ∙ h.columns ∙ sym c.shape_of-b.ensures.columns))

pub returns-then-a-b-3 : goal.returns-then-a-b-3
returns-then-a-b-3 c = not_alike _ _ (λ h. c.if-a-b-3.true (c.shape_of-a.ensures.tile_rows ∙ h.tile_rows_lem ∙ sym c.shape_of-b.ensures.tile_rows))

pub returns-then-a-b-4 : goal.returns-then-a-b-4
returns-then-a-b-4 c = not_alike _ _ (λ h. c.if-a-b-4.true (c.shape_of-a.ensures.tile_columns ∙ h.tile_columns_lem ∙ sym c.shape_of-b.ensures.tile_columns))

pub returns-then-a-b-5 : goal.returns-then-a-b-5
returns-then-a-b-5 c = not_alike _ _ (λ h. c.if-a-b-5.true (c.shape_of-a.ensures.elements ∙ h.elements ∙ sym c.shape_of-b.ensures.elements))

pub returns : goal.returns
returns c = alike_kinds _ _ _ _ c.kinds_alike.ensures c.shape_of-a.ensures.elements (sym c.shape_of-a.ensures.rows ∙ c.if-a-b.false ∙ c.shape_of-b.ensures.rows) (sym c.shape_of-a.ensures.columns ∙ c.if-a-b-2.false ∙ c.shape_of-b.ensures.columns) (sym c.shape_of-a.ensures.tile_rows ∙ c.if-a-b-3.false ∙ c.shape_of-b.ensures.tile_rows) (sym c.shape_of-a.ensures.tile_columns ∙ c.if-a-b-4.false ∙ c.shape_of-b.ensures.tile_columns) (sym c.shape_of-a.ensures.elements ∙ c.if-a-b-5.false ∙ c.shape_of-b.ensures.elements)
