-- `score_sheets::parts::part_unread` meets its contract. Assumes nothing.
use mathlib.Core.Path.{refl, ◌∙◌}
use Rattle.wire.proofs.RangeLaws.{all_range}
use Rattle.wire.proofs.TestLaws.{below_same}
use Rattle.score_sheets.proofs.PartLaws.{unread_past, row_unread, unread_high}
use borrow.Author.Rules.{rules}
use native.Mathlib.Omega.{arith}
use Rattle.score_sheets.proofs.parts.part_unread.Goals as goal

pub returns-then-columns-column : goal.returns-then-columns-column
returns-then-columns-column c = unread_past _ _ _ _ _ _ _ refl c.sheet_columns.ensures.is c.if-columns-column.true

pub returns : goal.returns
returns c =
    let there = row_unread _ _ _ _ _ _ _ c.sheet_rows.ensures.is c.sheet_columns.ensures.is _ _ c.places_left-high.ensures c.places_left-wide.ensures in
    unread_high _ _ _ _ _ _ _ c.sheet_rows.ensures.is c.sheet_columns.ensures.is _ _ c.places_left-high.ensures c.places_left-wide.ensures _
    (all_range _ _ _ _ _ _ c.all.ensures.ran refl (λ x b q k. search rules) ∙ below_same _ _ _ (λ r h. there r _ _ h refl (omega arith) refl))
