-- `deeds::pieces::judge_tile` meets its contract. Assumes nothing.
use borrow.Author.Rules.{rules}
use mathlib.Core.Path.{◌≡◌}
use Rattle.std.specs.Prelude.{Err}
use native.Mathlib.Omega.{arith}
use mathlib.Core.Path.{ap, ◌∙◌}
use Rattle.answer.specs.Answers.{cell_kind}
use Rattle.store.proofs.PieceLaws.{rectangle_small, answered_piece}
use Rattle.deeds.proofs.PieceLaws.{first_cell, tile_refused, tile_counted_lem}
use Rattle.deeds.proofs.pieces.judge_tile.Goals as goal

pub overflow_add-row : goal.overflow_add-row
overflow_add-row c = record { fits = omega (arith, rectangle_small _ _ c.requires.accepts, c.requires.at.sides) }

pub overflow_add-column : goal.overflow_add-column
overflow_add-column c = record { fits = omega (arith, rectangle_small _ _ c.requires.accepts, c.requires.at.sides) }

pub tally_tile-requires : goal.tally_tile-requires
tally_tile-requires c =
    let n = answered_piece _ _ _ _ _ _ c.hold_lent-held.ensures.holds c.requires.accepts c.requires.at in
    record { accepts = c.requires.accepts; at = c.requires.at; kind = c.cell_kind-kind.ensures ∙ ap cell_kind (first_cell _ _ _ _ c.requires.accepts c.requires.at _ _ _ c.held_cell-cell.ensures n); answered = n }

pub returns-in_err-cell_verdict : goal.returns-in_err-cell_verdict
returns-in_err-cell_verdict c = let e : c.from_residual.result ≡ Err c.in_err-cell_verdict.field-0.0 = search rules in rw e (tile_refused _ _ _ _ c.cell_verdict.ensures (first_cell _ _ _ _ c.requires.accepts c.requires.at _ _ _ c.held_cell-cell.ensures (answered_piece _ _ _ _ _ _ c.hold_lent-held.ensures.holds c.requires.accepts c.requires.at)) _ c.in_err-cell_verdict.was)

pub returns : goal.returns
returns c = tile_counted_lem _ _ _ _ c.cell_verdict.ensures (first_cell _ _ _ _ c.requires.accepts c.requires.at _ _ _ c.held_cell-cell.ensures (answered_piece _ _ _ _ _ _ c.hold_lent-held.ensures.holds c.requires.accepts c.requires.at)) _ c.in_ok-cell_verdict.was c.tally_tile.ensures
