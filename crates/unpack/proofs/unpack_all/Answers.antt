-- `unpack::unpack_all` meets its contract. Assumes nothing.
use mathlib.Core.Path.{sym, ap, ◌∙◌}
use Rattle.std.specs.Option.{is_some}
use Rattle.std.proofs.Common.{not}
use Rattle.unpack.proofs.AnswerLaws.{some_whole, none_written}
use Rattle.unpack.proofs.unpack_all.Goals as goal

pub returns-then-is_none : goal.returns-then-is_none
returns-then-is_none c =
    let w = sym (some_whole _ _) ∙ ap is_some (sym c.unpack_cell.ensures) ∙ c.is_none.ensures ∙ ap not c.if-is_none.true in
    record { answer = sym w; holds = none_written _ _ w }

pub returns : goal.returns
returns c =
    let w = sym (some_whole _ _) ∙ ap is_some (sym c.unpack_cell.ensures) ∙ c.is_none.ensures ∙ ap not c.if-is_none.false in
    record { answer = sym w; holds = c.unpack_into.ensures.is w }
