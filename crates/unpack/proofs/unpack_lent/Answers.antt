-- `unpack::unpack_lent` meets its contract. Assumes nothing.
use mathlib.Core.Path.{sym, ap, ◌∙◌}
use Rattle.std.specs.Option.{is_some}
use Rattle.unpack.proofs.AnswerLaws.{some_whole}
use Rattle.unpack.proofs.unpack_lent.Goals as goal

pub returns : goal.returns
returns c =
    let answer = c.is_some.ensures ∙ ap is_some c.unpack_into.ensures.cell ∙ some_whole _ _ in
    record { answer = answer; holds = λ w. c.unpack_into.ensures.is (sym answer ∙ w) }
