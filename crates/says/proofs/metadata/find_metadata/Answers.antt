-- `says::metadata::find_metadata` meets its contract. Assumes nothing.
use Rattle.std.specs.Prelude.{Err}
use Rattle.answer.proofs.VerdictLaws.{refusal_handed, answer_behind}
use Rattle.says.specs.Metadata.{read_metadata}
use Rattle.says.proofs.metadata.find_metadata.Goals as goal

pub returns-in-Err : goal.returns-in-Err
unfolding read_metadata
returns-in-Err c = refusal_handed Err _ _ c.check.ensures _ _ c.in-Err.is

pub returns-in-Ok : goal.returns-in-Ok
unfolding read_metadata
returns-in-Ok c = answer_behind Err _ _ c.check.ensures _ _ c.in-Ok.is (λ a. c.find_keyed.ensures)
