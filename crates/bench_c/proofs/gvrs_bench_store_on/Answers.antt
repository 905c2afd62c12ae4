-- `bench_c::gvrs_bench_store_on` meets its contract. Assumes nothing.
use mathlib.Core.Path.{ap, ◌∙◌}
use Rattle.answer.specs.Answers.{laid_number}
use Rattle.bench_c.proofs.gvrs_bench_store_on.Goals as goal

pub returns-clause-number : goal.returns-clause-number
returns-clause-number c = c.laid_number.ensures ∙ ap laid_number c.store_on-x.ensures.answer

pub returns-clause-buffer : goal.returns-clause-buffer
returns-clause-buffer c = c.store_on-x.ensures.buffer
