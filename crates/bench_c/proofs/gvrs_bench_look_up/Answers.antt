-- `bench_c::gvrs_bench_look_up` meets its contract. Assumes nothing.
use mathlib.Core.Path.{ap, ◌∙◌}
use Rattle.answer.specs.Answers.{cell_bits}
use Rattle.bench_c.proofs.gvrs_bench_look_up.Goals as goal

pub returns : goal.returns
returns c = c.cell_bits.ensures ∙ ap cell_bits c.cell_of_accepted.ensures.looked
