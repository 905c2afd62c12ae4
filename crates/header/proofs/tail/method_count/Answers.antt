-- `header::tail::method_count` meets its contract. Assumes nothing.
use mathlib.Core.Path.{ap, ◌∙◌}
use Rattle.wire.specs.Bytes.{u32_at}
use Rattle.header.specs.Tail.{method_count}
use Rattle.header.proofs.tail.method_count.Goals as goal

pub returns : goal.returns
unfolding method_count
returns c = c.u32_at.ensures ∙ ap (u32_at _) c.methods_at.ensures.is
