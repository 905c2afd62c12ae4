-- `wire::writing::put_u64` meets its contract. Assumes nothing.
use mathlib.Core.Path.{ap, ◌∙◌}
use Rattle.wire.specs.Bytes.{put}
use Rattle.wire.proofs.StdLaws.{le_bytes_8}
use Rattle.wire.proofs.writing.put_u64.Goals as goal

pub returns : goal.returns
returns c = c.put_bytes.ensures ∙ ap (put c.args.out.now c.args.at) (c.to_le_bytes.ensures ∙ le_bytes_8 _)
