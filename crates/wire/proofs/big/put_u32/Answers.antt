-- `wire::big::put_u32` meets its contract. Assumes nothing.
use mathlib.Core.Path.{ap, ◌∙◌}
use Rattle.wire.specs.Bytes.{put}
use Rattle.wire.proofs.StdLaws.{be_bytes_4}
use Rattle.wire.proofs.big.put_u32.Goals as goal

pub returns : goal.returns
returns c = c.put_bytes.ensures ∙ ap (put c.args.out.now c.args.at) (c.to_be_bytes.ensures ∙ be_bytes_4 _)
