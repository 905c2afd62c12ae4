-- `lay_down::page::put_front` meets its contract. Assumes nothing.
use Rattle.lay_down.proofs.FrontLaws.{front_of_lem}
use Rattle.lay_down.proofs.FrontWriting.{front_put}
use mathlib.Core.Path.{refl}
use native.Mathlib.Omega.{arith}
use Rattle.lay_down.proofs.page.put_front.Goals as goal

pub overflow_sub-n : goal.overflow_sub-n
overflow_sub-n c = let w = front_of_lem _ c.requires.0 in omega (arith, w.header_least, w.header_inside)

pub returns : goal.returns
returns c = let w = front_of_lem _ c.requires.0 in front_put _ _ _ _ _ _ _ _ _ c.put_bytes.ensures c.set_fields.ensures c.seal.ensures c.checksum_enabled-flag.ensures refl (omega (arith, w.header_least, w.header_inside)) c.requires.1
