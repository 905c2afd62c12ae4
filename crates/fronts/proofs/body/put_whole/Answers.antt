-- `fronts::body::put_whole` meets its contract. Assumes nothing.
use Prim.Native.Nat.{ℕ, min}
use mathlib.Core.Path.{refl, ap, ◌∙◌}
use native.Mathlib.Omega.{arith}
use Rattle.fronts.proofs.CountLaws.{right_of_lem}
use Rattle.fronts.proofs.BodyLaws.{front_holds, front_put}
use Rattle.fronts.proofs.body.put_whole.Goals as goal

pub overflow_sub-n : goal.overflow_sub-n
overflow_sub-n c = omega (arith, front_holds _ _ _ _ c.requires.0, c.requires.1.0)

pub overflow_cast-n : goal.overflow_cast-n
overflow_cast-n c = omega (arith, (right_of_lem _ _ _ _ c.requires.0).allowed, c.requires.1.0)

pub put_body-end-requires : goal.put_body-end-requires
put_body-end-requires c = (c.requires.0, omega (arith, front_holds _ _ _ _ c.requires.0, c.requires.1.0, c.requires.1.1, c.put_mark.auto.out, c.put_head.auto.out))

pub overflow_sub-n-2 : goal.overflow_sub-n-2
overflow_sub-n-2 c = omega (arith, front_holds _ _ _ _ c.requires.0, c.requires.1.0)

pub returns : goal.returns
returns c = front_put _ _ _ _ c.requires.0 _ _ _ _ _ _ _ _ _ c.requires.1.0 refl (c.code_of-flag.ensures ∙ ap (λ (x : ℕ). min x 255) c.number_in.ensures) c.requires.1.1 c.put_mark.ensures c.put_head.ensures c.put_body-end.ensures.holds c.put_body-end.ensures.end c.close.ensures
