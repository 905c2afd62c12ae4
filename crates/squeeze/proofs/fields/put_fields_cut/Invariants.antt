-- `squeeze::fields::put_fields_cut` meets its contract. Assumes nothing.
use Prim.Native.Nat.{◌-◌}
use Rattle.plans.specs.Moved.{named_in}
use Rattle.squeeze.proofs.FieldLaws.{Putting}
use Rattle.squeeze.proofs.fields.put_fields_cut.Given as goal

abbrev pub invariant-loop-i : goal.invariant-loop-i
invariant-loop-i l =
    Putting l.k l.initial.out l.to (named_in l.plan) l.from l.n l.first l.strings l.w l.count l.i l.p l.q l.left l.out

abbrev pub decreases-loop-i : goal.decreases-loop-i
decreases-loop-i l = l.count - l.i
