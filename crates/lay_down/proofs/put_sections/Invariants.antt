-- `lay_down::put_sections` meets its contract. Assumes nothing.
use Rattle.lay_down.proofs.SectionWriting.{Standing}
use Prim.Native.Nat.{◌≤◌}
use Rattle.lay_down.proofs.put_sections.Given as goal

abbrev pub invariant-loop-e : goal.invariant-loop-e
invariant-loop-e l = (l.e ≤ l.n) × Standing l.initial.out l.at l.front l.cells l.out l.p l.from l.e
