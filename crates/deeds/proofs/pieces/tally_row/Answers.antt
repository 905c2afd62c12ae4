-- `deeds::pieces::tally_row` meets its contract. Assumes nothing.
use Prim.Native.Nat.{◌+◌, ◌-◌, ◌*◌}
use native.Mathlib.Omega.{arith}
use Rattle.store.proofs.PieceLaws.{rectangle_small, start_small, numbered_row}
use Rattle.deeds.proofs.PieceLaws.{numbered_tally_lem}
use Rattle.deeds.proofs.pieces.tally_row.Goals as goal

pub overflow_mul-start : goal.overflow_mul-start
overflow_mul-start c = record { fits = omega (arith, start_small _ _ _ c.args.r _ c.requires.ready.accepts c.requires.ready.at c.requires.ready.across c.requires.row.0 c.requires.row.1) }

pub overflow_add-start : goal.overflow_add-start
overflow_add-start c = record { fits = omega (arith, start_small _ _ _ c.args.r _ c.requires.ready.accepts c.requires.ready.at c.requires.ready.across c.requires.row.0 c.requires.row.1) }

pub overflow_sub-x : goal.overflow_sub-x
overflow_sub-x c = omega (arith, c.requires.ready.at.sides)

pub tell_row-requires : goal.tell_row-requires
tell_row-requires c = let n = numbered_row _ _ _ _ _ _ _ _ _ _ (c.args.x.now.p.inside + (c.args.r - c.args.x.now.p.top) * c.args.x.now.across) c.requires.ready.answered c.held_kind.ensures c.if-held_kind-eq0.false (rw c.requires.ready.across) c.requires.ready.kind c.requires.ready.fill c.requires.row.0 c.requires.row.1 in let m = rectangle_small _ _ c.requires.ready.accepts in let i = c.requires.ready.at.sides in (omega (arith, n.small), omega arith)

pub returns : goal.returns
returns c = numbered_tally_lem _ _ _ _ _ _ _ _ _ _ _ _ _ _ c.tell_row.ensures (numbered_row _ _ _ _ _ _ _ _ _ _ _ c.requires.ready.answered c.held_kind.ensures c.if-held_kind-eq0.false (rw c.requires.ready.across) c.requires.ready.kind c.requires.ready.fill c.requires.row.0 c.requires.row.1)
