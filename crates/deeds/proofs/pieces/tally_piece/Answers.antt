-- `deeds::pieces::tally_piece` meets its contract. Assumes nothing.
use native.Mathlib.Omega.{arith}
use mathlib.Core.Path.{refl}
use Rattle.store.proofs.PieceLaws.{rectangle_small}
use Rattle.deeds.proofs.TallyLaws.{tally_none, tally_fits, tally_under, tally_ends}
use Rattle.deeds.proofs.pieces.tally_piece.Goals as goal

pub loop-r-init : goal.loop-r-init
loop-r-init c = tally_none _ _ _ _ _ _ _ c.of_fills-t.ensures (λ r d h. omega arith)

pub join-t-requires : goal.join-t-requires
join-t-requires c = let m = rectangle_small _ _ c.requires.accepts in let i = c.requires.at.sides in tally_fits _ _ _ _ _ _ _ _ _ _ _ _ c.loop-r.invariant c.tally_row-u.ensures (omega arith) (omega arith) (omega arith) (omega arith)

pub loop-r-preserved : goal.loop-r-preserved
loop-r-preserved c = tally_under _ _ _ _ _ _ _ _ _ _ c.loop-r.invariant c.tally_row-u.ensures c.join-t.ensures (omega arith) (omega arith)

pub returns : goal.returns
returns c = tally_ends _ _ _ _ _ _ _ _ _ c.loop-r.invariant (omega (arith, c.requires.at.sides)) refl
