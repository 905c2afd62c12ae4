-- `deeds::pieces::judge_all` meets its contract. Assumes nothing.
use mathlib.Core.Path.{◌≡◌}
use Rattle.std.specs.Prelude.{Err}
use borrow.Author.Rules.{rules}
use native.Mathlib.Omega.{arith}
use mathlib.Core.Path.{refl}
use Rattle.blocks.proofs.WalkLaws.{clear_none, walk_less}
use Rattle.store.proofs.PieceLaws.{walk_first, walk_next}
use Rattle.deeds.proofs.TallyLaws.{tally_begins}
use Rattle.deeds.proofs.PieceLaws.{walk_refused, walk_fits, walk_more, walk_counted}
use Rattle.deeds.proofs.pieces.judge_all.Goals as goal

pub loop-p-init : goal.loop-p-init
loop-p-init c = let w = walk_first _ _ c.requires _ _ c.first_piece-p.ensures (omega arith) in (refl, (w.0, (clear_none _ w.1, tally_begins _ _ _ _ _ c.of_fills-t.ensures w.1)))

pub judge_tile-requires-clause-accepts : goal.judge_tile-requires-clause-accepts
judge_tile-requires-clause-accepts c = c.requires

pub judge_tile-requires-clause-at : goal.judge_tile-requires-clause-at
judge_tile-requires-clause-at c = c.loop-p.invariant.1.0.piece c.loop-p-test.true

pub returns-in_err-u : goal.returns-in_err-u
returns-in_err-u c = let e : c.from_residual.result ≡ Err c.in_err-u.field-0.0 = search rules in rw e (walk_refused _ _ _ _ c.requires (c.loop-p.invariant.1.0.piece c.loop-p-test.true) _ _ c.judge_tile.ensures c.loop-p.invariant.1.1.0 _ c.in_err-u.was)

pub join-t-requires : goal.join-t-requires
join-t-requires c = walk_fits _ _ _ _ c.requires (c.loop-p.invariant.1.0.piece c.loop-p-test.true) _ _ c.judge_tile.ensures c.loop-p.invariant.1.1.0 _ _ c.in_ok-u.was c.loop-p.invariant.1.1.1

pub loop-p-smaller : goal.loop-p-smaller
loop-p-smaller c = let w = walk_next _ _ c.requires _ _ _ c.loop-p.invariant.1.0 c.loop-p-test.true c.next_piece-p.ensures in let i = (c.loop-p.invariant.1.0.piece c.loop-p-test.true).sides in walk_less _ w.1 i.0 i.1.0 i.1.1.0

pub loop-p-preserved : goal.loop-p-preserved
loop-p-preserved c = let w = walk_next _ _ c.requires _ _ _ c.loop-p.invariant.1.0 c.loop-p-test.true c.next_piece-p.ensures in (search rules, (w.0, walk_more _ _ _ _ c.requires (c.loop-p.invariant.1.0.piece c.loop-p-test.true) _ _ c.judge_tile.ensures c.loop-p.invariant.1.1.0 _ _ c.in_ok-u.was c.loop-p.invariant.1.1.1 _ c.join-t.ensures w.1))

pub returns : goal.returns
returns c = let w = c.loop-p.invariant.1.0 in let e = c.loop-p-test.false in walk_counted _ _ _ _ _ _ _ _ c.loop-p.invariant.1.1.0 c.loop-p.invariant.1.1.1 (omega (arith, w.to_last)) (w.ended (omega (arith, w.to_last))) w.sides
