-- `deeds::pieces::tally_tile` meets its contract. Assumes nothing.
use native.Mathlib.Omega.{arith}
use Rattle.deeds.proofs.TallyLaws.{tally_all_fill}
use Rattle.deeds.proofs.PieceLaws.{area_small, piece_kind}
use Rattle.deeds.proofs.pieces.tally_tile.Goals as goal

pub overflow_sub-p : goal.overflow_sub-p
overflow_sub-p c = omega (arith, c.requires.at.sides)

pub overflow_sub-p-then-kind-eq33 : goal.overflow_sub-p-then-kind-eq33
overflow_sub-p-then-kind-eq33 c = omega (arith, c.requires.at.sides)

pub overflow_mul-p : goal.overflow_mul-p
overflow_mul-p c = record { fits = omega (arith, area_small _ _ _ c.requires.accepts c.requires.at) }

pub returns-then-kind-eq33 : goal.returns-then-kind-eq33
returns-then-kind-eq33 c = tally_all_fill _ _ _ _ _ _ _ c.of_fills.ensures (piece_kind _ _ _ _ c.requires.accepts c.requires.at _ c.requires.kind c.if-kind-eq33.true)

pub tally_piece-requires : goal.tally_piece-requires
tally_piece-requires c =
    record {
      accepts = c.requires.accepts;
      at = c.requires.at;
      answered = c.requires.answered;
      kind = c.kind_of.ensures;
      fill = c.fill_pattern.ensures;
      across = c.shape_of.ensures.tile_columns;
    }
