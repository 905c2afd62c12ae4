-- `rectangles::pieces::fill_tile` meets its contract. Assumes nothing.
use Rattle.store.proofs.PieceLaws.{answered_piece}
use Rattle.rectangles.proofs.pieces.fill_tile.Goals as goal

pub fill_piece-requires-clause-fits : goal.fill_piece-requires-clause-fits
fill_piece-requires-clause-fits c = c.requires.fits

pub fill_piece-requires-clause-ready : goal.fill_piece-requires-clause-ready
fill_piece-requires-clause-ready c =
    record {
      accepts = c.requires.accepts;
      at = c.requires.at;
      answered = answered_piece _ _ _ _ _ _ c.hold_lent-held.ensures.holds c.requires.accepts c.requires.at;
      kind = c.kind_of.ensures;
      fill = c.fill_pattern.ensures;
      across = c.shape_of.ensures.tile_columns;
    }
