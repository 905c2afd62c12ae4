-- `listing::put_index` meets its contract. Assumes nothing.
use native.Mathlib.Omega.{arith}
use Rattle.listing.proofs.LineLaws.{index_none, index_line}
use Rattle.listing.proofs.put_index.Goals as goal

pub returns-then-tile_reference-eq0-clause-text : goal.returns-then-tile_reference-eq0-clause-text
returns-then-tile_reference-eq0-clause-text c = index_none _ c.requires.0 _ _ c.tile_reference.ensures _ _ (omega arith)

pub returns-clause-text : goal.returns-clause-text
returns-clause-text c = index_line _ c.requires.0 _ _ c.tile_reference.ensures c.requires.1.0 (λ z. omega arith) c.put_last.ensures.text

pub returns-clause-few : goal.returns-clause-few
returns-clause-few c = c.put_last.ensures.few
