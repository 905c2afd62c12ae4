-- `lay_down::sheet::keep_tile` meets its contract. Assumes nothing.
use native.Mathlib.Omega.{arith}
use Rattle.lay_down.proofs.sheet.keep_tile.Goals as goal

pub tile_unread-requires : goal.tile_unread-requires
tile_unread-requires c = (c.requires.0, c.requires.1.0)

pub returns-then-tile_unread-clause-count : goal.returns-then-tile_unread-clause-count
returns-then-tile_unread-clause-count c = rw (← c.tile_unread.ensures, c.if-tile_unread.true)

pub returns-then-tile_unread-clause-list : goal.returns-then-tile_unread-clause-list
returns-then-tile_unread-clause-list c = rw (← c.tile_unread.ensures, c.if-tile_unread.true)

pub bounds-list-n : goal.bounds-list-n
bounds-list-n c = omega (arith, c.requires.1.1)

pub overflow_add-result : goal.overflow_add-result
overflow_add-result c = omega (arith, c.requires.1.1)

pub returns-clause-count : goal.returns-clause-count
returns-clause-count c = rw (← c.tile_unread.ensures, c.if-tile_unread.false)

pub returns-clause-list : goal.returns-clause-list
returns-clause-list c = rw (← c.tile_unread.ensures, c.if-tile_unread.false)
