-- `lay_down::sheet::put_sheet` meets its contract. Assumes nothing.
use Rattle.lay_down.proofs.FrontLaws.{front_of_lem}
use Rattle.lay_down.proofs.JudgeLaws.{passed_of}
use Rattle.lay_down.proofs.PageWriting.{page_put}
use native.Mathlib.Omega.{arith}
use Rattle.lay_down.proofs.sheet.put_sheet.Goals as goal

pub tile_length-n-requires : goal.tile_length-n-requires
tile_length-n-requires c = (passed_of _ _ _ _ _ c.requires.passes).front

pub directory_start-at-requires : goal.directory_start-at-requires
directory_start-at-requires c = let w = passed_of _ _ _ _ _ c.requires.passes in (w.front, w.few)

pub overflow_add-at : goal.overflow_add-at
overflow_add-at c = let w = passed_of _ _ _ _ _ c.requires.passes in omega (arith, c.directory_start-at.ensures)

pub put_front-requires : goal.put_front-requires
put_front-requires c = let w = passed_of _ _ _ _ _ c.requires.passes in (w.front, omega arith)

pub put_score_tiles-requires : goal.put_score_tiles-requires
put_score_tiles-requires c = let w = passed_of _ _ _ _ _ c.requires.passes in record { ready = (w.front, (w.cells, omega (arith, c.put_front.auto.out))); kept = (c.tile_length-n.ensures, (c.requires.kept.0, c.requires.kept.1)) }

pub put_directory-requires : goal.put_directory-requires
put_directory-requires c = let w = passed_of _ _ _ _ _ c.requires.passes in ((w.front, (w.indexes, w.ceiling)), (c.tile_length-n.ensures, omega (arith, c.directory_start-at.ensures, c.put_front.auto.out, c.put_score_tiles.auto.out)))

pub returns : goal.returns
returns c = let w = passed_of _ _ _ _ _ c.requires.passes in page_put _ _ _ _ _ _ _ _ _ c.put_front.ensures c.put_score_tiles.ensures c.put_directory.ensures c.directory_start-at.ensures (front_of_lem _ w.front) w.cells w.fits
