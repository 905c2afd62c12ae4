-- `lay_down::page::put_directory` meets its contract. Assumes nothing.
use Rattle.lay_down.proofs.PageLaws.{directory_holds}
use Rattle.lay_down.proofs.FrontLaws.{front_of_lem, directory_small}
use Rattle.lay_down.proofs.DirectoryWriting.{directory_put}
use mathlib.Core.Path.{refl}
use native.Mathlib.Omega.{arith}
use Rattle.lay_down.proofs.page.put_directory.Goals as goal

pub overflow_cast-long : goal.overflow_cast-long
overflow_cast-long c = let w = front_of_lem _ c.requires.0.0 in omega (arith, directory_small _ w, c.directory_length-long.ensures)

pub put_references-requires : goal.put_references-requires
put_references-requires c = let p = c.requires in
    (p.0, (p.1.0, omega (arith, directory_holds c.args.front.now, p.1.1, c.put_head.auto.out, c.put_form.auto.out)))

pub overflow_mul-count : goal.overflow_mul-count
overflow_mul-count c = let w = front_of_lem _ c.requires.0.0 in omega (arith, w.tiles, c.tile_count-count.ensures)

pub overflow_add-at-4 : goal.overflow_add-at-4
overflow_add-at-4 c = let p = c.requires in omega (arith, directory_holds c.args.front.now, p.1.1, c.tile_count-count.ensures)

pub returns : goal.returns
returns c = let p = c.requires in
    directory_put _ _ _ _ _ _ _ _ _ _ _ _ _ _ c.put_head.ensures c.put_form.ensures c.tiles_down-down.ensures c.tiles_across-across.ensures c.put_references.ensures refl c.tile_count-count.ensures c.close.ensures c.checksum_enabled-flag.ensures c.directory_length-long.ensures (omega (arith, p.1.1, c.directory_length-long.ensures))
