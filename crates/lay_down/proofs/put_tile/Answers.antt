-- `lay_down::put_tile` meets its contract. Assumes nothing.
use Rattle.written_records.proofs.TileLaws.{plain_holds}
use Rattle.lay_down.proofs.FrontLaws.{front_of_lem, plain_small}
use Rattle.lay_down.proofs.TileWriting.{tile_put}
use native.Mathlib.Omega.{arith}
use Rattle.lay_down.proofs.put_tile.Goals as goal

pub overflow_cast-n : goal.overflow_cast-n
overflow_cast-n c = let w = front_of_lem _ c.requires.0.0 in omega (arith, plain_small _ w, c.requires.1)

pub put_sections-end-requires : goal.put_sections-end-requires
put_sections-end-requires c = let p = c.requires in let w = front_of_lem _ p.0.0 in
    (p.0.0, (p.0.1.0, (p.0.1.1.0, omega (arith, plain_holds _ w.all, p.1, p.0.1.1.1, c.put_head.auto.out, c.put_u32.auto.out))))

pub returns : goal.returns
returns c = let p = c.requires in
    tile_put _ _ _ _ _ _ _ _ _ _ _ _ c.put_head.ensures c.put_u32.ensures c.put_sections-end.ensures.holds c.put_sections-end.ensures.end c.close.ensures c.checksum_enabled-flag.ensures p.1 (front_of_lem _ p.0.0) p.0.1.1.0 p.0.1.1.1
