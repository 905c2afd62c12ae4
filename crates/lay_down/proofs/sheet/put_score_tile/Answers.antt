-- `lay_down::sheet::put_score_tile` meets its contract. Assumes nothing.
use mathlib.Core.Path.{sym, ap, ◌∙◌}
use Prim.Native.Nat.{ℕ, ◌+◌}
use Rattle.written_records.proofs.TileLaws.{plain_holds}
use Rattle.lay_down.proofs.FrontLaws.{front_of_lem, plain_small}
use Rattle.lay_down.proofs.TileWriting.{tile_put}
use Rattle.lay_down.proofs.SheetLaws.{score_of_lem, cells_long}
use Rattle.lay_down.proofs.SheetWriting.{sections_put, stored_is}
use native.Mathlib.Omega.{arith}
use Rattle.lay_down.proofs.sheet.put_score_tile.Goals as goal

pub overflow_cast-n : goal.overflow_cast-n
overflow_cast-n c = let w = front_of_lem _ c.requires.0.0 in omega (arith, plain_small _ w, c.requires.1)

pub put_score_section-end-requires : goal.put_score_section-end-requires
put_score_section-end-requires c = let p = c.requires in let w = front_of_lem _ p.0.0 in let o = score_of_lem _ p.0.1.0 in (p.0.0, (p.0.1.0, (p.0.1.1.0, omega (arith, plain_holds _ w.all, stored_is _ o, p.1, p.0.1.1.1, c.put_head.auto.out, c.put_u32.auto.out))))

pub returns : goal.returns
returns c = let p = c.requires in let w = front_of_lem _ p.0.0 in let o = score_of_lem _ p.0.1.0 in let d = c.args.sheet.now in let i = c.args.tile in
    tile_put _ _ _ _ _ _ _ _ _ _ _ _ c.put_head.ensures c.put_u32.ensures (sections_put _ d i o _ _ _ c.put_score_section-end.ensures.holds) (c.put_score_section-end.ensures.end ∙ ap (λ (x : ℕ). c.args.at + 12 + x) (sym (stored_is _ o))) c.close.ensures c.checksum_enabled-flag.ensures p.1 w (cells_long _ o d i) p.0.1.1.1
