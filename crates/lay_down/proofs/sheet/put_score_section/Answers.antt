-- `lay_down::sheet::put_score_section` meets its contract. Assumes nothing.
use Rattle.lay_down.proofs.FrontLaws.{front_of_lem}
use Rattle.lay_down.proofs.SheetLaws.{score_of_lem}
use Rattle.lay_down.proofs.SheetWriting.{sides_few, section_end_lem, section_put}
use native.Mathlib.Omega.{arith}
use Rattle.lay_down.proofs.sheet.put_score_section.Goals as goal

pub corner_of-a-requires : goal.corner_of-a-requires
corner_of-a-requires c = (c.requires.0, c.requires.1.1.0)

pub overflow_mul-u : goal.overflow_mul-u
overflow_mul-u c = let e = sides_few _ (score_of_lem _ c.requires.1.0) (front_of_lem _ c.requires.0) _ _ c.tile_rows-rows.ensures c.tile_columns-columns.ensures in omega arith

pub overflow_mul-u-2 : goal.overflow_mul-u-2
overflow_mul-u-2 c = let e = sides_few _ (score_of_lem _ c.requires.1.0) (front_of_lem _ c.requires.0) _ _ c.tile_rows-rows.ensures c.tile_columns-columns.ensures in omega arith

pub overflow_cast-u : goal.overflow_cast-u
overflow_cast-u c = let e = sides_few _ (score_of_lem _ c.requires.1.0) (front_of_lem _ c.requires.0) _ _ c.tile_rows-rows.ensures c.tile_columns-columns.ensures in omega arith

pub overflow_cast-end : goal.overflow_cast-end
overflow_cast-end c = let e = sides_few _ (score_of_lem _ c.requires.1.0) (front_of_lem _ c.requires.0) _ _ c.tile_rows-rows.ensures c.tile_columns-columns.ensures in omega arith

pub overflow_add-end-2 : goal.overflow_add-end-2
overflow_add-end-2 c = let e = section_end_lem _ (score_of_lem _ c.requires.1.0) (front_of_lem _ c.requires.0) _ _ c.tile_rows-rows.ensures c.tile_columns-columns.ensures c.args.at _ c.padding-pad.ensures.is in omega (arith, c.requires.1.1.1)

pub overflow_add-result : goal.overflow_add-result
overflow_add-result c = let e = section_end_lem _ (score_of_lem _ c.requires.1.0) (front_of_lem _ c.requires.0) _ _ c.tile_rows-rows.ensures c.tile_columns-columns.ensures c.args.at _ c.padding-pad.ensures.is in omega (arith, c.requires.1.1.1)

pub returns : goal.returns
returns c = let o = score_of_lem _ c.requires.1.0 in let w = front_of_lem _ c.requires.0 in record { end = section_end_lem _ o w _ _ c.tile_rows-rows.ensures c.tile_columns-columns.ensures _ _ c.padding-pad.ensures.is; holds = section_put _ o w _ _ c.tile_rows-rows.ensures c.tile_columns-columns.ensures _ _ _ _ _ _ _ _ _ _ c.corner_of-a.ensures.row c.corner_of-a.ensures.column c.padding-pad.ensures.is c.put_u32.ensures c.put_scores.ensures c.put_zeros.ensures c.requires.1.1.1 }
