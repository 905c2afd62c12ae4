-- `lay_down::page::put_references` meets its contract. Assumes nothing.
use borrow.Author.Rules.{rules}
use Rattle.lay_down.proofs.FrontLaws.{front_of_lem}
use Rattle.lay_down.proofs.AscendLaws.{ascending_each, ascending_order}
use Rattle.lay_down.proofs.ReferenceWriting.{references_begin, references_more, references_all, start_small}
use mathlib.Core.Path.{refl, ◌∙◌}
use native.Mathlib.Omega.{arith}
use Rattle.lay_down.proofs.page.put_references.Goals as goal

pub overflow_mul-count : goal.overflow_mul-count
overflow_mul-count c = let w = front_of_lem _ c.requires.0.0 in omega (arith, w.tiles, c.tile_count-count.ensures)

pub loop-index-init : goal.loop-index-init
loop-index-init c = let t = c.tile_count-count.ensures in
    (search rules, search rules, omega arith, references_begin _ _ _ _ c.args.indexes.now _ _ c.put_zeros.ensures refl (omega (arith, t, c.requires.1.1)))

pub overflow_add-start : goal.overflow_add-start
overflow_add-start c = omega (arith, c.requires.1.0, start_small _ _ _ _ c.loop-index.invariant.2 c.requires.0.1.1 c.loop-index-test.true)

pub loop-index-preserved : goal.loop-index-preserved
loop-index-preserved c = let s = c.requires in let k = c.loop-index.index-index in let h = c.loop-index-test.true in let e = ascending_each _ _ _ s.0.1.0 k h in let t = c.tile_count-count.ensures in (
  search rules,
  c.put_reference.auto.out ∙ c.loop-index.invariant.1,
  omega (arith, c.loop-index.invariant.2),
  references_more _ _ _ _ _ _ _ k _ c.loop-index.invariant.3 c.loop-index.invariant.2 h (λ j i. ascending_order _ _ _ s.0.1.0 j k i h) (omega (arith, e.1, t)) (omega (arith, t, s.1.1, c.put_zeros.auto.out)) c.put_reference.ensures,
)

pub shape_of-out : goal.shape_of-out
shape_of-out c = c.loop-index.invariant.1 ∙ c.put_zeros.auto.out

pub returns : goal.returns
returns c = references_all _ _ _ _ _ _ _ c.loop-index.index-index _ _ c.loop-index.invariant.3 c.put_zeros.ensures refl c.tile_count-count.ensures (omega arith) (omega arith) c.requires.1.1
