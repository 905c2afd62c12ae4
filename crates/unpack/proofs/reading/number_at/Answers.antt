-- `unpack::reading::number_at` meets its contract. Assumes nothing.
use Rattle.unpack.proofs.NumberLaws.{by_tree, came_none, came_first, came_number, came_bad, came_ended, came_more, lighter}
use mathlib.Core.Path.{refl, ◌∙◌}
use Rattle.unpack.proofs.reading.number_at.Goals as goal

pub returns-in_err-symbol : goal.returns-in_err-symbol
returns-in_err-symbol c t x = c.from_residual.ensures ∙ came_none _ _ _ _ _ (by_tree _ _ _ _ _ c.next_symbol.ensures) c.in_err-symbol.was t x

pub returns-in-Number : goal.returns-in-Number
returns-in-Number c = came_number _ _ _ _ _ _ (came_first _ _ _ _ _ _ _ _ (by_tree _ _ _ _ _ c.next_symbol.ensures) c.in_ok-symbol.was c.in-Number.ensures) _ refl

pub returns-in-Bad : goal.returns-in-Bad
returns-in-Bad c = came_bad _ _ _ _ _ _ (came_first _ _ _ _ _ _ _ _ (by_tree _ _ _ _ _ c.next_symbol.ensures) c.in_ok-symbol.was c.in-Bad.ensures) refl

pub loop-symbol-init : goal.loop-symbol-init
loop-symbol-init c = came_first _ _ _ _ _ _ _ _ (by_tree _ _ _ _ _ c.next_symbol.ensures) c.in_ok-symbol.was c.in-More.ensures

pub returns-in_err-symbol-2 : goal.returns-in_err-symbol-2
returns-in_err-symbol-2 c t x = c.from_residual-in_err-symbol-2.ensures ∙ came_ended _ _ _ _ _ _ c.loop-symbol.invariant _ (by_tree _ _ _ _ _ c.next_symbol-in-loop-symbol.ensures) c.in_err-symbol-2.was t x

pub returns-in-Number-further : goal.returns-in-Number-further
returns-in-Number-further c = came_number _ _ _ _ _ _ (came_more _ _ _ _ _ _ c.loop-symbol.invariant _ _ _ _ (by_tree _ _ _ _ _ c.next_symbol-in-loop-symbol.ensures) c.in_ok-symbol-2.was c.in-Number-further.ensures) _ refl

pub returns-in-Bad-further : goal.returns-in-Bad-further
returns-in-Bad-further c = came_bad _ _ _ _ _ _ (came_more _ _ _ _ _ _ c.loop-symbol.invariant _ _ _ _ (by_tree _ _ _ _ _ c.next_symbol-in-loop-symbol.ensures) c.in_ok-symbol-2.was c.in-Bad-further.ensures) refl

pub loop-symbol-smaller : goal.loop-symbol-smaller
loop-symbol-smaller c = lighter _ _ _ _ c.in-More-further.ensures refl

pub loop-symbol-preserved : goal.loop-symbol-preserved
loop-symbol-preserved c = came_more _ _ _ _ _ _ c.loop-symbol.invariant _ _ _ _ (by_tree _ _ _ _ _ c.next_symbol-in-loop-symbol.ensures) c.in_ok-symbol-2.was c.in-More-further.ensures
