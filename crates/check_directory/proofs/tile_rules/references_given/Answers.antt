-- `check_directory::tile_rules::references_given` meets its contract. Assumes nothing.
use borrow.Author.Rules.{rules}
use native.Mathlib.Omega.{arith}
use Rattle.wire.proofs.CountLaws.{counting, counted_few, counted_all}
use mathlib.Core.Path.{sym}
use Rattle.check_directory.proofs.tile_rules.references_given.Goals as goal

pub loop-k-init : goal.loop-k-init
loop-k-init c = search (rules, counting)

pub overflow_add-given : goal.overflow_add-given
overflow_add-given c = record { fits = omega (arith, counted_few _ _ _ _ c.loop-k.invariant, c.given_at-given.ensures.small) }

pub loop-k-preserved : goal.loop-k-preserved
loop-k-preserved c = search (rules, counting)

pub returns : goal.returns
returns c = counted_all _ _ _ _ _ c.loop-k.invariant (omega arith) (sym c.reference_count-n.ensures)
