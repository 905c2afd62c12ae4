-- `cells::reads::hold` meets its contract. Assumes nothing.
use borrow.Author.Rules.{rules}
use mathlib.Core.Path.{◌≡◌}
use Rattle.std.specs.Prelude.{Err}
use Rattle.cells.proofs.HeldLaws.{refused_keeps}
use Rattle.cells.proofs.ReadLaws.{held_refused, held_mean, held_answer}
use Rattle.cells.proofs.reads.hold.Goals as goal

pub returns-in_err-check : goal.returns-in_err-check
returns-in_err-check c = let e : c.from_residual.result ≡ Err c.in_err-check.field-0.0 = search rules in rw e (let all_of = refused_keeps _ _ _ (held_refused _ _ c.check.ensures _ _ _ _ c.in_err-check.was) in record { is = all_of.0; holds = all_of.1 })

pub returns-clause-is : goal.returns-clause-is
returns-clause-is c = held_mean _ _ c.check.ensures _ _ _ _ c.in_ok-check.was (held_answer _ _ _ _ _ _ c.look_up_held.ensures.is c.tile_directory_at.ensures)

pub returns-clause-holds : goal.returns-clause-holds
returns-clause-holds c = c.look_up_held.ensures.holds
