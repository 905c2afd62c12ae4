-- `cells::reads::read_by_records` meets its contract. Assumes nothing.
use borrow.Author.Rules.{rules}
use mathlib.Core.Path.{◌≡◌}
use Rattle.std.specs.Prelude.{Err}
use Rattle.cells.proofs.ReadLaws.{bodies_lawful, walk_answer, bodies_refused, bodies_answer, both_records}
use Rattle.cells.proofs.reads.read_by_records.Goals as goal

pub returns-in_err-check_to_bodies : goal.returns-in_err-check_to_bodies
returns-in_err-check_to_bodies c = let e : c.from_residual.result ≡ Err c.in_err-check_to_bodies.field-0.0 = search rules in rw e (let all_of = both_records _ _ _ _ _ _ (bodies_refused _ _ c.check_to_bodies.ensures _ _ _ _ _ c.in_err-check_to_bodies.was) in record { route = all_of.0; meaning = all_of.1 })

pub returns : goal.returns
returns c = let all_of = both_records _ _ _ _ _ _ (bodies_answer _ _ c.check_to_bodies.ensures _ _ _ _ _ c.in_ok-check_to_bodies.was (λ a. walk_answer _ _ _ _ _ _ _ c.look_up.ensures c.header_end.ensures (bodies_lawful _ a))) in record { route = all_of.0; meaning = all_of.1 }
