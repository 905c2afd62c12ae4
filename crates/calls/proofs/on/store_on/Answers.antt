-- `calls::on::store_on` meets its contract. Assumes nothing.
use native.Mathlib.Omega.{arith}
use Rattle.correct.specs.Calls.{line_of, change_on}
use Rattle.calls.proofs.AnswerLaws.{store_refused, store_ready, store_index, store_made}
use Rattle.calls.proofs.on.store_on.Goals as goal

pub overflow_cast-tile : goal.overflow_cast-tile
unfolding change_on line_of
overflow_cast-tile c = omega (arith, store_index _ _ _ _ c.judge_store.ensures _ c.in-Planned.is)

pub storing_cut-left-requires : goal.storing_cut-left-requires
unfolding change_on line_of
storing_cut-left-requires c = store_ready _ _ _ _ c.judge_store.ensures _ c.in-Planned.is

pub returns-in-Refused : goal.returns-in-Refused
unfolding change_on line_of
returns-in-Refused c = let all_of = store_refused _ _ _ _ c.judge_store.ensures _ _ c.in-Refused.is in record { answer = all_of.0; made = all_of.1.0; buffer = all_of.1.1 }

pub returns-in-Planned : goal.returns-in-Planned
unfolding change_on line_of
returns-in-Planned c = let all_of = store_made _ _ _ _ c.judge_store.ensures _ c.in-Planned.is _ c.storing_cut-left.ensures.left c.storing_cut-left.ensures.holds in record { answer = all_of.0; made = all_of.1.0; buffer = all_of.1.1 }
