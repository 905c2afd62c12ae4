-- `explain::listed::times_listed` meets its contract. Assumes nothing.
use borrow.Author.Rules.{rules}
use native.Mathlib.Omega.{arith}
use Rattle.explain.proofs.ListedLaws.{time_begin, time_room, time_more, time_all}
use Rattle.explain.proofs.listed.times_listed.Goals as goal

pub loop-k-init : goal.loop-k-init
loop-k-init c = (omega arith, (omega arith, search (rules, time_begin)))

pub next_in-p-requires : goal.next_in-p-requires
next_in-p-requires c = search (rules, time_room)

pub loop-k-preserved : goal.loop-k-preserved
loop-k-preserved c = (omega arith, (omega arith, search (rules, time_more)))

pub returns : goal.returns
returns c = search (rules, time_all)
