-- `squeeze::finding::named_in` meets its contract. Assumes nothing.
use borrow.Author.Rules.{rules}
use native.Mathlib.Omega.{arith}
use mathlib.Core.Path.{refl}
use Rattle.squeeze.proofs.FindLaws.{between_all, find_low, find_none, find_hit, find_up, find_down}
use Rattle.squeeze.proofs.finding.named_in.Goals as goal

pub returns-then-c-lt8 : goal.returns-then-c-lt8
returns-then-c-lt8 c = find_low _ _ (omega arith)

pub loop-low-init : goal.loop-low-init
loop-low-init c = (search rules, omega arith, search rules, between_all _ _, search rules, search rules)

pub returns-then-old-start : goal.returns-then-old-start
returns-then-old-start c = find_hit c.loop-low.invariant.2 c.loop-low.invariant.3 _ _ _ (omega arith) (omega arith) refl refl (omega arith)

pub loop-low-preserved-then-old-start-2 : goal.loop-low-preserved-then-old-start-2
loop-low-preserved-then-old-start-2 c = (search rules, search rules, search rules, find_up c.loop-low.invariant.2 c.loop-low.invariant.3 _ _ _ (omega arith) (omega arith) refl refl (omega arith), search rules, search rules)

pub loop-low-preserved : goal.loop-low-preserved
loop-low-preserved c = (search rules, search rules, search rules, find_down c.loop-low.invariant.2 c.loop-low.invariant.3 _ _ _ (omega arith) (omega arith) refl refl (omega arith), search rules, search rules)

pub returns : goal.returns
returns c = find_none c.loop-low.invariant.2 c.loop-low.invariant.3 (omega arith)
