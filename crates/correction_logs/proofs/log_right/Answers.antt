-- `correction_logs::log_right` meets its contract. Assumes nothing.
use borrow.Author.Rules.{rules}
use native.Mathlib.Omega.{arith}
use mathlib.Core.Path.{refl, sym, ◌∙◌}
use Rattle.correction_logs.proofs.LogLaws.{walks_first, walks_on, walks_less, log_short, log_length, log_version, log_bad, log_good, right_end}
use Rattle.correction_logs.proofs.log_right.Goals as goal

pub returns-then-n-lt-ENTRIES : goal.returns-then-n-lt-ENTRIES
returns-then-n-lt-ENTRIES c = log_short _ _ _ (omega arith)

pub returns-then-u32_at-n : goal.returns-then-u32_at-n
returns-then-u32_at-n c = log_length _ _ _ _ c.u32_at.ensures (λ z. omega arith)

pub returns-then-byte_at-ne1 : goal.returns-then-byte_at-ne1
returns-then-byte_at-ne1 c = log_version _ _ _ _ c.byte_at.ensures.is (λ z. omega arith)

pub loop-at-init : goal.loop-at-init
loop-at-init c = (walks_first _ _ _ (omega arith), omega arith, omega arith, omega (arith, c.u32_at.ensures), omega (arith, c.byte_at.ensures.is), search rules)

pub loop-at-smaller : goal.loop-at-smaller
loop-at-smaller c = walks_less _ _ _ _ _ c.loop-at.invariant.1 (sym c.if-entry_right.true ∙ c.entry_right.ensures) (right_end _ _ _ _ _ (sym c.entry_right.ensures ∙ c.if-entry_right.true) c.end_of_entry-at.ensures)

pub loop-at-preserved : goal.loop-at-preserved
loop-at-preserved c = let w = walks_on _ _ _ _ _ c.loop-at.invariant.0 (sym c.if-entry_right.true ∙ c.entry_right.ensures) (right_end _ _ _ _ _ (sym c.entry_right.ensures ∙ c.if-entry_right.true) c.end_of_entry-at.ensures) in
    (w, w.inside, search rules, search rules, search rules, search rules)

pub returns-else-entry_right : goal.returns-else-entry_right
returns-else-entry_right c = log_bad _ _ _ _ c.loop-at.invariant.0 (sym c.if-entry_right.false ∙ c.entry_right.ensures) (omega arith)

pub returns : goal.returns
returns c = log_good _ _ _ _ _ _ c.loop-at.invariant.0 (omega arith) (omega arith) refl c.loop-at.invariant.3 refl c.loop-at.invariant.4
