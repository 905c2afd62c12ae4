-- `fronts::counts::is_describable` meets its contract. Assumes nothing.
use native.Mathlib.Omega.{arith}
use Rattle.fronts.proofs.CountLaws.{counts_six, described_counts, described_texts, described_methods, described_counted, described_last}
use Rattle.fronts.proofs.counts.is_describable.Goals as goal

pub overflow_sub-page : goal.overflow_sub-page
overflow_sub-page c = omega (arith, counts_six _ _ _ _ c.counts_right.ensures c.if-counts_right.true)

pub methods_short-requires : goal.methods_short-requires
methods_short-requires c = omega (arith, counts_six _ _ _ _ c.counts_right.ensures c.if-counts_right.true)

pub sums_right-requires : goal.sums_right-requires
sums_right-requires c = described_counted _ _ _ c.args.texts.now _ c.counts_right.ensures c.if-counts_right.true _ c.elements_short.ensures c.if-elements_short.true _ c.methods_short.ensures c.if-methods_short.true

pub returns-then-methods_short : goal.returns-then-methods_short
returns-then-methods_short c = described_last _ _ _ _ _ c.counts_right.ensures c.if-counts_right.true _ c.elements_short.ensures c.if-elements_short.true _ c.methods_short.ensures _ c.if-methods_short.true c.sums_right.ensures

pub returns-else-methods_short : goal.returns-else-methods_short
returns-else-methods_short c = described_methods _ _ _ _ _ c.counts_right.ensures c.if-counts_right.true _ c.elements_short.ensures c.if-elements_short.true _ c.methods_short.ensures c.if-methods_short.false

pub returns-else-elements_short : goal.returns-else-elements_short
returns-else-elements_short c = described_texts _ _ _ _ _ c.counts_right.ensures c.if-counts_right.true _ c.elements_short.ensures c.if-elements_short.false

pub returns-else-counts_right : goal.returns-else-counts_right
returns-else-counts_right c = described_counts _ _ _ _ _ c.counts_right.ensures c.if-counts_right.false
