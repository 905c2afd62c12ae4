-- `bodies::tile_directory::reference_at` meets its contract. Assumes nothing.
use native.Mathlib.Omega.{arith}
use Rattle.bodies.proofs.DirectoryLaws.{standard_is, compact_is, standard_past, compact_past}
use borrow.Author.Rules.{rules}
use Rattle.bodies.proofs.tile_directory.reference_at.Goals as goal

pub returns-then-k-ge-STANDARD_PAST : goal.returns-then-k-ge-STANDARD_PAST
returns-then-k-ge-STANDARD_PAST c = standard_past _ _ _ _ c.standard_references.ensures c.if-standard_references-eq1.true (omega arith) (omega arith)

pub returns-then-standard_references-eq1 : goal.returns-then-standard_references-eq1
returns-then-standard_references-eq1 c = search (rules, standard_is)

pub returns-then-k-ge-COMPACT_PAST : goal.returns-then-k-ge-COMPACT_PAST
returns-then-k-ge-COMPACT_PAST c = compact_past _ _ _ _ c.standard_references.ensures c.if-standard_references-eq1.false (omega arith) (omega arith)

pub returns : goal.returns
returns c = search (rules, compact_is)
