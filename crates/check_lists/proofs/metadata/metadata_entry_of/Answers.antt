-- `check_lists::metadata::metadata_entry_of` meets its contract. Assumes nothing.
use Rattle.std.proofs.lemmas.Bool.{not_from_true}
use native.Mathlib.Omega.{arith}
use Rattle.check_lists.proofs.MetadataLaws.{no_content, other_content, other_key, other_type, entry_yes}
use borrow.Author.Rules.{rules}
use Rattle.check_lists.proofs.metadata.metadata_entry_of.Goals as goal

pub returns-then-content-lt8 : goal.returns-then-content-lt8
returns-then-content-lt8 c = no_content _ _ _ _ c.u64_at-content.ensures (omega arith)

pub returns-then-content-x : goal.returns-then-content-x
returns-then-content-x c = other_content _ _ _ _ c.u64_at-content.ensures (omega arith) c.if-content-x.true

pub returns-then-not-same_key : goal.returns-then-not-same_key
returns-then-not-same_key c = search (rules, other_key)

pub returns-then-data_type : goal.returns-then-data_type
returns-then-data_type c = search (rules, other_type)

pub returns : goal.returns
returns c = entry_yes _ _ _ _ c.u64_at-content.ensures _ _ _ (omega arith) c.if-content-x.false c.same_key.ensures (not_from_true _ c.if-not-same_key.false) c.data_type.ensures c.data_type-2.ensures c.if-data_type.false
