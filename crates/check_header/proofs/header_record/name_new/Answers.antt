-- `check_header::header_record::name_new` meets its contract. Assumes nothing.
use borrow.Author.Rules.{rules}
use mathlib.Core.Path.{refl}
use Rattle.wire.proofs.RangeLaws.{all_range}
use Rattle.check_header.proofs.header_record.name_new.Goals as goal

pub returns : goal.returns
returns c = all_range _ _ _ _ _ _ c.all.ensures.ran refl (λ x b q k. search rules)
