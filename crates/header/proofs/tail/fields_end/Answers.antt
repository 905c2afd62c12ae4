-- `header::tail::fields_end` meets its contract. Assumes nothing.
use Rattle.header.proofs.EntryLaws.{fields_is}
use Rattle.header.proofs.tail.fields_end.Goals as goal

pub returns : goal.returns
returns c = fields_is _ _ _ c.product_label_at-at.ensures.is c.string_size.ensures.is
