-- `lay_down::front::set_fields` meets its contract. Assumes nothing.
use Rattle.lay_down.proofs.FrontWriting.{fields_are}
use Rattle.lay_down.proofs.front.set_fields.Goals as goal

pub returns : goal.returns
returns c = fields_are _ _ _ _ _ _ _ _ c.put_u64.ensures c.put_zeros.ensures c.put_zeros-2.ensures c.put_zeros-3.ensures c.put_u64-2.ensures
