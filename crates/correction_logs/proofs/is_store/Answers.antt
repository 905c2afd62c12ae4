-- `correction_logs::is_store` meets its contract. Assumes nothing.
use Rattle.correction_logs.proofs.LogLaws.{store_is}
use Rattle.correction_logs.proofs.is_store.Goals as goal

pub returns : goal.returns
returns c = store_is _ _ _ c.byte_at.ensures.is
