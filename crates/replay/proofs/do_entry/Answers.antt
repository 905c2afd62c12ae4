-- `replay::do_entry` meets its contract. Assumes nothing.
use Rattle.replay.proofs.EntryLaws.{called, stores_entry, removes_entry}
use Rattle.replay.proofs.do_entry.Goals as goal

pub returns-then-is_store : goal.returns-then-is_store
returns-then-is_store c = let all_of = called _ _ _ (stores_entry _ _ _ c.is_store.ensures c.if-is_store.true c.entry_tile-tile.ensures c.entry_cells-cells.ensures) c.store_on-x.ensures.answer c.store_on-x.ensures.buffer in record { answer = all_of.0; buffer = all_of.1 }

pub returns : goal.returns
returns c = let all_of = called _ _ _ (removes_entry _ _ _ c.is_store.ensures c.if-is_store.false c.entry_tile-tile.ensures) c.remove_on-x.ensures.answer c.remove_on-x.ensures.buffer in record { answer = all_of.0; buffer = all_of.1 }
