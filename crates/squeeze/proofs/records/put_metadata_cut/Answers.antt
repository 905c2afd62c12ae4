-- `squeeze::records::put_metadata_cut` meets its contract. Assumes nothing.
use Rattle.stores.proofs.JoinLaws.{ran, told}
use Rattle.squeeze.proofs.DirectoryLaws.{metadata_ready, metadata_ran}
use Rattle.squeeze.proofs.records.put_metadata_cut.Goals as goal

pub put_fields_cut-a-requires : goal.put_fields_cut-a-requires
put_fields_cut-a-requires c = (c.requires.0, (c.requires.1.0, metadata_ready c.requires.1.1 c.u32_at-n.ensures c.u32_off-count.ensures))

pub returns : goal.returns
returns c = let all_of = told (metadata_ran c.requires.1.1 c.u32_at-n.ensures c.u32_off-count.ensures _ _ _ c.requires.0 (ran (c.put_fields_cut-a.ensures.left, c.put_fields_cut-a.ensures.holds)) (ran (c.seal_cut.ensures.left, c.seal_cut.ensures.holds))) in record { left = all_of.0; holds = all_of.1 }
