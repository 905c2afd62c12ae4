-- `squeeze::squeezing_cut` meets its contract. Assumes nothing.
use Rattle.squeeze.proofs.CallLaws.{pack_ready, squeezing_done}
use Rattle.squeeze.proofs.squeezing_cut.Goals as goal

pub squeeze_cut-left-requires : goal.squeeze_cut-left-requires
squeeze_cut-left-requires c = pack_ready _ _ _ c.requires c.part_of.ensures.holds c.pack.ensures

pub returns : goal.returns
returns c = let all_of = squeezing_done _ _ _ c.requires c.part_of.ensures.holds c.pack.ensures _ c.squeeze_cut-left.ensures.left c.squeeze_cut-left.ensures.holds c.unpack.ensures in record { left = all_of.0; holds = all_of.1.0; plan = all_of.1.1 }
