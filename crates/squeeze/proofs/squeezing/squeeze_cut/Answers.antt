-- `squeeze::squeezing::squeeze_cut` meets its contract. Assumes nothing.
use native.Mathlib.Omega.{arith}
use Rattle.record.specs.Chain.{header_end}
use Rattle.header.specs.Fields.{checksum_enabled, metadata_reference, tile_directory_reference}
use Rattle.stores.proofs.JoinLaws.{ran, told}
use Rattle.squeeze.proofs.SlideLaws.{in_page, ready_least, squeeze_ran}
use Rattle.squeeze.proofs.squeezing.squeeze_cut.Goals as goal

pub named_in-metadata-requires : goal.named_in-metadata-requires
named_in-metadata-requires c = c.requires.packs.ascend

pub named_in-tiles-requires : goal.named_in-tiles-requires
named_in-tiles-requires c = c.requires.packs.ascend

pub put_records_cut-a-requires : goal.put_records_cut-a-requires
put_records_cut-a-requires c = c.requires

pub overflow_sub-end : goal.overflow_sub-end
overflow_sub-end c = omega (arith, ready_least c.requires, (in_page header_end _ _ c.part_of-2.ensures.holds c.header_end-end.ensures))

pub returns : goal.returns
returns c = let all_of = told (squeeze_ran c.requires _ _ _ _ (in_page header_end _ _ c.part_of-2.ensures.holds c.header_end-end.ensures) (in_page checksum_enabled _ _ c.part_of.ensures.holds c.checksum_enabled-flag.ensures) c.named_in-metadata.ensures (in_page metadata_reference _ _ c.part_of-3.ensures.holds c.metadata_reference.ensures) c.named_in-tiles.ensures (in_page tile_directory_reference _ _ c.part_of-4.ensures.holds c.tile_directory_reference.ensures) (ran (c.put_records_cut-a.ensures.left, c.put_records_cut-a.ensures.holds)) (ran (c.put_u64_cut-b.ensures.left, c.put_u64_cut-b.ensures.holds)) (ran (c.put_u64_cut-c.ensures.left, c.put_u64_cut-c.ensures.holds)) (ran (c.seal_cut.ensures.left, c.seal_cut.ensures.holds))) in record { left = all_of.0; holds = all_of.1 }
