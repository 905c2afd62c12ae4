-- `explain::listed::size_in` meets its contract. Assumes nothing.
use Rattle.check_lists.proofs.ListLaws.{size_free, size_metadata}
use Rattle.explain.proofs.listed.size_in.Goals as goal

pub returns-in-FreeSpace : goal.returns-in-FreeSpace
returns-in-FreeSpace c = let all_of = size_free _ _ c.in-FreeSpace.is _ in record { is = all_of.0; near = all_of.1 }

pub returns-in-Metadata : goal.returns-in-Metadata
returns-in-Metadata c = let all_of = size_metadata _ _ c.in-Metadata.is _ _ c.metadata_entry_size.ensures.is c.metadata_entry_size.ensures.near in record { is = all_of.0; near = all_of.1 }
