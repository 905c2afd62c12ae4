-- `check_lists::lists::listed_kind` meets its contract. Assumes nothing.
use Rattle.check_lists.proofs.ListLaws.{kind_free, kind_metadata}
use Rattle.check_lists.proofs.lists.listed_kind.Goals as goal

pub returns-in-FreeSpace : goal.returns-in-FreeSpace
returns-in-FreeSpace c = kind_free _ c.in-FreeSpace.is

pub returns-in-Metadata : goal.returns-in-Metadata
returns-in-Metadata c = kind_metadata _ c.in-Metadata.is
