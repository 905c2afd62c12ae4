-- `explain::listed::first_in` meets its contract. Assumes nothing.
use native.Mathlib.Omega.{arith}
use Rattle.check_lists.proofs.ListLaws.{first_free, first_metadata, list_room}
use borrow.Author.Rules.{rules}
use Rattle.explain.proofs.listed.first_in.Goals as goal

pub overflow_add-result : goal.overflow_add-result
overflow_add-result c = record { fits = omega (arith, first_free _ _ c.in-FreeSpace.is _ c.file_space_at.ensures, list_room _ _ 0 c.requires (omega arith)) }

pub overflow_add-result-in-Metadata : goal.overflow_add-result-in-Metadata
overflow_add-result-in-Metadata c = record { fits = omega (arith, first_metadata _ _ c.in-Metadata.is _ c.metadata_at.ensures, list_room _ _ 0 c.requires (omega arith)) }

pub returns-in-FreeSpace : goal.returns-in-FreeSpace
returns-in-FreeSpace c = search (rules, first_free)

pub returns-in-Metadata : goal.returns-in-Metadata
returns-in-Metadata c = search (rules, first_metadata)
