-- `check_records::tile_body::section_right` meets its contract. Assumes nothing.
use Rattle.header.proofs.EntryLaws.{kind_is}
use Rattle.geometry.proofs.SizeLaws.{element_packing_is}
use Rattle.check_records.proofs.RecordLaws.{section_whole, section_packed, section_fault}
use borrow.Author.Rules.{rules}
use Rattle.check_records.proofs.tile_body.section_right.Goals as goal

pub returns-in-Uncompressed : goal.returns-in-Uncompressed
returns-in-Uncompressed c = search (rules, kind_is, element_packing_is, section_whole)

pub returns-in-Compressed : goal.returns-in-Compressed
returns-in-Compressed c = search (rules, kind_is, element_packing_is, section_packed)

pub returns-in-Fault : goal.returns-in-Fault
returns-in-Fault c = search (rules, kind_is, element_packing_is, section_fault)
