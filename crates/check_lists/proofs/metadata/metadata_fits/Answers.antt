-- `check_lists::metadata::metadata_fits` meets its contract. Assumes nothing.
use native.Mathlib.Omega.{arith}
use Rattle.check_lists.proofs.MetadataLaws.{fits_none, fits_past, fits_negative, fits_is}
use borrow.Author.Rules.{rules}
use Rattle.check_lists.proofs.metadata.metadata_fits.Goals as goal

pub returns-then-metadata_reference-eq0 : goal.returns-then-metadata_reference-eq0
returns-then-metadata_reference-eq0 c = search (rules, fits_none)

pub returns-then-metadata_count-gt-LARGEST_INTEGER : goal.returns-then-metadata_count-gt-LARGEST_INTEGER
returns-then-metadata_count-gt-LARGEST_INTEGER c = fits_negative _ _ c.metadata_reference.ensures c.if-metadata_reference-eq0.false _ c.metadata_count.ensures (omega arith)

pub returns-then-s-at : goal.returns-then-s-at
returns-then-s-at c = fits_past _ _ c.metadata_reference.ensures c.if-metadata_reference-eq0.false _ c.metadata_at-at.ensures (omega arith)

pub returns : goal.returns
returns c = fits_is _ _ c.metadata_reference.ensures c.if-metadata_reference-eq0.false _ c.metadata_count.ensures _ _ _ c.metadata_at-at.ensures (omega arith) c.entries_end.ensures c.padded_to.ensures
