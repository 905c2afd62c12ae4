-- `says::metadata::list_records` meets its contract. Assumes nothing.
use Rattle.record.proofs.TallyLaws.{tag_other}
use native.Mathlib.Omega.{arith}
use mathlib.Core.Path.{refl}
use Rattle.record.proofs.ChainLaws.{less}
use Rattle.record.proofs.SeekLaws.{seek_inside}
use Rattle.says.proofs.ItemLaws.{long_if}
use Rattle.says.proofs.MetadataLaws.{records_begin, records_step, records_seen, records_inside, records_end_lem, records_written}
use Rattle.says.proofs.metadata.list_records.Goals as goal

pub loop-start-init : goal.loop-start-init
loop-start-init c = (omega arith, refl, records_begin _ _ _ _ c.header_end.ensures)

pub shape_of-numbers-in_default : goal.shape_of-numbers-in_default
shape_of-numbers-in_default c = c.loop-start.invariant.1

pub returns-in_default : goal.returns-in_default
returns-in_default c = let i = c.loop-start.invariant in record { is = records_end_lem _ _ _ _ _ _ _ i.2 c.step.ensures (tag_other _ c.in_default.not-Record); numbers = records_written _ _ _ _ _ _ _ i.2 c.step.ensures (tag_other _ c.in_default.not-Record) }

pub offer_record-p-requires : goal.offer_record-p-requires
offer_record-p-requires c = let i = c.loop-start.invariant in (seek_inside _ _ _ _ _ _ _ c.in-Record.is c.step.ensures, (i.2.fits, (i.2.fewer, omega (arith, records_inside _ _ _ _ _ _ _ c.in-Record.is c.step.ensures _ i.0))))

pub loop-start-smaller : goal.loop-start-smaller
loop-start-smaller c = less _ _ _ _ _ _ _ c.in-Record.is c.step.ensures

pub loop-start-preserved : goal.loop-start-preserved
loop-start-preserved c = let i = c.loop-start.invariant in (records_seen _ _ _ _ _ _ _ c.in-Record.is c.step.ensures _ _ _ _ i.0 c.offer_record-p.ensures.is, long_if _ _ _ _ _ _ c.offer_record-p.ensures.numbers i.1, records_step _ _ _ _ _ _ _ _ _ _ _ c.in-Record.is c.step.ensures _ _ i.2 c.offer_record-p.ensures.is c.offer_record-p.ensures.numbers)
