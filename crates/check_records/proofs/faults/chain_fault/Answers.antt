-- `check_records::faults::chain_fault` meets its contract. Assumes nothing.
use native.Mathlib.Omega.{arith}
use Rattle.check_records.proofs.RecordLaws.{chain_fault_lem, chain_fine}
use Rattle.check_records.proofs.faults.chain_fault.Goals as goal

pub returns-then-end-s : goal.returns-then-end-s
returns-then-end-s c = chain_fault_lem _ _ c.records_end-end.ensures (omega arith)

pub returns : goal.returns
returns c = chain_fine _ _ c.records_end-end.ensures (omega arith)
