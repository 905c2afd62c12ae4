-- `check_header::identification::is_identified` meets its contract. Assumes nothing.
use native.Mathlib.Omega.{arith}
use Rattle.wire.proofs.TestLaws.{no}
use Rattle.check_header.specs.Identification.{identified, mark}
use Rattle.check_header.proofs.HeaderLaws.{marked}
use Rattle.check_header.proofs.identification.is_identified.Goals as goal

pub returns-then-length-lt16 : goal.returns-then-length-lt16
unfolding identified mark
returns-then-length-lt16 c = no _ (λ h. omega arith)

pub returns : goal.returns
unfolding identified mark
returns c = marked _ _ _ _ (omega arith) c.part_of.ensures.holds c.same_bytes.ensures
