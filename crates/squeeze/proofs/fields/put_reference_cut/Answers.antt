-- `squeeze::fields::put_reference_cut` meets its contract. Assumes nothing.
use native.Mathlib.Omega.{arith}
use Rattle.stores.proofs.JoinLaws.{ran, told}
use Rattle.squeeze.proofs.FieldLaws.{reference_eight, reference_four}
use Rattle.squeeze.proofs.fields.put_reference_cut.Goals as goal

pub returns-then-w-eq8 : goal.returns-then-w-eq8
returns-then-w-eq8 c = let all_of = told (reference_eight _ _ _ (omega arith) (ran (c.put_u64_cut.ensures.left, c.put_u64_cut.ensures.holds))) in record { left = all_of.0; holds = all_of.1 }

pub returns : goal.returns
returns c = let all_of = told (reference_four _ _ _ (λ z. omega arith) c.requires (ran (c.put_u32_cut.ensures.left, c.put_u32_cut.ensures.holds))) in record { left = all_of.0; holds = all_of.1 }
