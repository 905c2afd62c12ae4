-- `m32::read` meets its contract. Assumes nothing.
use Rattle.m32.proofs.ReadLaws.{read_start, read_one, read_stop, read_none, read_full}
use Rattle.std.proofs.lemmas.List.{set-get_or}
use mathlib.Core.Path.{sym, ◌∙◌}
use native.Mathlib.Omega.{arith}
use Rattle.m32.proofs.read.Goals as goal

pub loop-i-init : goal.loop-i-init
loop-i-init c = read_start _ _

pub returns-in_default : goal.returns-in_default
returns-in_default c = let all_of = read_stop _ _ _ _ _ c.loop-i.invariant (read_none _ _ _ (omega arith) (sym c.in_default.ensures)) in record { count = all_of.0; taken = all_of.1.0; holds = set-get_or _ _ _ ∙ all_of.1.1 }

pub loop-i-preserved : goal.loop-i-preserved
loop-i-preserved c = read_one _ _ _ _ _ c.loop-i.invariant _ _ (omega arith) (sym c.code_at.ensures ∙ c.in-Some.is)

pub returns : goal.returns
returns c = let all_of = read_stop _ _ _ _ _ c.loop-i.invariant (read_full _ _ _ (omega arith)) in record { count = omega (arith, all_of.0); taken = all_of.1.0; holds = all_of.1.1 }
