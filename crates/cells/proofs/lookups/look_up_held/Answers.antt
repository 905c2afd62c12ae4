-- `cells::lookups::look_up_held` meets its contract. Assumes nothing.
use borrow.Author.Rules.{rules}
use mathlib.Core.Path.{◌≡◌, refl, ◌∙◌}
use Rattle.std.specs.Prelude.{Err}
use Rattle.answer.proofs.VerdictLaws.{arm_of}
use Rattle.cells.proofs.HeldLaws.{stored_lawful, all_copied, all_kept, kept_bits}
use Rattle.cells.proofs.lookups.look_up_held.Goals as goal

pub returns-in_err-held-clause-is : goal.returns-in_err-held-clause-is
returns-in_err-held-clause-is c = let e : c.from_residual.result ≡ Err c.in_err-held.field-0.0 = search rules in e ∙ (all_kept _ _ _ _ _ _ _ _ c.look_up_room.ensures.is c.look_up_room.ensures.holds _ c.in_err-held.was refl).0

pub put_stored-requires : goal.put_stored-requires
put_stored-requires c = stored_lawful _ _ _ _ _ _ _ c.look_up_room.ensures.is (arm_of c.in_ok-held.was c.in-Stored.is)

pub returns-in-Stored-clause-is : goal.returns-in-Stored-clause-is
returns-in-Stored-clause-is c = (all_copied _ _ _ _ _ _ _ _ c.look_up_room.ensures.is c.look_up_room.ensures.holds _ _ (arm_of c.in_ok-held.was c.in-Stored.is) c.put_stored.ensures).0

pub returns-in-Stored-clause-holds : goal.returns-in-Stored-clause-holds
returns-in-Stored-clause-holds c = (all_copied _ _ _ _ _ _ _ _ c.look_up_room.ensures.is c.look_up_room.ensures.holds _ _ (arm_of c.in_ok-held.was c.in-Stored.is) c.put_stored.ensures).1

pub returns-in_default : goal.returns-in_default
returns-in_default c = let all_of = all_kept _ _ _ _ _ _ _ _ c.look_up_room.ensures.is c.look_up_room.ensures.holds _ c.in_ok-held.was (kept_bits _ _ _ c.in_default.not-Stored) in record { is = all_of.0; holds = all_of.1 }
