-- `store::named::name_said` meets its contract. Assumes nothing.
use borrow.Author.Rules.{rules}
use native.Mathlib.Omega.{arith}
use Rattle.store.proofs.NamedLaws.{named_none, named_one, named_several, next_fits}
use Rattle.store.proofs.named.name_said.Goals as goal

pub overflow_add-x : goal.overflow_add-x
overflow_add-x c = record { fits = omega (arith, next_fits _ c.args.name.now _ _ c.header_end.ensures c.first_record_named.ensures _ _ c.in-Some.is c.u32_at-n.ensures) }

pub returns-in-None : goal.returns-in-None
returns-in-None c = search (rules, named_none, named_one, named_several)

pub returns-in-None-first_record_named : goal.returns-in-None-first_record_named
returns-in-None-first_record_named c = search (rules, named_none, named_one, named_several)

pub returns-in-Some-first_record_named : goal.returns-in-Some-first_record_named
returns-in-Some-first_record_named c = search (rules, named_none, named_one, named_several)
