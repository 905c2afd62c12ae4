-- `deeds::judge_said` meets its contract. Assumes nothing.
use mathlib.Core.Path.{refl}
use Rattle.deeds.specs.Deeds.{first_rule, second_rule}
use Rattle.deeds.proofs.DeedLaws.{deed_first, deed_second, deed_wrong}
use Rattle.deeds.proofs.judge_said.Goals as goal

pub returns-in-First : goal.returns-in-First
unfolding first_rule second_rule
returns-in-First c = deed_first _ _ _ _ _ (c.page_says.ensures.accepted c.requires.accepted) _ _ c.in-First.is refl c.judge_by.ensures

pub returns-in-Second : goal.returns-in-Second
unfolding first_rule second_rule
returns-in-Second c = deed_second _ _ _ _ _ (c.page_says.ensures.accepted c.requires.accepted) _ _ c.in-Second.is refl c.judge_by-in-Second.ensures

pub returns-in-Wrong : goal.returns-in-Wrong
unfolding first_rule second_rule
returns-in-Wrong c = deed_wrong _ _ _ _ _ (c.page_says.ensures.accepted c.requires.accepted) c.in-Wrong.is
