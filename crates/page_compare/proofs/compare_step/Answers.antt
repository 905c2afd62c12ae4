-- `page_compare::compare_step` meets its contract. Assumes nothing.
use borrow.Author.Rules.{rules}
use mathlib.Core.Path.{refl, sym, ◌∙◌}
use Rattle.comparisons.proofs.PageLaws.{unwritten}
use Rattle.page_compare.proofs.GridLaws.{known_count, known_first, known_second, grid_both, area_says, area_read, area_total, area_written}
use Rattle.page_compare.proofs.compare_step.Goals as goal

pub count_all-requires-clause-both : goal.count_all-requires-clause-both
count_all-requires-clause-both c = grid_both _ _ _ _ _ _ _ c.shape_of-shape.ensures.rows c.shape_of-shape.ensures.columns c.shape_of-shape.ensures.elements c.requires.accepted.0 c.requires.accepted.1 c.requires.alike

pub count_all-requires-clause-room : goal.count_all-requires-clause-room
count_all-requires-clause-room c = (search rules, search rules)

pub list_all-requires-clause-both : goal.list_all-requires-clause-both
list_all-requires-clause-both c = grid_both _ _ _ _ _ _ _ c.shape_of-shape.ensures.rows c.shape_of-shape.ensures.columns c.shape_of-shape.ensures.elements c.requires.accepted.0 c.requires.accepted.1 c.requires.alike

pub list_all-requires-clause-room : goal.list_all-requires-clause-room
list_all-requires-clause-room c = (search rules, search rules)

pub list_all-requires-clause-read : goal.list_all-requires-clause-read
list_all-requires-clause-read c = area_read _ _ _ _ _ _ _ c.shape_of-shape.ensures.rows c.shape_of-shape.ensures.columns c.shape_of-shape.ensures.elements _ (known_count _ _ c.requires.known _ c.in-Count.is) _ c.in-Count.is

pub list_all-requires-clause-total : goal.list_all-requires-clause-total
list_all-requires-clause-total c = area_total _ _ _ _ _ _ _ c.shape_of-shape.ensures.rows c.shape_of-shape.ensures.columns c.shape_of-shape.ensures.elements _ (known_count _ _ c.requires.known _ c.in-Count.is) _ c.in-Count.is

pub returns-in-Unlike-clause-is : goal.returns-in-Unlike-clause-is
returns-in-Unlike-clause-is c = area_says _ _ _ _ _ _ _ c.shape_of-shape.ensures.rows c.shape_of-shape.ensures.columns c.shape_of-shape.ensures.elements _ c.count_all.ensures

pub returns-in-Unlike-clause-list : goal.returns-in-Unlike-clause-list
returns-in-Unlike-clause-list c = unwritten _ _ _ _ _ _ _ c.in-Unlike.is (λ room. refl)

pub returns-in-Count-clause-is : goal.returns-in-Count-clause-is
returns-in-Count-clause-is c = sym c.in-Count.is ∙ known_count _ _ c.requires.known _ c.in-Count.is

pub returns-in-Count-clause-list : goal.returns-in-Count-clause-list
returns-in-Count-clause-list c = area_written _ _ _ _ _ _ _ c.shape_of-shape.ensures.rows c.shape_of-shape.ensures.columns c.shape_of-shape.ensures.elements _ (known_count _ _ c.requires.known _ c.in-Count.is) _ c.in-Count.is _ _ c.list_all.ensures

pub returns-in-First-clause-is : goal.returns-in-First-clause-is
returns-in-First-clause-is c = known_first _ _ c.requires.known _ c.in-First.is

pub returns-in-First-clause-list : goal.returns-in-First-clause-list
returns-in-First-clause-list c = unwritten _ _ _ _ _ _ _ c.in-First.is (λ room. refl)

pub returns-in-Second-clause-is : goal.returns-in-Second-clause-is
returns-in-Second-clause-is c = known_second _ _ c.requires.known _ c.in-Second.is

pub returns-in-Second-clause-list : goal.returns-in-Second-clause-list
returns-in-Second-clause-list c = unwritten _ _ _ _ _ _ _ c.in-Second.is (λ room. refl)
