-- `check_directory::tile_rules::tile_directory_right` meets its contract. Assumes nothing.
use Rattle.std.proofs.lemmas.Bool.{not_from_false}
use Rattle.check_directory.proofs.RuleLaws.{no_reference, one_other, no_form, no_rectangle, no_room, one_unlisted, one_more_lem, all_right}
use mathlib.Core.Bool.{true}
use borrow.Author.Rules.{rules}
use Rattle.check_directory.proofs.tile_rules.tile_directory_right.Goals as goal

pub returns-then-not-refers_to : goal.returns-then-not-refers_to
returns-then-not-refers_to c = no_reference _ _ _ true c.tile_directory_reference-reference.ensures c.refers_to.ensures (not_from_false _ c.if-not-refers_to.true)

pub returns-then-not-no_other : goal.returns-then-not-no_other
returns-then-not-no_other c = one_other _ _ _ _ c.tile_directory_reference-reference.ensures c.refers_to.ensures c.no_other.ensures (not_from_false _ c.if-not-no_other.true)

pub returns-then-not-form_right : goal.returns-then-not-form_right
returns-then-not-form_right c = no_form _ _ (not_from_false _ c.if-not-form_right.true) c.form_right.ensures

pub returns-then-not-rectangle_right : goal.returns-then-not-rectangle_right
returns-then-not-rectangle_right c = no_rectangle _ _ (not_from_false _ c.if-not-rectangle_right.true) c.rectangle_right.ensures

pub returns-then-not-references_fit : goal.returns-then-not-references_fit
returns-then-not-references_fit c = no_room _ _ (not_from_false _ c.if-not-references_fit.true) c.references_fit.ensures

pub returns-then-not-tiles_listed : goal.returns-then-not-tiles_listed
returns-then-not-tiles_listed c = one_unlisted _ _ (not_from_false _ c.if-not-tiles_listed.true) c.tiles_listed.ensures

pub returns-then-references_given-tiles : goal.returns-then-references_given-tiles
returns-then-references_given-tiles c = one_more_lem _ _ _ c.references_given.ensures c.record_count-tiles.ensures c.if-references_given-tiles.true

pub returns : goal.returns
returns c = search (rules, all_right)
