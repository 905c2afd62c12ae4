-- `fronts::judge::ceilings_told` meets its contract. Assumes nothing.
use mathlib.Core.Path.{ap, sym, ◌∙◌}
use Prim.Native.Nat.{◌/◌}
use lib.ListN.{length}
use Rattle.fronts.specs.declared.sides.Sides.{Sides}
use Rattle.fronts.specs.Given.{stated_by}
use Rattle.fronts.specs.Judged.{counts_allowed}
use Rattle.fronts.specs.Writing.{told, allowed}
use Rattle.fronts.proofs.JudgeLaws.{ceilings_sides, ceilings_last}
use Rattle.fronts.proofs.judge.ceilings_told.Goals as goal

pub counts_allowed-requires : goal.counts_allowed-requires
counts_allowed-requires c = (ap told c.of-sides.ensures ∙ c.requires, sym c.are_allowed.ensures ∙ c.if-are_allowed.true)

pub returns-then-are_allowed : goal.returns-then-are_allowed
returns-then-are_allowed c =
    let es = c.args.elements.now in
    ceilings_last c.args.page.now es _ (c.are_allowed.ensures ∙ ap allowed c.of-sides.ensures) _ c.if-are_allowed.true
    (λ ts. c.counts_allowed.ensures ts ∙ ap (λ (s : Sides). counts_allowed s.rows s.columns s.tile_rows s.tile_columns (length es / 14) (stated_by es ts)) c.of-sides.ensures)

pub returns : goal.returns
returns c = ceilings_sides c.args.page.now c.args.elements.now _ (c.are_allowed.ensures ∙ ap allowed c.of-sides.ensures) c.if-are_allowed.false
