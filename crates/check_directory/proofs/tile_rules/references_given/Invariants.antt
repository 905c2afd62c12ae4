-- `check_directory::tile_rules::references_given` meets its contract. Assumes nothing.
use Rattle.check_directory.specs.TileRules.{gives}
use Rattle.wire.proofs.CountLaws.{Counted}
use Rattle.check_directory.proofs.tile_rules.references_given.Given as goal

abbrev pub invariant-loop-k : goal.invariant-loop-k
invariant-loop-k l = Counted l.n (gives l.s) l.k l.given
