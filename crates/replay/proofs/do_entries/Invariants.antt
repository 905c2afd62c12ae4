-- `replay::do_entries` meets its contract. The loop's invariant: what is still to do comes to what the whole comes to. Assumes nothing.
use Prim.Native.Nat.{◌-◌}
use mathlib.Core.Path.{◌≡◌}
use lib.ListN.{length}
use Rattle.geometry.specs.Tiles.{tile_count}
use Rattle.correct.specs.Front.{page_in}
use Rattle.replay.specs.Replay.{outcome_of}
use Rattle.replay.proofs.LogLaws.{Going}
use Rattle.replay.proofs.do_entries.Given as goal

abbrev pub invariant-loop-at : goal.invariant-loop-at
invariant-loop-at l =
    Going (tile_count (page_in l.initial.buf l.n)) l.long l.log (outcome_of l.initial.buf l.n l.log) l.at l.buf l.length l.entries × (length l.buf ≡ length l.initial.buf)

abbrev pub decreases-loop-at : goal.decreases-loop-at
decreases-loop-at l = length l.log - l.at
