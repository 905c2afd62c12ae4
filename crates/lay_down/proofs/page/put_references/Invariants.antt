-- `lay_down::page::put_references` meets its contract. Assumes nothing.
use Rattle.lay_down.specs.Page.{references}
use Rattle.wire.specs.Bytes.{put}
use lib.ListN.{length, take}
use mathlib.Core.Path.{◌≡◌}
use Prim.Native.Nat.{◌+◌, ◌*◌, ◌≤◌}
use Rattle.geometry.specs.Sizes.{plain_tile_length}
use Rattle.lay_down.proofs.page.put_references.Given as goal

abbrev pub invariant-loop-index : goal.invariant-loop-index
invariant-loop-index l = (l.index-index ≤ length l.indexes) × (length l.out ≡ length l.initial.out) × (l.start ≡ length l.front + l.index-index * plain_tile_length l.front) × (l.out ≡ put l.initial.out l.at (references l.front (take l.index-index l.indexes) l.count))
