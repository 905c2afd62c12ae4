-- `tile_sizes::element_sizes` meets its contract. Assumes nothing.
use mathlib.Core.Path.{◌≡◌}
use Rattle.wire.specs.Bytes.{put}
use Rattle.tile_sizes.specs.TileSizes.{sizes_of}
use Rattle.tile_sizes.proofs.element_sizes.Given as goal

abbrev pub invariant-loop-e : goal.invariant-loop-e
invariant-loop-e l = l.sizes ≡ put l.initial.sizes 0 (sizes_of l.s l.e)
