-- `bodies::tile_directory::tile_directory_at` meets its contract. Assumes nothing.
use mathlib.Core.Path.{ap, ◌∙◌}
use Prim.Native.Nat.{ℕ, ◌-◌}
use Rattle.bodies.specs.TileDirectory.{tile_directory_at}
use Rattle.bodies.proofs.tile_directory.tile_directory_at.Goals as goal

pub returns : goal.returns
unfolding tile_directory_at
returns c = c.record_of.ensures ∙ ap (λ (n : ℕ). n - 8) c.tile_directory_reference.ensures
