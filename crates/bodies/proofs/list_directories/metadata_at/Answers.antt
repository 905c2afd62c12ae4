-- `bodies::list_directories::metadata_at` meets its contract. Assumes nothing.
use mathlib.Core.Path.{ap, ◌∙◌}
use Prim.Native.Nat.{ℕ, ◌-◌}
use Rattle.bodies.specs.ListDirectories.{metadata_at}
use Rattle.bodies.proofs.list_directories.metadata_at.Goals as goal

pub returns : goal.returns
unfolding metadata_at
returns c = c.record_of.ensures ∙ ap (λ (n : ℕ). n - 8) c.metadata_reference.ensures
