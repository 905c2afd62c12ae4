-- `bodies::list_directories::file_space_at` meets its contract. Assumes nothing.
use mathlib.Core.Path.{ap, ◌∙◌}
use Prim.Native.Nat.{ℕ, ◌-◌}
use Rattle.bodies.specs.ListDirectories.{file_space_at}
use Rattle.bodies.proofs.list_directories.file_space_at.Goals as goal

pub returns : goal.returns
unfolding file_space_at
returns c = c.record_of.ensures ∙ ap (λ (n : ℕ). n - 8) c.file_space_reference.ensures
