-- How many entries a directory lists, and how large one is. Assumes nothing.
use native.Mathlib.Omega.{arith}
use Prim.Native.Nat.{ℕ, ◌+◌}
use mathlib.Core.Path.{◌≡◌}
use mathlib.Core.List.{List}
use borrow.Author.Tests.{ne_eqb}
use Rattle.wire.specs.Bytes.{u32_at, u16_at}
use Rattle.header.specs.Element.{string_size}
use Rattle.bodies.specs.ListDirectories.{entry_count, metadata_entry_size}

pub count_none : (s : List ℕ) (r : ℕ) → r ≡ 0 → 0 ≡ entry_count s r
unfolding entry_count
count_none s r h = rw h

pub count_some : (s : List ℕ) (r n : ℕ) → (r ≡ 0 → ⊥) → n ≡ u32_at s r → n ≡ entry_count s r
unfolding entry_count
count_some s r n h e = rw (ne_eqb r 0 h) e

-- the size of an entry of the metadata directory
pub entry_size_is : (s : List ℕ) (p n : ℕ) → n ≡ u16_at s (p + 8) → 15 + n ≡ metadata_entry_size s p
unfolding metadata_entry_size string_size
entry_size_is s p n e = omega arith
