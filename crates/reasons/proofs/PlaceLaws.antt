-- Where the label of an element stands, from what the functions below it answer. Assumes nothing.
use Prim.Native.Nat.{ℕ, ◌+◌, ◌*◌, ◌/◌}
use mathlib.Core.Path.{◌≡◌}
use mathlib.Core.List.{List}
use Rattle.wire.specs.Bytes.{byte_at}
use Rattle.header.specs.Element.{string_size, string_end, block_size, block_at, label_at, entry_start}

pub label_of_is :
    (s : List ℕ) (e at n v k : ℕ) → at ≡ entry_start s e → n ≡ string_size s (at + 8) → v ≡ byte_at s at → k ≡ block_size v →
    (at + 8 + n + k + 3) / 4 * 4 ≡ label_at s (entry_start s e)
unfolding label_at block_at string_end
label_of_is s e at n v k p q r t = rw (q, t, r, p)
