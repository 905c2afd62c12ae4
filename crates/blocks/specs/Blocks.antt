-- Places on a line that is cut into blocks of one length, `side`: the first block has the places below side, the next those below
-- 2 × side. A part of the line has its own count of places, from the line's place `first` on.
use Rattle.std.specs.Prelude.{ℕ, ◌+◌, ◌-◌, ◌*◌, ◌/◌, ◌≤◌, ◌<◌, min, ◌≡◌}

-- where the block that holds the part's place `at` ends, or the part's `end` where that comes first
unfoldable pub block_end : ℕ → ℕ → ℕ → ℕ → ℕ
block_end first at side end = min (((first + at) / side + 1) * side - first) end

-- the part's places from `at` to below `next` lie in one block
pub record OneBlock (first at next side : ℕ) : Type 0 where
  pub each : (x : ℕ) → at ≤ x → x < next → (first + x) / side ≡ (first + at) / side
