-- Document 01, stage 8: where a record's fields end.
use Rattle.std.specs.Prelude.{ℕ, ◌-◌, List, [], ◌∷◌, Bool}
use Rattle.wire.specs.Tests.{◌≤?◌, ◌≡?◌, passes}
use Rattle.record.specs.Record.{length_at, record_limit}
use Rattle.geometry.specs.Sizes.{least_length}

-- the record's fields end at `end`, before its checksum, and its length is the least multiple of 8 that holds them and the
-- checksum
unfoldable pub end_right : List ℕ → ℕ → ℕ → Bool
end_right s at end = passes ((end ≤? record_limit s at) ∷ (length_at s at ≡? least_length (end - at)) ∷ [])
