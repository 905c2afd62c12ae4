-- The sections of a tile record, one behind the other, and its length. Assumes nothing.
use Prim.Native.Nat.{ℕ, ◌+◌, ◌-◌, ◌≤◌}
use mathlib.Core.Path.{◌≡◌, ◌∙◌}
use mathlib.Core.List.{List}
use mathlib.Core.Bool.{true}
use native.Mathlib.Omega.{arith}
use Rattle.wire.specs.Tests.{sum_below}
use Rattle.wire.proofs.TestLaws.{means}
use Rattle.header.specs.Fields.{element_count}
use Rattle.record.specs.Record.{record_limit}
use Rattle.geometry.specs.Sizes.{stored_size, tile_length}
use Rattle.check_records.specs.Frame.{end_right}
use Rattle.check_records.specs.TileBody.{tile_right, LeastTileLength}
use Rattle.bodies.specs.TileRecord.{section_at, section_length, tile_end}
use Rattle.bodies.proofs.SectionLaws.{sections_sum}

-- a tile record that is right: its sections end before the checksum, and its length is the least

pub sections_end : (s : List ℕ) (at : ℕ) → tile_right s at ≡ true → section_at s at (element_count s) ≤ record_limit s at
unfolding tile_right end_right tile_end
sections_end s at t = (means _ (means _ t).1.0).0

pub least_tile_length : LeastTileLength
unfolding tile_right end_right tile_end tile_length
least_tile_length s at t =
    let e = sections_sum s at (element_count s) (sections_end s at t) in
    let d : section_at s at (element_count s) - at ≡ 12 + sum_below (element_count s) (λ d. stored_size (section_length s at d)) = omega arith in
    (means _ (means _ t).1.0).1.0 ∙ rw d
