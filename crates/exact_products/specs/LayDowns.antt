-- Document 01, 'Laying down a page': what a lay-down answers, exactly. f is the front, t the time, ix the indexes, c the cell bytes, room the
-- buffer's length.
use Rattle.std.specs.Prelude.{ℕ, ◌*◌, ◌≤◌, ◌<◌, ◌≡◌, List, length, get_or, Err, Ok}
use Rattle.answer.specs.declared.Refusal.{Refusal}
use Rattle.answer.specs.declared.Refusal.TheVariants.{Ceiling, Input, Room}
use Rattle.geometry.specs.Tiles.{tile_count}
use Rattle.geometry.specs.Sizes.{tile_bytes}
use Rattle.check_header.specs.Stages.{check_front}
use Rattle.check_header.specs.Ceilings.{most_file_bytes}
use Rattle.lay_down.specs.Page.{file_length}
use Rattle.lay_down.specs.Answer.{laid}

-- "12 if the time is zero, the indexes are not strictly ascending, one is not below the tile count, or the byte count is not the number of
-- indexes times tile bytes"
pub record GivenRight (f : List ℕ) (t : ℕ) (ix c : List ℕ) : Type 0 where
  pub time : t ≡ 0 → ⊥
  pub ascend : (j k : ℕ) → j < k → k < length ix → get_or ix j 0 < get_or ix k 0
  pub below : (k : ℕ) → k < length ix → get_or ix k 0 < tile_count f
  pub count : length c ≡ length ix * tile_bytes f

-- the front's refusal before it; "Then 4 if the file would pass its ceiling. Then 13 exactly if the buffer is shorter than the file"; by nothing
-- else is it refused
pub record LaidBy (f : List ℕ) (t : ℕ) (ix c : List ℕ) (room : ℕ) : Type 0 where
  pub front : (r : Refusal) → check_front f ≡ Err r → laid f t ix c room ≡ Err r
  pub given_wrong : check_front f ≡ Ok tt → (GivenRight f t ix c → ⊥) → laid f t ix c room ≡ Err Input
  pub ceiling : check_front f ≡ Ok tt → GivenRight f t ix c → most_file_bytes < file_length f ix → laid f t ix c room ≡ Err Ceiling
  pub short :
      check_front f ≡ Ok tt → GivenRight f t ix c → file_length f ix ≤ most_file_bytes → room < file_length f ix → laid f t ix c room ≡ Err Room
  pub done :
      check_front f ≡ Ok tt → GivenRight f t ix c → file_length f ix ≤ most_file_bytes → file_length f ix ≤ room →
      laid f t ix c room ≡ Ok (file_length f ix)

abbrev pub LaidExactly : Type 0
LaidExactly = (f : List ℕ) (t : ℕ) (ix c : List ℕ) (room : ℕ) → LaidBy f t ix c room
