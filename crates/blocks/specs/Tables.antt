-- Numbers in rows and columns, as a list by rows. Rows and columns count from 0, and the number in row r and column c of a table n
-- columns wide is the list's number r × n + c.
use Rattle.std.specs.Prelude.{ℕ, zero, suc, ◌+◌, ◌*◌, ◌≤◌, ◌<◌, ◌≡◌, List, [], ◌++◌, map, length, get_or}
use Rattle.wire.specs.Lists.{below}

-- the numbers g r c of m rows and n columns
unfoldable pub tabled : ℕ → ℕ → (ℕ → ℕ → ℕ) → List ℕ
tabled zero n g = []
tabled (suc m) n g = tabled m n g ++ map (g m) (below n)

-- row r and column c lie in the rectangle of the rows from `top` to below `bottom` and the columns from `left` to below `right`
pub record Inside (top bottom left right r c : ℕ) : Type 0 where
  pub from_top : top ≤ r
  pub to_bottom : r < bottom
  pub from_left : left ≤ c
  pub to_right : c < right

-- `now` is the list `old` with the numbers g r c of an area in their places, in a table n columns wide, and no other number changed
pub record Filled (n : ℕ) (g : ℕ → ℕ → ℕ) (area : ℕ → ℕ → Type 0) (old now : List ℕ) : Type 0 where
  pub long : length now ≡ length old
  pub in_area : (r c : ℕ) → area r c → get_or now (r * n + c) 0 ≡ g r c
  pub outside : (i : ℕ) → ((r c : ℕ) → area r c → i ≡ r * n + c → ⊥) → get_or now i 0 ≡ get_or old i 0
