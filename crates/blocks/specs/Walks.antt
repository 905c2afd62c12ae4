-- A walk over a rectangle that is cut into blocks: the rows of blocks one under the other, and in each of them from left to right the pieces
-- of the rectangle, each the part that lies in one block. Rows and columns count from the rectangle's first, it has n columns, and the walk
-- starts at row `from`. Where the walk stands is the rows from `top` to below `bottom` of a row of blocks, and the column `left` where the
-- next piece starts.
use Rattle.std.specs.Prelude.{ℕ, ◌+◌, ◌-◌, ◌*◌, ◌≤◌, ◌<◌, ◌≡◌, ◌⊎◌}
use Rattle.blocks.specs.Folds.{fold_inside}

-- the cells that it has passed
pub record Passed (from n top bottom left r c : ℕ) : Type 0 where
  pub from_first : from ≤ r
  pub to_bottom : r < bottom
  pub to_last : c < n
  pub to_left : top ≤ r → c < left

-- it has passed none: it stands where it starts, or the rectangle has no columns
pub record Begins (from n top left : ℕ) : Type 0 where
  pub first : left ≡ 0
  pub at : 1 ≤ n → top ≡ from

-- a piece that ends before column `right` lies behind it, and the next one stands beside that, or is the first of the next row of blocks
pub record Follows (n top bottom left right top2 bottom2 left2 : ℕ) : Type 0 where
  pub rows : top ≤ bottom
  pub columns : left ≤ right
  pub within : right ≤ n
  pub rows2 : top2 ≤ bottom2
  pub next : ((top2 ≡ top) × ((bottom2 ≡ bottom) × (left2 ≡ right))) ⊎ ((right ≡ n) × ((top2 ≡ bottom) × (left2 ≡ 0)))

-- a walk over one row of blocks: it stands in it, and something holds up to its column, or where the next one begins, and it holds up to
-- the last
abbrev pub OnBand : ℕ → ℕ → ℕ → ℕ → ℕ → ℕ → (ℕ → Type 0) → Type 0
OnBand n top bottom top2 bottom2 left2 f = (((top2 ≡ top) × (bottom2 ≡ bottom)) × f left2) ⊎ (((top2 ≡ bottom) × (left2 ≡ 0)) × f n)

-- f of each cell passed, joined: where the order does not count
unfoldable pub fold_passed : {A : Type 0} → (A → A → A) → A → ℕ → ℕ → ℕ → ℕ → ℕ → (ℕ → ℕ → A) → A
fold_passed op unit from n top bottom left f = op (fold_inside op unit from top 0 n f) (fold_inside op unit top bottom 0 left f)

-- none of the cells passed counts
pub record Clear {A : Type 0} (unit : A) (from n top bottom left : ℕ) (f : ℕ → ℕ → A) : Type 0 where
  pub each : (r c : ℕ) → Passed from n top bottom left r c → f r c ≡ unit

-- a number that falls with each step, of a rectangle of so many rows
abbrev pub walk_left : ℕ → ℕ → ℕ → ℕ → ℕ
walk_left rows n top left = (rows - top) * (n + 1) + (n - left)
