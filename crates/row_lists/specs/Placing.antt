-- A list by rows that is filled tile by tile: the stretch of a row that lies in a tile goes where the row's last stretch ended. D r c is
-- what the cell in row r and column c puts into the list, any numbers; there are n columns; the list takes the first `cap` numbers, which
-- are those of `room` whole entries.
use Rattle.std.specs.Prelude.{ℕ, ◌+◌, ◌*◌, ◌/◌, ◌≤◌, ◌<◌, min, ◌≡◌, List, [], ◌∷◌, ◌++◌, Bool, length, get_or, eqb}
use Rattle.wire.specs.Pick.{pick}
use Rattle.wire.specs.Tests.{◌≤?◌, passes}
use Rattle.wire.specs.Bytes.{put}
use Rattle.blocks.specs.Folds.{fold_inside}
use Rattle.row_lists.specs.Entries.{Tiling, entry, entries_at, differing_in, count_in, entry_size, flat, listed}

-- all of some rows; the stretch of one row
unfoldable pub all_of : (ℕ → ℕ → List ℕ) → ℕ → ℕ → List ℕ
all_of D n m = fold_inside ◌++◌ [] 0 m 0 n D

unfoldable pub stretch : (ℕ → ℕ → List ℕ) → ℕ → ℕ → ℕ → List ℕ
stretch D r left right = fold_inside ◌++◌ [] r (r + 1) left right D

-- where a row starts in the list
unfoldable pub start : (ℕ → ℕ → List ℕ) → ℕ → ℕ → ℕ
start D n r = length (all_of D n r)

-- v stands in `now` from `at` on, cut at `cap`, and nothing else has changed
pub record Cut (cap at : ℕ) (v old now : List ℕ) : Type 0 where
  pub long : length now ≡ length old
  pub new : (i : ℕ) → i < length v → at + i < cap → get_or now (at + i) 0 ≡ get_or v i 0
  pub else : (p : ℕ) → ((i : ℕ) → i < length v → at + i < cap → p ≡ at + i → ⊥) → get_or now p 0 ≡ get_or old p 0

-- of m rows each is placed up to a column, and nothing else has changed
pub record Placed (D : ℕ → ℕ → List ℕ) (m n cap : ℕ) (done : ℕ → ℕ) (old now : List ℕ) : Type 0 where
  pub long : length now ≡ length old
  pub in_row :
      (r i : ℕ) → r < m → i < length (stretch D r 0 (done r)) → start D n r + i < cap → get_or now (start D n r + i) 0 ≡ get_or (stretch D r 0 (done r)) i 0
  pub outside :
      (p : ℕ) → ((r i : ℕ) → r < m → i < length (stretch D r 0 (done r)) → start D n r + i < cap → p ≡ start D n r + i → ⊥) → get_or now p 0 ≡ get_or old p 0

-- one row further
unfoldable pub up_to : (ℕ → ℕ) → ℕ → ℕ → ℕ → ℕ
up_to done r right k = pick (eqb k r) right (done k)

-- the numbers of the entries that fit whole into a list
abbrev pub cap_of : List ℕ → ℕ
cap_of l = length l / entry_size * entry_size

-- what an element of a cell puts into the list
unfoldable pub numbers_if : Tiling → Bool → ℕ → ℕ → ℕ → List ℕ
numbers_if tiling b r c e = flat tiling (pick b (entry r c e ∷ []) [])

-- what each cell puts into the list of what differs, by e elements
abbrev pub numbers_at : Tiling → (ℕ → ℕ → ℕ → Bool) → ℕ → ℕ → ℕ → List ℕ
numbers_at tiling d e r c = flat tiling (entries_at d e r c)

-- a list of which every row is placed up to its last column has the earliest entries that fit whole, and what stands behind them stays
abbrev pub PlacedListed : Type 0
PlacedListed =
    (tiling : Tiling) (d : ℕ → ℕ → ℕ → Bool) (e m n : ℕ) (done : ℕ → ℕ) (old now : List ℕ) → Placed (numbers_at tiling d e) m n (cap_of old) done old now → ((r : ℕ) → r < m → done r ≡ n) →
    now ≡ put old 0 (listed tiling (length old) (differing_in d e 0 m 0 n))

-- where a row starts, and how long a stretch is: by what is counted
abbrev pub StartCounted : Type 0
StartCounted = (tiling : Tiling) (d : ℕ → ℕ → ℕ → Bool) (e n r : ℕ) → start (numbers_at tiling d e) n r ≡ entry_size * count_in d e 0 r 0 n

abbrev pub StretchCounted : Type 0
StretchCounted = (tiling : Tiling) (d : ℕ → ℕ → ℕ → Bool) (e r left right : ℕ) → length (stretch (numbers_at tiling d e) r left right) ≡ entry_size * count_in d e r (r + 1) left right

-- the rows from `top` to below `row` are placed up to `right`
unfoldable pub rows_done : (ℕ → ℕ) → ℕ → ℕ → ℕ → ℕ → ℕ
rows_done done top row right k = pick (passes ((top ≤? k) ∷ (k + 1 ≤? row) ∷ [])) right (done k)

-- the rows above `top` are placed whole, those from there to below `bottom` up to `left`, the others not
unfoldable pub reached : ℕ → ℕ → ℕ → ℕ → ℕ → ℕ
reached n top bottom left k = pick (passes ((k + 1 ≤? top) ∷ [])) n (pick (passes ((k + 1 ≤? bottom) ∷ [])) left 0)

-- how many entries stand before a column of a row
unfoldable pub next_of : (ℕ → ℕ → ℕ → Bool) → ℕ → ℕ → ℕ → ℕ → ℕ
next_of d e n r column = count_in d e 0 r 0 n + count_in d e r (r + 1) 0 column

-- where the next entries of the rows from `top` to below `bottom` go, none behind the list's end: those above `row` are placed up to
-- `right`, the others up to `left`
pub record Nexts (d : ℕ → ℕ → ℕ → Bool) (e n room top bottom row left right : ℕ) (next : List ℕ) : Type 0 where
  pub placed : (i : ℕ) → top + i < row → get_or next i 0 ≡ min room (next_of d e n (top + i) right)
  pub waiting : (i : ℕ) → row ≤ top + i → top + i < bottom → get_or next i 0 ≡ min room (next_of d e n (top + i) left)

-- where the entries of each row end
pub record Ends (d : ℕ → ℕ → ℕ → Bool) (e n room top bottom : ℕ) (ends : List ℕ) : Type 0 where
  pub each : (i : ℕ) → top + i < bottom → get_or ends i 0 ≡ min room (next_of d e n (top + i) n)

-- how many entries each row has
pub record Counts (d : ℕ → ℕ → ℕ → Bool) (e n top bottom : ℕ) (counts : List ℕ) : Type 0 where
  pub each : (i : ℕ) → top + i < bottom → get_or counts i 0 ≡ count_in d e (top + i) (top + i + 1) 0 n

-- counts become starts: those of the first i rows have
pub record Spread (d : ℕ → ℕ → ℕ → Bool) (e n room top bottom i : ℕ) (counts ends : List ℕ) : Type 0 where
  pub nexts : (k : ℕ) → k < i → get_or counts k 0 ≡ min room (next_of d e n (top + k) 0)
  pub lasts : (k : ℕ) → k < i → get_or ends k 0 ≡ min room (next_of d e n (top + k) n)
  pub waiting : (k : ℕ) → i ≤ k → top + k < bottom → get_or counts k 0 ≡ count_in d e (top + k) (top + k + 1) 0 n

-- what a call leaves that places the rows of a piece above `row`: any list that was placed up to the piece is placed up to its end there
abbrev pub PiecePlaced : Tiling → (ℕ → ℕ → ℕ → Bool) → ℕ → ℕ → ℕ → ℕ → ℕ → ℕ → ℕ → List ℕ → List ℕ → Type 0
PiecePlaced tiling d e n top bottom row left right was now =
    (m : ℕ) (done : ℕ → ℕ) (old : List ℕ) → row ≤ m → ((k : ℕ) → done k ≤ n) → ((k : ℕ) → top ≤ k → k < bottom → done k ≡ left) →
    Placed (numbers_at tiling d e) m n (cap_of was) done old was → Placed (numbers_at tiling d e) m n (cap_of was) (rows_done done top row right) old now

-- the same of a row of tiles
abbrev pub BandPlaced : Tiling → (ℕ → ℕ → ℕ → Bool) → ℕ → ℕ → ℕ → ℕ → List ℕ → List ℕ → Type 0
BandPlaced tiling d e n top bottom was now =
    (m : ℕ) (old : List ℕ) → bottom ≤ m → Placed (numbers_at tiling d e) m n (cap_of was) (reached n top top 0) old was →
    Placed (numbers_at tiling d e) m n (cap_of was) (reached n bottom bottom 0) old now

-- and of its pieces up to a column
abbrev pub ColumnsPlaced : Tiling → (ℕ → ℕ → ℕ → Bool) → ℕ → ℕ → ℕ → ℕ → ℕ → List ℕ → List ℕ → Type 0
ColumnsPlaced tiling d e n top bottom column was now =
    (m : ℕ) (old : List ℕ) → bottom ≤ m → Placed (numbers_at tiling d e) m n (cap_of was) (reached n top top 0) old was →
    Placed (numbers_at tiling d e) m n (cap_of was) (reached n top bottom column) old now

-- a walk over the pieces of a row of tiles: it stands at one, up to which each row is placed, or behind them all
pub record BandUpto (tiling : Tiling) (d : ℕ → ℕ → ℕ → Bool) (e n room top bottom top2 bottom2 left2 : ℕ) (was now next : List ℕ) : Type 0 where
  pub within :
      top2 < bottom → ((top2 ≡ top) × (bottom2 ≡ bottom)) × (Nexts d e n room top bottom top left2 left2 next × ColumnsPlaced tiling d e n top bottom left2 was now)
  pub behind : bottom ≤ top2 → ColumnsPlaced tiling d e n top bottom n was now

-- what a call leaves that makes starts of the counts of k rows, where so many entries stand before them
abbrev pub SpreadOut : ℕ → ℕ → ℕ → List ℕ → List ℕ → List ℕ → Type 0
SpreadOut k from room old now ends =
    (d : ℕ → ℕ → ℕ → Bool) (e n top : ℕ) → Counts d e n top (top + k) old → from ≡ count_in d e 0 top 0 n →
    Nexts d e n room top (top + k) top 0 0 now × Ends d e n room top (top + k) ends

abbrev pub SpreadUpto : ℕ → ℕ → ℕ → ℕ → ℕ → List ℕ → List ℕ → List ℕ → Type 0
SpreadUpto k from room i at old now ends =
    (d : ℕ → ℕ → ℕ → Bool) (e n top : ℕ) → Counts d e n top (top + k) old → from ≡ count_in d e 0 top 0 n →
    Spread d e n room top (top + k) i now ends × (at ≡ count_in d e 0 (top + i) 0 n)
