-- What the functions behind the crate's face come to, a row and a tile at a time. No rule on contents is made here.
use Rattle.std.specs.Prelude.{ℕ, ◌-◌, ◌*◌, ◌≤◌, ◌≡◌, List, ◌++◌, Bool, true, false, Option, Some, None, length, get_or, take, replicate, leb}
use Rattle.wire.specs.Pick.{pick}
use Rattle.wire.specs.Bytes.{put}
use Rattle.m32.specs.M32.{Next, Numbers, read_codes, codes}
use Rattle.huffman.specs.Tree.{Tree, got}
use Rattle.huffman.specs.Nodes.{Nodes}
use Rattle.predict.specs.Predict.{row_of, cell_rows}
use Rattle.unpack.specs.Unpack.{tree_in, tree_right, in_range, bits_of, Cells, cell_at, cells_in, is_whole}
use Rattle.unpack.specs.declared.rows.Made.{Made}
use Rattle.unpack.specs.declared.rows.Tile.{Tile}

-- the tree is read and right, and its nodes are there; or it is not right
pub record RootGood (c nodes : List ℕ) (q : ℕ) : Type 0 where
  pub tree : Tree
  pub is : tree_in c ≡ got tree q
  pub right : tree_right c ≡ true
  pub laid : Nodes nodes 0 tree

unfoldable pub Rooted : List ℕ → List ℕ → Option ℕ → Type 0
Rooted c nodes (Some q) = RootGood c nodes q
Rooted c nodes None = tree_right c ≡ false

-- a row with one number from a column on
unfoldable pub filled_from : List ℕ → ℕ → ℕ → List ℕ
filled_from row from x = take from row ++ replicate (length row - from) x

-- the numbers that fill a row from a column on
abbrev pub filling : (ℕ → Next) → ℕ → ℕ → List ℕ → Numbers
filling next start from row = read_codes next (length row - from) start

-- they are there and stand in the row; or there are too few
pub record LineGood (next : ℕ → Next) (start from : ℕ) (a b : List ℕ) (q : ℕ) : Type 0 where
  pub full : length (filling next start from a).numbers ≡ length a - from
  pub behind : q ≡ (filling next start from a).behind
  pub is : b ≡ take from a ++ (filling next start from a).numbers

unfoldable pub Lined : (ℕ → Next) → ℕ → ℕ → List ℕ → List ℕ → Option ℕ → Type 0
Lined next start from a b (Some q) = LineGood next start from a b q
Lined next start from a b None = length (filling next start from a).numbers ≡ length a - from → ⊥

-- the row of cells that they make, in range; or there are too few, or it is not in range
pub record RowGood (next : ℕ → Next) (p : ℕ) (short : Bool) (start from : ℕ) (above a b : List ℕ) (q n : ℕ) : Type 0 where
  pub full : length (filling next start from a).numbers ≡ length a - from
  pub behind : q ≡ (filling next start from a).behind
  pub bytes : n ≡ length (codes (filling next start from a).numbers)
  pub is : b ≡ row_of p above (take from a ++ (filling next start from a).numbers)
  pub range : in_range short b ≡ true

unfoldable pub Rowed : (ℕ → Next) → ℕ → Bool → ℕ → ℕ → List ℕ → List ℕ → List ℕ → Option Made → Type 0
Rowed next p short start from above a b (Some m) = RowGood next p short start from above a b m.pos m.bytes
Rowed next p short start from above a b None =
    length (filling next start from a).numbers ≡ length a - from → in_range short (row_of p above (take from a ++ (filling next start from a).numbers)) ≡ true → ⊥

-- each number of a row of at most 4,096 has at most six bytes
unfoldable pub Few : Option Made → Type 0
Few (Some m) = m.bytes ≤ 24576
Few None = Unit {0}

-- v in its place where n numbers would fit; else d stays
unfoldable pub fitted : ℕ → List ℕ → ℕ → List ℕ → List ℕ
fitted n d at v = pick (leb n (length d)) (put d at v) d

-- the numbers of a tile's rows behind the seed, which stands in the first column, and the cells that they make
unfoldable pub tile_numbers : (ℕ → Next) → ℕ → ℕ → ℕ → List ℕ
tile_numbers next start rows columns = (read_codes next (rows * columns - 1) start).numbers

unfoldable pub tile_values : (ℕ → Next) → ℕ → ℕ → ℕ → List ℕ → List ℕ → List ℕ
tile_values next p start rows above row = cell_rows p (length row) above rows (take 1 row ++ tile_numbers next start rows (length row))

-- they are there and in range, and what was asked of them; or not
pub record TileGood (next : ℕ → Next) (p : ℕ) (short : Bool) (start rows inside : ℕ) (above row d out : List ℕ) (n v : ℕ) : Type 0 where
  pub full : length (tile_numbers next start rows (length row)) ≡ rows * length row - 1
  pub range : in_range short (tile_values next p start rows above row) ≡ true
  pub bytes : n ≡ length (codes (tile_numbers next start rows (length row)))
  pub value : v ≡ get_or (bits_of short (tile_values next p start rows above row)) inside 0
  pub is : out ≡ fitted (rows * length row) d 0 (bits_of short (tile_values next p start rows above row))

unfoldable pub Tiled : (ℕ → Next) → ℕ → Bool → ℕ → ℕ → ℕ → List ℕ → List ℕ → List ℕ → List ℕ → Option Tile → Type 0
Tiled next p short start rows inside above row d out (Some m) = TileGood next p short start rows inside above row d out m.bytes m.value
Tiled next p short start rows inside above row d out None =
    length (tile_numbers next start rows (length row)) ≡ rows * length row - 1 → in_range short (tile_values next p start rows above row) ≡ true → ⊥

-- a cell is answered, and where the content is whole its cells are in their place
pub record Answered (x : Cells) (inside : ℕ) (d out : List ℕ) (r : Option ℕ) : Type 0 where
  pub cell : r ≡ cell_at x inside
  pub is : is_whole x ≡ true → out ≡ put d 0 (cells_in x)
