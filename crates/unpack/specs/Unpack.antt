-- What the content of a compressed element of a tile holds (G 6 and 6.2): the L bytes behind its length field. What is quoted is
-- document 02, Req 01. A number is that of its 32 bits, so a negative one counts 4294967296 more.
use Rattle.std.specs.Prelude.{ℕ, ◌+◌, ◌-◌, ◌*◌, ◌%◌, List, [], ◌∷◌, map, Bool, true, false, Option, Some, None, length, get_or, leb}
use Rattle.wire.specs.Pick.{pick}
use Rattle.wire.specs.Tests.{◌≤?◌, ◌≡?◌, is, both, passes}
use Rattle.wire.specs.Bytes.{byte_at, u32_at}
use Rattle.m32.specs.M32.{Next, byte, end, read_codes, codes}
use Rattle.huffman.specs.Tree.{Tree, Parsed, got, bad, leaves, tree_at}
use Rattle.huffman.specs.Symbols.{symbol_at, symbols_of, among, distinct}
use Rattle.huffman.specs.declared.Symbol.{Symbol}
use Rattle.predict.specs.Predict.{tile_cells}

-- The head: G 6's table, and the byte that introduces the tree (G 6.2, step 1).

-- 'Predictor Index'
abbrev pub predictor_of : List ℕ → ℕ
predictor_of c = byte_at c 1

-- 'Seed', 'an integer value to be stored in the first cell'
abbrev pub seed_of : List ℕ → ℕ
seed_of c = u32_at c 2

-- 'nM32 Codes'
abbrev pub count_of : List ℕ → ℕ
count_of c = u32_at c 6

-- 'GVRS stores the value N-1 in this byte'
abbrev pub symbol_count : List ℕ → ℕ
symbol_count c = byte_at c 10 + 1

-- malformed is 'content that ends early, another predictor'. No lawful tile has a side of 0 or above 4,096 (document 01)
unfoldable pub head_right : List ℕ → ℕ → ℕ → Bool
head_right c rows columns =
    passes ((1 ≤? rows) ∷ (rows ≤? 4096) ∷ (1 ≤? columns) ∷ (columns ≤? 4096) ∷ (11 ≤? length c) ∷ (predictor_of c ≤? 2) ∷ [])

-- The tree, at the bit behind the head.

unfoldable pub tree_in : List ℕ → Parsed
tree_in c = tree_at c (symbol_count c) 88

-- its leaves and symbols; where there is no tree, none
unfoldable pub leaves_read : Parsed → ℕ
leaves_read (got t q) = leaves t
leaves_read bad = 0

unfoldable pub symbols_read : Parsed → List ℕ
symbols_read (got t q) = symbols_of t
symbols_read bad = []

-- malformed is 'a wrong count of leaves .., a symbol twice'
unfoldable pub tree_right : List ℕ → Bool
tree_right c = passes ((leaves_read (tree_in c) ≡? symbol_count c) ∷ is (distinct (symbols_read (tree_in c))) ∷ [])

-- The numbers, at the bit behind the tree: the symbols that the bits give are the bytes of M32 codes.

abbrev pub as_byte : Option Symbol → Next
as_byte (Some s) = byte s.y s.pos
as_byte None = end

unfoldable pub symbols : Tree → List ℕ → ℕ → Next
symbols t c p = as_byte (symbol_at t c p)

-- as many as are whole, n at most
unfoldable pub numbers_in : List ℕ → ℕ → Parsed → List ℕ
numbers_in c n (got t q) = (read_codes (symbols t c) n q).numbers
numbers_in c n bad = []

-- 'cells less one numbers are read'
unfoldable pub numbers_of : List ℕ → ℕ → ℕ → List ℕ
numbers_of c rows columns = numbers_in c (rows * columns - 1) (tree_in c)

-- 'the count field is right if it is their number or the number of their M32 bytes'. The bytes of their codes are those that stood
-- there, since what is read is the one code of its number (`Stood`)
unfoldable pub count_right : ℕ → ℕ → List ℕ → Bool
count_right count n xs = among count (n ∷ length (codes xs) ∷ [])

-- malformed is 'content that ends early, .. a wrong count of .. numbers' and what is no M32 code
unfoldable pub numbers_right : ℕ → ℕ → List ℕ → Bool
numbers_right count n xs = passes ((length xs ≡? n) ∷ is (count_right count n xs) ∷ [])

-- The cells: the seed and the numbers are the residuals, row by row.

unfoldable pub values_of : List ℕ → ℕ → ℕ → List ℕ
values_of c rows columns = tile_cells (predictor_of c) rows columns (seed_of c ∷ numbers_of c rows columns)

-- a Short is from -32768 to 32767 (G Table 4)
unfoldable pub is_short : ℕ → Bool
is_short v = pick (leb v 32767) true (leb 4294934528 v)

unfoldable pub all_short : List ℕ → Bool
all_short [] = true
all_short (v ∷ vs) = both (is_short v) (all_short vs)

-- 'a Short out of range' is malformed; an Integer has no such fault
unfoldable pub in_range : Bool → List ℕ → Bool
in_range short vs = pick short (all_short vs) true

-- a Short has 16 bits, an Integer 32 (G Table 4)
unfoldable pub bits_of_cell : Bool → ℕ → ℕ
bits_of_cell short v = pick short (v % 65536) v

unfoldable pub bits_of : Bool → List ℕ → List ℕ
bits_of short vs = map (bits_of_cell short) vs

-- The whole.

-- the bits of each cell, row by row, or that the content is malformed
pub data Cells : Type 0 where
  cells : List ℕ → Cells
  malformed : Cells

unfoldable pub unpacked : List ℕ → ℕ → ℕ → Bool → Cells
unpacked c rows columns short =
    pick
    (passes (
    is (head_right c rows columns)
    ∷ is (tree_right c)
    ∷ is (numbers_right (count_of c) (rows * columns - 1) (numbers_of c rows columns))
    ∷ is (in_range short (values_of c rows columns))
    ∷ []))
    (cells (bits_of short (values_of c rows columns))) malformed

-- a cell by its number in the tile, 0 past the last; none of a malformed content
unfoldable pub cell_at : Cells → ℕ → Option ℕ
cell_at (cells vs) i = Some (get_or vs i 0)
cell_at malformed i = None

-- and all of them
unfoldable pub cells_in : Cells → List ℕ
cells_in (cells vs) = vs
cells_in malformed = []

unfoldable pub is_whole : Cells → Bool
is_whole (cells vs) = true
is_whole malformed = false
