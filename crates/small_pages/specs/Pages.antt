-- Small pages, byte by byte: a grid of one row and four columns, four tiles of one cell, two elements: `a`, a Short whose fill is 7, and
-- `b`, an Integer whose fill is 9. Checksums are off, so a free record is its length and zeros. The header ends at 368.
use Rattle.std.specs.Prelude.{ℕ, ◌-◌, List, [], ◌∷◌, ◌++◌, replicate}

abbrev pub none : ℕ → List ℕ
none n = replicate n 0

-- `gvrs raster`, a zero byte, version 1.4; the header record of 352 bytes, type 6; no UUID
abbrev block : List ℕ
block =
    (103 ∷ 118 ∷ 114 ∷ 115 ∷ 32 ∷ 114 ∷ 97 ∷ 115 ∷ 116 ∷ 101 ∷ 114 ∷ 0 ∷ 1 ∷ 4 ∷ 0 ∷ 0 ∷ [])
    ++ (96 ∷ 1 ∷ 0 ∷ 0 ∷ 6 ∷ 0 ∷ 0 ∷ 0 ∷ []) ++ none 16

-- from position 104 on: the grid, the tiles, checksums off; two elements: type, name, range and fill; no method, an empty label
abbrev fields : List ℕ
fields =
    (1 ∷ 0 ∷ 0 ∷ 0 ∷ 4 ∷ 0 ∷ 0 ∷ 0 ∷ 1 ∷ 0 ∷ 0 ∷ 0 ∷ 1 ∷ 0 ∷ 0 ∷ 0 ∷ []) ++ none 160 ++ (2 ∷ 0 ∷ 0 ∷ 0 ∷ [])
    ++ (3 ∷ []) ++ none 7 ++ (1 ∷ 0 ∷ 97 ∷ []) ++ none 8 ++ (7 ∷ 0 ∷ []) ++ none 11
    ++ (0 ∷ []) ++ none 7 ++ (1 ∷ 0 ∷ 98 ∷ []) ++ none 8 ++ (9 ∷ 0 ∷ 0 ∷ 0 ∷ []) ++ none 9 ++ none 20

-- a number below 65,536 in eight bytes
abbrev pub eight : ℕ → ℕ → List ℕ
eight low high = (low ∷ high ∷ []) ++ none 6

-- the front with the times modified and opened, and the references to the file-space directory, the metadata directory and the tile
-- directory; and without metadata
abbrev pub front_with : List ℕ → ℕ → ℕ → List ℕ → List ℕ → List ℕ
front_with metadata modified opened space tiles =
    block ++ eight modified 0 ++ eight opened 0 ++ space ++ metadata ++ none 8 ++ tiles ++ none 16 ++ fields

abbrev pub plain_front : ℕ → ℕ → List ℕ → List ℕ → List ℕ
plain_front = front_with (none 8)

abbrev pub no_space : List ℕ
no_space = none 8

-- references to the contents at 464, 640 and 496; 408 and 520
abbrev pub at464 : List ℕ
at464 = eight 208 1

abbrev pub at640 : List ℕ
at640 = eight 128 2

abbrev pub at496 : List ℕ
at496 = eight 240 1

abbrev pub at408 : List ℕ
at408 = eight 152 1

abbrev pub at520 : List ℕ
at520 = eight 8 2

-- a free record, of so many bytes below 256
abbrev pub free : ℕ → List ℕ
free n = n ∷ none (n - 1)

-- one of 24 bytes with something left in it
abbrev pub worn : List ℕ
worn = (24 ∷ []) ++ none 11 ++ (99 ∷ []) ++ none 11

-- the record of tile i, of 32 bytes: its cell of `a`, two bytes and two of padding, and its cell of `b`
abbrev pub tile : ℕ → List ℕ → List ℕ → List ℕ → List ℕ
tile i a padding b = (32 ∷ 0 ∷ 0 ∷ 0 ∷ 2 ∷ 0 ∷ 0 ∷ 0 ∷ i ∷ 0 ∷ 0 ∷ 0 ∷ 2 ∷ 0 ∷ 0 ∷ 0 ∷ []) ++ a ++ padding ++ (4 ∷ 0 ∷ 0 ∷ 0 ∷ []) ++ b ++ none 4

-- the record of tile 1 with `b` compressed to one byte
abbrev pub packed_tile : List ℕ
packed_tile =
    (32 ∷ 0 ∷ 0 ∷ 0 ∷ 2 ∷ 0 ∷ 0 ∷ 0 ∷ 1 ∷ 0 ∷ 0 ∷ 0 ∷ 2 ∷ 0 ∷ 0 ∷ 0 ∷ 33 ∷ 34 ∷ 0 ∷ 0 ∷ []) ++ (1 ∷ 0 ∷ 0 ∷ 0 ∷ 35 ∷ 0 ∷ 0 ∷ 0 ∷ []) ++ none 4

-- a full tile directory of compact references, of 56 bytes; each is the position of a tile's content divided by 8
abbrev pub directory : ℕ → ℕ → ℕ → ℕ → List ℕ
directory p q r s =
    (56 ∷ 0 ∷ 0 ∷ 0 ∷ 5 ∷ 0 ∷ 0 ∷ 0 ∷ []) ++ none 16 ++ (1 ∷ 0 ∷ 0 ∷ 0 ∷ 4 ∷ 0 ∷ 0 ∷ 0 ∷ [])
    ++ (p ∷ 0 ∷ 0 ∷ 0 ∷ q ∷ 0 ∷ 0 ∷ 0 ∷ r ∷ 0 ∷ 0 ∷ 0 ∷ s ∷ 0 ∷ 0 ∷ 0 ∷ []) ++ none 8

-- one of tiles 2 and 3 alone, of standard references, eight bytes each: tile 2's content at 376, tile 3 not stored
abbrev pub partial : List ℕ
partial =
    (56 ∷ 0 ∷ 0 ∷ 0 ∷ 5 ∷ 0 ∷ 0 ∷ 0 ∷ 0 ∷ 1 ∷ []) ++ none 10 ++ (2 ∷ 0 ∷ 0 ∷ 0 ∷ 1 ∷ 0 ∷ 0 ∷ 0 ∷ 2 ∷ 0 ∷ 0 ∷ 0 ∷ [])
    ++ eight 120 1 ++ none 8 ++ none 8

-- an entry of a free list: a start, by its two lower bytes, and a length
abbrev pub entry : ℕ → ℕ → ℕ → List ℕ
entry low high n = eight low high ++ (n ∷ 0 ∷ 0 ∷ 0 ∷ [])

-- cell bytes of a tile, and others
abbrev pub cells : List ℕ
cells = 17 ∷ 18 ∷ 19 ∷ 20 ∷ 21 ∷ 22 ∷ []

abbrev pub others : List ℕ
others = 1 ∷ 2 ∷ 3 ∷ 4 ∷ 5 ∷ 6 ∷ []

-- the record of a tile with `cells`, and with `others`, padding of zero; and those of tile 0 with other bytes for padding, which no rule
-- looks at
abbrev pub cells_tile : ℕ → List ℕ
cells_tile i = tile i (17 ∷ 18 ∷ []) (none 2) (19 ∷ 20 ∷ 21 ∷ 22 ∷ [])

abbrev pub others_tile : ℕ → List ℕ
others_tile i = tile i (1 ∷ 2 ∷ []) (none 2) (3 ∷ 4 ∷ 5 ∷ 6 ∷ [])

abbrev pub junk_padded : List ℕ
junk_padded = tile 0 (17 ∷ 18 ∷ []) (97 ∷ 98 ∷ []) (19 ∷ 20 ∷ 21 ∷ 22 ∷ [])

abbrev pub other_junk_padded : List ℕ
other_junk_padded = tile 0 (1 ∷ 2 ∷ []) (97 ∷ 98 ∷ []) (3 ∷ 4 ∷ 5 ∷ 6 ∷ [])

-- an open page of 632 bytes: free records at 368, 424, 488 and 568, tile 0 at 392, tile 1 at 456, its element `b` compressed, the
-- directory at 512
abbrev pub open_page : List ℕ
open_page = plain_front 5 9 no_space at520 ++ worn ++ junk_padded ++ free 32 ++ packed_tile ++ free 24 ++ directory 50 58 0 0 ++ free 64

-- a file of 512 bytes: tile 2 at 368, a directory of tiles 2 and 3 at 400, a file-space directory at 456, a free record at 488
abbrev pub partial_file : List ℕ
partial_file =
    plain_front 5 0 at464 at408 ++ cells_tile 2 ++ partial
    ++ (32 ∷ 0 ∷ 0 ∷ 0 ∷ 3 ∷ 0 ∷ 0 ∷ 0 ∷ 1 ∷ 0 ∷ 0 ∷ 0 ∷ []) ++ entry 232 1 24 ++ none 8 ++ free 24

-- a file of 456 bytes without a free record: tile 0 at 368, the directory at 400; and the same page opened with 9
abbrev pub full_file : List ℕ
full_file = plain_front 5 0 no_space at408 ++ cells_tile 0 ++ directory 47 0 0 0

abbrev pub full_page : List ℕ
full_page = plain_front 5 9 no_space at408 ++ cells_tile 0 ++ directory 47 0 0 0
