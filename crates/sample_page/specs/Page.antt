-- One page, byte by byte, as the tables print it: document 01's page of the listing, a 3 by 3 grid with 2 by 2 tiles and
-- one element, tile 2 alone stored. The element is a Short named `z` whose fill is 7; checksums are on.
use Rattle.std.specs.Prelude.{ℕ, List, [], ◌∷◌, ◌++◌, replicate}

abbrev none : ℕ → List ℕ
none n = replicate n 0

-- `gvrs raster`, a zero byte, version 1.4; the header record of 320 bytes, type 6
abbrev block : List ℕ
block =
    (103 ∷ 118 ∷ 114 ∷ 115 ∷ 32 ∷ 114 ∷ 97 ∷ 115 ∷ 116 ∷ 101 ∷ 114 ∷ 0 ∷ 1 ∷ 4 ∷ 0 ∷ 0 ∷ [])
    ++ (64 ∷ 1 ∷ 0 ∷ 0 ∷ 6 ∷ 0 ∷ 0 ∷ 0 ∷ [])

-- from offset 88 on: the grid, the tiles, checksums on, one element: its type, its name, its range and fill; then no method, and an
-- empty label
abbrev fields : List ℕ
fields =
    (3 ∷ 0 ∷ 0 ∷ 0 ∷ 3 ∷ 0 ∷ 0 ∷ 0 ∷ 2 ∷ 0 ∷ 0 ∷ 0 ∷ 2 ∷ 0 ∷ 0 ∷ 0 ∷ []) ++ none 8 ++ (1 ∷ []) ++ none 151
    ++ (1 ∷ 0 ∷ 0 ∷ 0 ∷ []) ++ (3 ∷ []) ++ none 7 ++ (1 ∷ 0 ∷ 122 ∷ []) ++ none 8 ++ (7 ∷ 0 ∷ []) ++ none 27

-- a front: no UUID, time modified 5, opened 9, a tile directory reference 77, and no checksum
abbrev pub front : List ℕ
front =
    block ++ none 16 ++ (5 ∷ []) ++ none 7 ++ (9 ∷ []) ++ none 7 ++ none 24 ++ (77 ∷ []) ++ none 7 ++ none 16 ++ fields ++ none 4

-- the cells of tile 2: 11, 12, 13, 14
abbrev pub cells : List ℕ
cells = 11 ∷ 0 ∷ 12 ∷ 0 ∷ 13 ∷ 0 ∷ 14 ∷ 0 ∷ []

-- the file: time modified 1, not opened, the directory's content at 376, and the header's checksum
abbrev laid_header : List ℕ
laid_header =
    block ++ none 16 ++ (1 ∷ []) ++ none 7 ++ none 32 ++ (120 ∷ 1 ∷ []) ++ none 6 ++ none 16 ++ fields ++ (122 ∷ 54 ∷ 119 ∷ 160 ∷ [])

-- the tile record at 336, of 32 bytes: index 2, length 8, the cells, padding, checksum
abbrev tile : List ℕ
tile =
    (32 ∷ 0 ∷ 0 ∷ 0 ∷ 2 ∷ 0 ∷ 0 ∷ 0 ∷ 2 ∷ 0 ∷ 0 ∷ 0 ∷ 8 ∷ 0 ∷ 0 ∷ 0 ∷ []) ++ cells ++ none 4 ++ (30 ∷ 103 ∷ 61 ∷ 241 ∷ [])

-- the tile directory at 368, of 56 bytes: two by two tiles from 0 and 0 on; tile 2's content at 43 times 8, 344; padding, checksum
abbrev directory : List ℕ
directory =
    (56 ∷ 0 ∷ 0 ∷ 0 ∷ 5 ∷ 0 ∷ 0 ∷ 0 ∷ []) ++ none 16 ++ (2 ∷ 0 ∷ 0 ∷ 0 ∷ 2 ∷ 0 ∷ 0 ∷ 0 ∷ [])
    ++ none 8 ++ (43 ∷ 0 ∷ 0 ∷ 0 ∷ []) ++ none 4 ++ none 4 ++ (150 ∷ 82 ∷ 42 ∷ 79 ∷ [])

abbrev pub file : List ℕ
file = laid_header ++ tile ++ directory
