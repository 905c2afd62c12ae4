-- One page, byte by byte, as the tables print it: a grid of 2 by 16 cells with 2 by 4 tiles and two elements, a Short named `z` whose
-- fill is 7 and a Float named `f`. Checksums are off. Tiles 0 to 2 are there, tile 3 is absent.
use Rattle.std.specs.Prelude.{ℕ, List, [], ◌∷◌, ◌++◌, replicate}
use Rattle.huffman.specs.Samples.{one}

abbrev none : ℕ → List ℕ
none n = replicate n 0

-- `gvrs raster`, a zero byte, version 1.4; the header record of 352 bytes, type 6
abbrev block : List ℕ
block =
    (103 ∷ 118 ∷ 114 ∷ 115 ∷ 32 ∷ 114 ∷ 97 ∷ 115 ∷ 116 ∷ 101 ∷ 114 ∷ 0 ∷ 1 ∷ 4 ∷ 0 ∷ 0 ∷ [])
    ++ (96 ∷ 1 ∷ 0 ∷ 0 ∷ 6 ∷ 0 ∷ 0 ∷ 0 ∷ [])

-- at 284 and 316: type, name, and in the range block the fill
abbrev elements : List ℕ
elements =
    (3 ∷ []) ++ none 7 ++ (1 ∷ 0 ∷ 122 ∷ []) ++ none 8 ++ (7 ∷ 0 ∷ []) ++ none 11
    ++ (2 ∷ []) ++ none 7 ++ (1 ∷ 0 ∷ 102 ∷ []) ++ none 21

-- time modified 1, not opened; the tile directory's content at 552; the grid, the tiles, two elements; no method, and an empty label
abbrev header : List ℕ
header =
    block ++ none 16 ++ (1 ∷ []) ++ none 7 ++ none 32 ++ (40 ∷ 2 ∷ []) ++ none 6 ++ none 16
    ++ (2 ∷ 0 ∷ 0 ∷ 0 ∷ 16 ∷ 0 ∷ 0 ∷ 0 ∷ 2 ∷ 0 ∷ 0 ∷ 0 ∷ 4 ∷ 0 ∷ 0 ∷ 0 ∷ []) ++ none 160
    ++ (2 ∷ 0 ∷ 0 ∷ 0 ∷ []) ++ elements ++ none 20

-- `one` holds the Shorts 3, 2, 1, 0, 2, 1, 0, -1 (`unpack`'s samples); its compressor index, the first byte, is 7. The same by another index,
-- and with a predictor that there is not, so malformed
abbrev pub other_index : List ℕ
other_index = 9 ∷ 0 ∷ 3 ∷ 0 ∷ 0 ∷ 0 ∷ 7 ∷ 0 ∷ 0 ∷ 0 ∷ 0 ∷ 255 ∷ 1 ∷ []

abbrev pub no_predictor : List ℕ
no_predictor = 7 ∷ 3 ∷ 3 ∷ 0 ∷ 0 ∷ 0 ∷ 7 ∷ 0 ∷ 0 ∷ 0 ∷ 0 ∷ 255 ∷ 1 ∷ []

-- an element's section of 13 bytes, with 3 that bring it to a multiple of 4
abbrev section : List ℕ → List ℕ
section c = (13 ∷ 0 ∷ 0 ∷ 0 ∷ []) ++ c ++ none 3

-- tile 0 at 368, of 56 bytes: both elements compressed, of index 7, the Float too
abbrev tile0 : List ℕ
tile0 = (56 ∷ 0 ∷ 0 ∷ 0 ∷ 2 ∷ 0 ∷ 0 ∷ 0 ∷ 0 ∷ 0 ∷ 0 ∷ 0 ∷ []) ++ section one ++ section one ++ none 4

-- tile 1 at 424, of 72 bytes: the Short compressed, of index 9; the Float stored, its second cell with the bits 3
abbrev tile1 : List ℕ
tile1 =
    (72 ∷ 0 ∷ 0 ∷ 0 ∷ 2 ∷ 0 ∷ 0 ∷ 0 ∷ 1 ∷ 0 ∷ 0 ∷ 0 ∷ []) ++ section other_index
    ++ (32 ∷ 0 ∷ 0 ∷ 0 ∷ []) ++ none 4 ++ (3 ∷ []) ++ none 27 ++ none 4

-- tile 2 at 496, of 48 bytes: the Short malformed, of index 7; the Float compressed to one byte
abbrev tile2 : List ℕ
tile2 =
    (48 ∷ 0 ∷ 0 ∷ 0 ∷ 2 ∷ 0 ∷ 0 ∷ 0 ∷ 2 ∷ 0 ∷ 0 ∷ 0 ∷ []) ++ section no_predictor
    ++ (1 ∷ 0 ∷ 0 ∷ 0 ∷ 7 ∷ 0 ∷ 0 ∷ 0 ∷ []) ++ none 8

-- the tile directory at 544, of 56 bytes: one row of four tiles; the contents at 47, 54 and 63 times 8
abbrev directory : List ℕ
directory =
    (56 ∷ 0 ∷ 0 ∷ 0 ∷ 5 ∷ 0 ∷ 0 ∷ 0 ∷ []) ++ none 16 ++ (1 ∷ 0 ∷ 0 ∷ 0 ∷ 4 ∷ 0 ∷ 0 ∷ 0 ∷ [])
    ++ (47 ∷ 0 ∷ 0 ∷ 0 ∷ 54 ∷ 0 ∷ 0 ∷ 0 ∷ 63 ∷ 0 ∷ 0 ∷ 0 ∷ []) ++ none 12

abbrev pub packed_file : List ℕ
packed_file = header ++ tile0 ++ tile1 ++ tile2 ++ directory
