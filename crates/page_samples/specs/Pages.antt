-- Pages that samples of what a page says are computed on, byte by byte.
use Rattle.std.specs.Prelude.{ℕ, List, [], ◌∷◌, ◌++◌}
use Rattle.wire.specs.Bytes.{put}
use Rattle.small_pages.specs.Pages.{none, eight, plain_front, no_space, tile}

-- one row and twelve columns, tiles of one cell; the records of tiles 11, 2 and 10 at 368, 400 and 432, the tile directory at 464
abbrev stored : ℕ → List ℕ
stored i = tile i (1 ∷ 0 ∷ []) (none 2) (2 ∷ 0 ∷ 0 ∷ 0 ∷ [])

abbrev pub order : List ℕ
order =
    put (plain_front 5 0 no_space (eight 216 1)) 108 (12 ∷ []) ++ stored 11 ++ stored 2 ++ stored 10
    ++ (88 ∷ 0 ∷ 0 ∷ 0 ∷ 5 ∷ 0 ∷ 0 ∷ 0 ∷ []) ++ none 16 ++ (1 ∷ 0 ∷ 0 ∷ 0 ∷ 12 ∷ 0 ∷ 0 ∷ 0 ∷ []) ++ none 8 ++ (51 ∷ []) ++ none 31 ++ (55 ∷ 0 ∷ 0 ∷ 0 ∷ 47 ∷ []) ++ none 11

-- one cell, an integer-coded element `c` whose fill has the bytes 5, 6, 7, 8, and a Float `f` whose fill is a NaN; no tile is stored
abbrev pub coded : List ℕ
coded =
    (103 ∷ 118 ∷ 114 ∷ 115 ∷ 32 ∷ 114 ∷ 97 ∷ 115 ∷ 116 ∷ 101 ∷ 114 ∷ 0 ∷ 1 ∷ 4 ∷ 0 ∷ 0 ∷ 120 ∷ 1 ∷ 0 ∷ 0 ∷ 6 ∷ []) ++ none 19 ++ (5 ∷ [])
    ++ none 39 ++ (144 ∷ 1 ∷ []) ++ none 22 ++ (1 ∷ 0 ∷ 0 ∷ 0 ∷ 1 ∷ 0 ∷ 0 ∷ 0 ∷ 1 ∷ 0 ∷ 0 ∷ 0 ∷ 1 ∷ []) ++ none 163
    ++ (2 ∷ 0 ∷ 0 ∷ 0 ∷ 1 ∷ []) ++ none 7 ++ (1 ∷ 0 ∷ 99 ∷ []) ++ none 28 ++ (5 ∷ 6 ∷ 7 ∷ 8 ∷ []) ++ none 9 ++ (2 ∷ []) ++ none 7
    ++ (1 ∷ 0 ∷ 102 ∷ []) ++ none 8 ++ (1 ∷ 0 ∷ 192 ∷ 127 ∷ []) ++ none 33 ++ (40 ∷ 0 ∷ 0 ∷ 0 ∷ 5 ∷ []) ++ none 19
    ++ (1 ∷ 0 ∷ 0 ∷ 0 ∷ 1 ∷ []) ++ none 11
