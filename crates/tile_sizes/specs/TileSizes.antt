-- Document 01, 'Laying down a page', and Req 03: the sizes that a tile record is written by.
use Rattle.std.specs.Prelude.{ℕ, zero, suc, List, [], ◌∷◌, ◌++◌, Bool}
use Rattle.wire.specs.Pick.{pick}
use Rattle.wire.specs.Tests.{◌≤?◌, passes}
use Rattle.wire.specs.Bytes.{put}
use Rattle.header.specs.Element.{entries_read}
use Rattle.geometry.specs.Sizes.{element_bytes, tile_bytes, plain_tile_length}
use Rattle.check_header.specs.Ceilings.{most_tile_bytes}

-- one tile keeps the ceiling on its bytes, as stage 4 wants
unfoldable pub tile_small : List ℕ → Bool
tile_small s = passes ((tile_bytes s ≤? most_tile_bytes) ∷ [])

-- the length of a tile record whose elements are all uncompressed; 0 where the tile passes the ceiling
unfoldable pub length_of_tile : List ℕ → ℕ
length_of_tile s = pick (tile_small s) (plain_tile_length s) 0

-- the uncompressed bytes of the first n elements
unfoldable pub sizes_of : List ℕ → ℕ → List ℕ
sizes_of s zero = []
sizes_of s (suc n) = sizes_of s n ++ (element_bytes s n ∷ [])

-- the numbers us with those of all elements in their first places; as they are where the tile passes the ceiling
unfoldable pub with_sizes : List ℕ → List ℕ → List ℕ
with_sizes s us = pick (tile_small s) (put us 0 (sizes_of s (entries_read s))) us
