-- Document 01, 'Sample sums, both sides': those marked P, as one table: each sum and what it has to give.
use Rattle.std.specs.Prelude.{ℕ, ◌≡◌, List, [], ◌∷◌, map}
use Rattle.geometry.specs.declared.Packing.{Packing}
use Rattle.geometry.specs.declared.Packing.TheVariants.{Uncompressed, Compressed, Fault}
use Rattle.geometry.specs.Tiles.{tiles_in, tile_in, inside_of}
use Rattle.geometry.specs.Sizes.{uncompressed, packing_of, cell_offset, tile_length}

-- a number, or what a length is
pub data Sum : Type 0 where
  gives : ℕ → Sum
  is : Packing → Sum

-- the cell (r, c) of a grid 5 by 7 with tiles 2 by 3: its tile and its number inside
abbrev pub tile57 : ℕ → ℕ → Sum
tile57 r c = gives (tile_in 7 2 3 r c)

abbrev pub inside57 : ℕ → ℕ → Sum
inside57 r c = gives (inside_of 2 3 r c)

-- the length of a tile record of n uncompressed Shorts and tiles of h by w
abbrev pub short_record : ℕ → ℕ → ℕ → Sum
short_record n h w = gives (tile_length n (λ e. uncompressed h w 3))

pub record Row : Type 0 where
  pub sum : Sum
  pub wanted : Sum

abbrev pub row : Sum → Sum → Row
row a b = record { sum = a; wanted = b }

abbrev pub samples : List Row
samples =
    row (gives (tiles_in 5 7 2 3)) (gives 9)
    ∷ row (tile57 4 6) (gives 8)
    ∷ row (inside57 4 6) (gives 0)
    ∷ row (tile57 3 5) (gives 4)
    ∷ row (inside57 3 5) (gives 5)
    ∷ row (gives (cell_offset 3 (inside_of 2 3 3 5))) (gives 10)
    ∷ row (short_record 1 2 2) (gives 32)
    ∷ row (short_record 1 1 1) (gives 24)
    ∷ row (short_record 2 3 3) (gives 64)
    ∷ row (is (packing_of 18 18)) (is Uncompressed)
    ∷ row (is (packing_of 17 18)) (is Compressed)
    ∷ row (is (packing_of 1 18)) (is Compressed)
    ∷ row (is (packing_of 0 18)) (is Fault)
    ∷ row (is (packing_of 19 18)) (is Fault)
    ∷ []

-- every sum gives what it has to
abbrev pub SamplesHold : Type 0
SamplesHold = map (λ (r : Row). r.sum) samples ≡ map (λ (r : Row). r.wanted) samples
