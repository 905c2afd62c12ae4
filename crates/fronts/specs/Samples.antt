-- The front of document 01's page of the listing: a grid of 3 by 3 cells, tiles of 2 by 2, checksums on, one Short named `z` whose fill is
-- 7, no UUID. Made from its description it has 336 bytes.
use Rattle.std.specs.Prelude.{ℕ, ◌≡◌, List, [], ◌∷◌, ◌++◌, replicate, Err, Ok}
use Rattle.answer.specs.declared.Refusal.TheVariants.{Header, Input, Room}
use Rattle.fronts.specs.Front.{front_of}
use Rattle.fronts.specs.Given.{described_by, front_made}

abbrev none : ℕ → List ℕ
none n = replicate n 0

abbrev numbers : List ℕ
numbers = 3 ∷ 3 ∷ 2 ∷ 2 ∷ 1 ∷ 0 ∷ []

abbrev elements : List ℕ
elements = 3 ∷ 0 ∷ 1 ∷ 0 ∷ 0 ∷ 0 ∷ 0 ∷ 0 ∷ 7 ∷ 0 ∷ 0 ∷ 0 ∷ 0 ∷ 0 ∷ []

abbrev bytes : List ℕ
bytes =
    (103 ∷ 118 ∷ 114 ∷ 115 ∷ 32 ∷ 114 ∷ 97 ∷ 115 ∷ 116 ∷ 101 ∷ 114 ∷ 0 ∷ 1 ∷ 4 ∷ 0 ∷ 0 ∷ [])
    ++ (64 ∷ 1 ∷ 0 ∷ 0 ∷ 6 ∷ 0 ∷ 0 ∷ 0 ∷ []) ++ none 80
    ++ (3 ∷ 0 ∷ 0 ∷ 0 ∷ 3 ∷ 0 ∷ 0 ∷ 0 ∷ 2 ∷ 0 ∷ 0 ∷ 0 ∷ 2 ∷ 0 ∷ 0 ∷ 0 ∷ []) ++ none 8 ++ (1 ∷ []) ++ none 151
    ++ (1 ∷ 0 ∷ 0 ∷ 0 ∷ []) ++ (3 ∷ []) ++ none 7 ++ (1 ∷ 0 ∷ 122 ∷ []) ++ none 8 ++ (7 ∷ 0 ∷ []) ++ none 27
    ++ (65 ∷ 25 ∷ 203 ∷ 50 ∷ [])

pub record SampleFront : Type 0 where
  pub is : front_of (described_by numbers (none 16) elements (122 ∷ [])) ≡ bytes
  pub made : front_made numbers (none 16) elements (122 ∷ []) 336 ≡ Ok 336
  pub short : front_made numbers (none 16) elements (122 ∷ []) 335 ≡ Err Room
  pub unsaid : front_made numbers (none 16) elements [] 336 ≡ Err Input
  pub unnamed : front_made numbers (none 16) elements (95 ∷ []) 336 ≡ Err Header
