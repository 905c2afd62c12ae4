-- The sample page from nothing: a grid of 3 by 3 cells, tiles of 2 by 2, checksums on, one Short named `z` whose fill is 7, no UUID; then
-- tile 2 laid down at the time 1.
use Rattle.std.specs.Prelude.{◌≡◌, [], ◌∷◌, replicate}
use Rattle.fronts.specs.Front.{front_of}
use Rattle.fronts.specs.Given.{described_by}
use Rattle.lay_down.specs.Page.{laid_file}
use Rattle.sample_page.specs.Page.{cells, file}

pub record SampleMade : Type 0 where
  pub bytes :
      laid_file
      (front_of
      (described_by (3 ∷ 3 ∷ 2 ∷ 2 ∷ 1 ∷ 0 ∷ []) (replicate 16 0) (3 ∷ 0 ∷ 1 ∷ 0 ∷ 0 ∷ 0 ∷ 0 ∷ 0 ∷ 7 ∷ 0 ∷ 0 ∷ 0 ∷ 0 ∷ 0 ∷ []) (122 ∷ [])))
      1 (2 ∷ []) cells
      ≡ file
