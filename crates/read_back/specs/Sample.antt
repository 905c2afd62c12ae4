-- The sample page is what a lay-down of its front and cells gives.
use Rattle.std.specs.Prelude.{◌≡◌, [], ◌∷◌, Ok}
use Rattle.lay_down.specs.Page.{laid_file}
use Rattle.lay_down.specs.Answer.{laid}
use Rattle.sample_page.specs.Page.{front, cells, file}

-- it is laid down into a buffer of 424 bytes, and is that file
pub record SampleLaid : Type 0 where
  pub answer : laid front 1 (2 ∷ []) cells 424 ≡ Ok 424
  pub bytes : laid_file front 1 (2 ∷ []) cells ≡ file
