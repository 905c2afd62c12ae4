-- Samples on whole files, those of `correction_samples`: a deed by the second rule, two pages compared, the cells of a rectangle.
use Rattle.std.specs.Prelude.{◌≡◌, [], ◌∷◌, pos, Ok, Some, Err}
use Rattle.answer.specs.declared.Refusal.TheVariants.{Opened, OutsideGrid, Input}
use Rattle.answer.specs.Answers.{cell_kind, cell_bits}
use Rattle.deeds.specs.declared.Grade.TheVariants.{Doubtful, Unread}
use Rattle.deeds.specs.Deeds.{second_rule, Graded}
use Rattle.deeds.specs.Deeds as deeds
use Rattle.comparisons.specs.declared.Comparison.TheVariants as comparison
use Rattle.comparisons.specs.Comparisons as comparisons
use Rattle.rectangles.specs.Rectangles as rectangles
use Rattle.sample_page.specs.Page.{file}
use Rattle.small_pages.specs.Pages.{full_file, full_page}
use Rattle.correction_samples.specs.Whole.{corrected_file}
use Rattle.correction_samples.specs.Ruled.{ruled_file}

pub record ProductsSo : Type 0 where
  -- tile 0 has a score of 4,625, the others are fills; the page says the second rule. The second element is an Integer; a fifth column is
  -- outside
  pub doubtful : deeds.deed ruled_file 0 0 0 0 1 1 ≡ Graded second_rule Doubtful 0 (Some (pos 4625))
  pub unread : deeds.deed ruled_file 0 0 0 0 1 4 ≡ Graded second_rule Unread 3 (Some (pos 4625))
  pub no_short : deeds.deed ruled_file 0 1 0 0 1 4 ≡ Err Input
  pub outside : deeds.deed ruled_file 0 1 0 0 1 5 ≡ Err OutsideGrid
  -- a file against itself corrected: two cells of two elements, and the earliest two entries, five numbers each; an open page; another
  -- grid
  pub compared : comparisons.comparison full_file 0 corrected_file 0 ≡ comparison.Count 4
  pub listed :
      comparisons.written full_file 0 corrected_file 0 14 (comparison.Count 4) ≡ 0 ∷ 0 ∷ 0 ∷ 0 ∷ 0 ∷ 0 ∷ 0 ∷ 1 ∷ 0 ∷ 0 ∷ []
  pub refused : comparisons.comparison full_file 0 full_page 0 ≡ comparison.Second Opened
  pub unlike : comparisons.comparison full_file 0 file 0 ≡ comparison.Unlike
  -- a row of four cells: one stored, three fills
  pub cells : rectangles.cells_given full_file 0 0 0 1 4 4 4 ≡ Ok 4
  pub kinds : rectangles.written cell_kind full_file 0 0 0 0 1 4 (Ok 4) ≡ 32 ∷ 33 ∷ 33 ∷ 33 ∷ []
  pub bits : rectangles.written cell_bits full_file 0 0 0 0 1 4 (Ok 4) ≡ 4625 ∷ 7 ∷ 7 ∷ 7 ∷ []
