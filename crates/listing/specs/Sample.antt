-- Document 01's examples, byte by byte.
use Rattle.std.specs.Prelude.{ℕ, ◌≤◌, ◌<◌, ◌≡◌, List, [], ◌∷◌, ◌++◌, length, Err}
use Rattle.answer.specs.declared.Refusal.TheVariants.{Version}
use Rattle.page_check.specs.Stages.{check}
use Rattle.sample_page.specs.Page.{file}
use Rattle.listing.specs.Listing.{listing, most_listed}

-- `grid 3 3`, `tile 2 2`, `elements 1`, `written 1 of 4`, `2`
abbrev pub page_text : List ℕ
page_text =
    (103 ∷ 114 ∷ 105 ∷ 100 ∷ 32 ∷ 51 ∷ 32 ∷ 51 ∷ 10 ∷ [])
    ++ (116 ∷ 105 ∷ 108 ∷ 101 ∷ 32 ∷ 50 ∷ 32 ∷ 50 ∷ 10 ∷ [])
    ++ (101 ∷ 108 ∷ 101 ∷ 109 ∷ 101 ∷ 110 ∷ 116 ∷ 115 ∷ 32 ∷ 49 ∷ 10 ∷ [])
    ++ (119 ∷ 114 ∷ 105 ∷ 116 ∷ 116 ∷ 101 ∷ 110 ∷ 32 ∷ 49 ∷ 32 ∷ 111 ∷ 102 ∷ 32 ∷ 52 ∷ 10 ∷ [])
    ++ (50 ∷ 10 ∷ [])

-- `refused 2 at 0`
abbrev pub version_text : List ℕ
version_text = 114 ∷ 101 ∷ 102 ∷ 117 ∷ 115 ∷ 101 ∷ 100 ∷ 32 ∷ 50 ∷ 32 ∷ 97 ∷ 116 ∷ 32 ∷ 48 ∷ 10 ∷ []

-- `too long`
abbrev pub long_text : List ℕ
long_text = 116 ∷ 111 ∷ 111 ∷ 32 ∷ 108 ∷ 111 ∷ 110 ∷ 103 ∷ 10 ∷ []

pub record SampleListed : Type 0 where
  -- the sample page, a 3 by 3 grid with 2 by 2 tiles, one element, tile 2 alone stored
  pub page : listing file ≡ page_text
  -- any file with a wrong version, and any that is too long
  pub version : (s : List ℕ) → length s ≤ most_listed → check s ≡ Err Version → listing s ≡ version_text
  pub long : (s : List ℕ) → most_listed < length s → listing s ≡ long_text
