-- Req 11, byte by byte: an open page squeezed by three plans, and one with metadata.
use Rattle.std.specs.Prelude.{ℕ, ◌≡◌, List, [], ◌∷◌, ◌++◌, Err, Ok}
use Rattle.wire.specs.Bytes.{put}
use Rattle.answer.specs.declared.Refusal.TheVariants.{Input}
use Rattle.correct.specs.Plan.{tight_plan}
use Rattle.correct.specs.Squeezing.{squeezed_page}
use Rattle.correct.specs.Calls.{Call}
use Rattle.corrected.specs.Refusals.{answer_in}
use Rattle.small_pages.specs.Pages.{none, eight, plain_front, front_with, no_space, at496, at520, free, tile, junk_padded, packed_tile, directory, open_page}
use Rattle.check_samples.specs.Rows.{metadata, metadata_directory}

-- directories with something in their reserved bytes and in their padding, which stays
abbrev pub worn_metadata : ℕ → ℕ → List ℕ
worn_metadata low high = put (put (metadata_directory low high 2) 5 (88 ∷ [])) 37 (77 ∷ [])

abbrev pub worn_directory : ℕ → List ℕ
worn_directory p = put (put (directory p 0 0 0) 6 (66 ∷ [])) 50 (55 ∷ [])

-- an open page with a metadata record: what stands before tile 0, the references to both directories, and what stands in these
abbrev pub metadata_page : List ℕ → List ℕ → List ℕ → List ℕ → List ℕ → List ℕ
metadata_page first a b m d =
    front_with a 5 9 no_space b ++ first ++ tile 0 (28 ∷ 37 ∷ []) (none 2) (19 ∷ 20 ∷ 21 ∷ 22 ∷ []) ++ metadata 2 ++ m ++ d

pub record SqueezedSo : Type 0 where
  -- the kept records stand at 392, 456 and 512; the page's free records, one with something left in it, and the one at its end go
  pub tight_is : tight_plan open_page ≡ 368 ∷ 400 ∷ 432 ∷ []
  pub tight : squeezed_page open_page (368 ∷ 400 ∷ 432 ∷ []) ≡ plain_front 5 9 no_space (eight 184 1) ++ junk_padded ++ packed_tile ++ directory 47 51 0 0
  pub gaps :
      squeezed_page open_page (384 ∷ 416 ∷ 464 ∷ [])
      ≡ plain_front 5 9 no_space (eight 216 1) ++ free 16 ++ junk_padded ++ packed_tile ++ free 16 ++ directory 49 53 0 0
  -- where nothing moves the gaps are zeroed, and the free record at the end is dropped
  pub stays :
      squeezed_page open_page (392 ∷ 456 ∷ 512 ∷ [])
      ≡ plain_front 5 9 no_space at520 ++ free 24 ++ junk_padded ++ free 32 ++ packed_tile ++ free 24 ++ directory 50 58 0 0
  pub answers : answer_in (Call.Squeezing (368 ∷ 400 ∷ 432 ∷ [])) open_page 632 ≡ Ok 488
  pub too_few : answer_in (Call.Squeezing (368 ∷ 400 ∷ [])) open_page 632 ≡ Err Input
  pub too_many : answer_in (Call.Squeezing (368 ∷ 400 ∷ 432 ∷ 488 ∷ [])) open_page 632 ≡ Err Input
  pub up : answer_in (Call.Squeezing (368 ∷ 400 ∷ 520 ∷ [])) open_page 632 ≡ Err Input
  -- entries keep their order, and what no field is for stays
  pub with_metadata :
      squeezed_page (metadata_page (free 16) (eight 208 1) (eight 0 2) (worn_metadata 168 1) (worn_directory 49)) (368 ∷ 400 ∷ 440 ∷ 488 ∷ [])
      ≡ metadata_page [] (eight 192 1) at496 (worn_metadata 152 1) (worn_directory 47)
