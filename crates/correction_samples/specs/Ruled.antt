-- Req 08, and Req 03 beside it: a file with two metadata records, and what it says. `score_rule` with ID 2 stands at 456, `Score_rule`
-- with ID 3 at 496, their directory at 536; tile 0 stands at 368, the tile directory at 400.
use Rattle.std.specs.Prelude.{ℕ, ◌≡◌, true, List, [], ◌∷◌, ◌++◌, Ok}
use Rattle.page_check.specs.Stages.{check}
use Rattle.writable.specs.Writable.{open_for_writing}
use Rattle.correct.specs.Opening.{opened_page}
use Rattle.correct.specs.Removing.{removed_page}
use Rattle.store.specs.Named.{ids_named}
use Rattle.score_rule.specs.declared.Said.TheVariants.{Second}
use Rattle.score_rule.specs.Rules.{score_rule, page_says}
use Rattle.small_pages.specs.Pages.{none, eight, front_with, no_space, at408, free, directory, cells_tile}

-- `score_rule` or `Score_rule`, by its first letter
abbrev pub rule_name : ℕ → List ℕ
rule_name letter = letter ∷ 99 ∷ 111 ∷ 114 ∷ 101 ∷ 95 ∷ 114 ∷ 117 ∷ 108 ∷ 101 ∷ []

-- name, record ID, data type 0
abbrev rule_key : ℕ → ℕ → List ℕ
rule_key letter id = (10 ∷ 0 ∷ []) ++ rule_name letter ++ (id ∷ 0 ∷ 0 ∷ 0 ∷ 0 ∷ [])

-- a metadata record of 40 bytes with a content of one byte, and no description
abbrev rule_record : ℕ → ℕ → List ℕ
rule_record letter id = (40 ∷ 0 ∷ 0 ∷ 0 ∷ 1 ∷ 0 ∷ 0 ∷ 0 ∷ []) ++ rule_key letter id ++ (1 ∷ 0 ∷ 0 ∷ 0 ∷ 77 ∷ []) ++ none 10

-- the records, and the metadata directory of 72 bytes, whose content starts at 544: the records' contents start at 464 and 504
abbrev metadata : List ℕ
metadata =
    rule_record 115 2 ++ rule_record 83 3 ++ (72 ∷ 0 ∷ 0 ∷ 0 ∷ 4 ∷ 0 ∷ 0 ∷ 0 ∷ 2 ∷ 0 ∷ 0 ∷ 0 ∷ [])
    ++ eight 208 1 ++ rule_key 115 2 ++ eight 248 1 ++ rule_key 83 3 ++ none 10

abbrev pub ruled_file : List ℕ
ruled_file = front_with (eight 32 2) 5 0 no_space at408 ++ cells_tile 0 ++ directory 47 0 0 0 ++ metadata

pub record RuledSo : Type 0 where
  pub accepted : check ruled_file ≡ Ok tt
  pub ids : ids_named ruled_file score_rule ≡ 2 ∷ []
  pub other_case : ids_named ruled_file (rule_name 83) ≡ 3 ∷ []
  pub says : page_says ruled_file ≡ Second
  -- opened, and tile 0 removed: the metadata stays, byte for byte
  pub kept :
      removed_page (opened_page ruled_file 9) 0 ≡ front_with (eight 32 2) 5 9 no_space at408 ++ free 32 ++ directory 0 0 0 0 ++ metadata
  pub kept_open : open_for_writing (removed_page (opened_page ruled_file 9) 0) ≡ true
