-- Document 01, the check: a file of 544 bytes with metadata, and files that differ from it in a byte or two. Of each the number and the place that the
-- check answers.
use Rattle.std.specs.Prelude.{ℕ, ◌≡◌, List, [], ◌∷◌, ◌++◌, map, take}
use Rattle.wire.specs.Bytes.{bytes_of, put}
use Rattle.answer.specs.Refusals.{verdict_number, verdict_place}
use Rattle.check_header.specs.Stages.{check_header}
use Rattle.page_check.specs.Stages.{check, check_to_bodies, check_from_records}
use Rattle.sample_page.specs.Page.{file}
use Rattle.small_pages.specs.Pages.{none, eight, front_with, no_space, at496, free, tile, directory}

-- `score_rule` and a record ID, data type 0
abbrev key : ℕ → List ℕ
key i = (10 ∷ 0 ∷ 115 ∷ 99 ∷ 111 ∷ 114 ∷ 101 ∷ 95 ∷ 114 ∷ 117 ∷ 108 ∷ 101 ∷ i ∷ 0 ∷ 0 ∷ 0 ∷ 0 ∷ [])

-- a metadata record of 40 bytes without content or description, and a directory of 48 bytes with one entry, its content's position by two bytes
abbrev pub metadata : ℕ → List ℕ
metadata i = (40 ∷ 0 ∷ 0 ∷ 0 ∷ 1 ∷ 0 ∷ 0 ∷ 0 ∷ []) ++ key i ++ none 15

abbrev pub metadata_directory : ℕ → ℕ → ℕ → List ℕ
metadata_directory low high i = (48 ∷ 0 ∷ 0 ∷ 0 ∷ 4 ∷ 0 ∷ 0 ∷ 0 ∷ 1 ∷ 0 ∷ 0 ∷ 0 ∷ []) ++ eight low high ++ key i ++ none 11

-- tile 0 at 368, `score_rule` with ID 2 at 400, the metadata directory at 440, the tile directory at 488
abbrev pub ruled : List ℕ
ruled =
    front_with (eight 192 1) 5 0 no_space at496 ++ tile 0 (28 ∷ 37 ∷ []) (none 2) (19 ∷ 20 ∷ 21 ∷ 22 ∷ []) ++ metadata 2
    ++ metadata_directory 152 1 2 ++ directory 47 0 0 0

pub record Judged : Type 0 where
  pub file : List ℕ
  pub answer : ℕ
  pub place : ℕ

abbrev pub judged : List ℕ → ℕ → ℕ → Judged
judged s n p = record { file = s; answer = n; place = p }

-- as it is; version 1.4 is wanted, and stage 1 comes before stage 2, which comes before stage 3
abbrev pub block_rows : List Judged
block_rows =
    judged ruled 0 0
    ∷ judged (put ruled 12 (2 ∷ [])) 2 0
    ∷ judged (put ruled 13 (3 ∷ [])) 2 0
    ∷ judged (put (put ruled 0 (1 ∷ [])) 13 (3 ∷ [])) 1 0
    ∷ judged (put (put ruled 13 (3 ∷ [])) 129 (3 ∷ [])) 2 0
    ∷ []

-- stage 3: options, sides, elements, names, texts, padding
abbrev pub header_rows : List Judged
header_rows =
    judged (put ruled 128 (2 ∷ [])) 3 0
    ∷ judged (put ruled 129 (2 ∷ [])) 0 0
    ∷ judged (put ruled 129 (3 ∷ [])) 3 0
    ∷ judged (put ruled 130 (2 ∷ [])) 0 0
    ∷ judged (put ruled 130 (3 ∷ [])) 3 0
    ∷ judged (put ruled 104 (0 ∷ [])) 3 0
    ∷ judged (put ruled 107 (128 ∷ [])) 3 0
    ∷ judged (put ruled 116 (0 ∷ [])) 3 0
    ∷ judged (put ruled 280 (0 ∷ [])) 3 0
    ∷ judged (put ruled 283 (128 ∷ [])) 3 0
    ∷ judged (put ruled 284 (4 ∷ [])) 3 0
    ∷ judged (put ruled 294 (95 ∷ [])) 3 0
    ∷ judged (put ruled 294 (98 ∷ [])) 3 0
    ∷ judged (put ruled 294 (91 ∷ [])) 3 0
    ∷ judged (put ruled 294 (123 ∷ [])) 3 0
    ∷ judged (put ruled 308 (1 ∷ 0 ∷ 65 ∷ [])) 0 0
    ∷ judged (put ruled 308 (1 ∷ 0 ∷ 255 ∷ [])) 3 0
    ∷ judged (put ruled 310 (1 ∷ 0 ∷ 65 ∷ [])) 0 0
    ∷ judged (put ruled 310 (1 ∷ 0 ∷ 255 ∷ [])) 3 0
    ∷ judged (put ruled 312 (1 ∷ 0 ∷ 65 ∷ [])) 0 0
    ∷ judged (put ruled 312 (1 ∷ 0 ∷ 255 ∷ [])) 3 0
    ∷ judged (put ruled 352 (1 ∷ 0 ∷ 65 ∷ [])) 0 0
    ∷ judged (put ruled 352 (1 ∷ 0 ∷ 255 ∷ [])) 3 0
    ∷ judged (put ruled 351 (128 ∷ [])) 3 0
    ∷ []

-- stage 5, also where stage 6 would refuse
abbrev pub opened_rows : List Judged
opened_rows =
    judged (put ruled 48 (1 ∷ [])) 5 0
    ∷ judged (put (put ruled 48 (1 ∷ [])) 368 (20 ∷ [])) 5 0
    ∷ []

-- stage 6: the chain, at the record's start
abbrev pub chain_rows : List Judged
chain_rows =
    judged (put ruled 368 (20 ∷ [])) 6 368
    ∷ judged (put ruled 368 (8 ∷ [])) 6 368
    ∷ judged (put ruled 368 (16 ∷ [])) 6 384
    ∷ judged (put ruled 372 (6 ∷ [])) 6 368
    ∷ judged (put ruled 488 (64 ∷ [])) 6 488
    ∷ judged (put (put ruled 364 (1 ∷ [])) 368 (20 ∷ [])) 6 368
    ∷ []

-- stage 7: checksums that are off are zero; the first record counts, and stage 7 comes before stage 8
abbrev pub sum_rows : List Judged
sum_rows =
    judged (put ruled 364 (1 ∷ [])) 7 16
    ∷ judged (put ruled 396 (1 ∷ [])) 7 368
    ∷ judged (put ruled 540 (1 ∷ [])) 7 488
    ∷ judged (put (put ruled 396 (1 ∷ [])) 540 (1 ∷ [])) 7 368
    ∷ judged (put (put ruled 376 (4 ∷ [])) 540 (1 ∷ [])) 7 488
    ∷ []

-- stage 8: tile and metadata records
abbrev pub body_rows : List Judged
body_rows =
    judged (put ruled 376 (4 ∷ [])) 8 368
    ∷ judged (put ruled 379 (128 ∷ [])) 8 368
    ∷ judged (put ruled 380 (0 ∷ [])) 8 368
    ∷ judged (put ruled 380 (3 ∷ [])) 8 368
    ∷ judged (put ruled 419 (95 ∷ [])) 8 400
    ∷ judged (put ruled 424 (10 ∷ [])) 8 400
    ∷ judged (put ruled 428 (128 ∷ [])) 8 400
    ∷ judged (put ruled 429 (1 ∷ 0 ∷ 255 ∷ [])) 8 400
    ∷ judged (put ruled 429 (6 ∷ 0 ∷ [])) 8 400
    ∷ judged (put ruled 429 (1 ∷ 0 ∷ 65 ∷ [])) 0 0
    ∷ judged (put (put ruled 376 (4 ∷ [])) 497 (2 ∷ [])) 8 368
    ∷ []

-- stage 9: directories
abbrev pub list_rows : List Judged
list_rows =
    judged (put ruled 424 (9 ∷ [])) 9 16
    ∷ judged (put (put ruled 424 (9 ∷ [])) 476 (9 ∷ [])) 0 0
    ∷ judged (put ruled 496 (1 ∷ [])) 9 16
    ∷ judged (put ruled 497 (2 ∷ [])) 9 16
    ∷ judged (put ruled 508 (1 ∷ [])) 9 16
    ∷ judged (put ruled 507 (128 ∷ [])) 9 16
    ∷ judged (put ruled 520 (0 ∷ [])) 9 16
    ∷ judged (put ruled 80 (0 ∷ 0 ∷ [])) 9 16
    ∷ judged (put ruled 64 (0 ∷ 0 ∷ [])) 9 16
    ∷ judged (put ruled 448 (2 ∷ [])) 9 16
    ∷ judged (put ruled 448 (0 ∷ [])) 9 16
    ∷ judged (put ruled 472 (3 ∷ [])) 9 16
    ∷ judged (put ruled 452 (144 ∷ [])) 9 16
    ∷ judged (put ruled 462 (83 ∷ [])) 9 16
    ∷ judged (put ruled 56 (192 ∷ 1 ∷ [])) 9 16
    ∷ judged (put (put ruled 520 (0 ∷ [])) 524 (47 ∷ [])) 9 16
    ∷ []

abbrev pub check_gives : Judged → ℕ × ℕ
check_gives r = (verdict_number (check r.file), verdict_place (check r.file))

abbrev pub expected : Judged → ℕ × ℕ
expected r = (r.answer, r.place)

abbrev pub JudgedSo : List Judged → Type 0
JudgedSo rows = map check_gives rows ≡ map expected rows

-- stages 1 to 5, of the front by itself and the file's length: ceilings of the file and of the sides, each at its most and one above; stage 3 comes
-- before stage 4, and that before stage 5
abbrev pub front : List ℕ
front = take 368 ruled

abbrev pub sides : ℕ → ℕ → ℕ → ℕ → List ℕ
sides rows columns down across = put front 104 (bytes_of 4 rows ++ bytes_of 4 columns ++ bytes_of 4 down ++ bytes_of 4 across)

pub record Begun : Type 0 where
  pub bytes : List ℕ
  pub long : ℕ
  pub answer : ℕ

abbrev pub begun : List ℕ → ℕ → ℕ → Begun
begun s n a = record { bytes = s; long = n; answer = a }

abbrev pub ceilings : List Begun
ceilings =
    begun front 16777216 0
    ∷ begun front 16777217 4
    ∷ begun (sides 65536 4 4096 1) 368 0
    ∷ begun (sides 65537 4 4096 1) 368 4
    ∷ begun (sides 1 65536 1 4096) 368 0
    ∷ begun (sides 1 65537 1 4096) 368 4
    ∷ begun (sides 1 4 4096 1) 368 0
    ∷ begun (sides 1 4 4097 1) 368 4
    ∷ begun (sides 1 4 1 4096) 368 0
    ∷ begun (sides 1 4 1 4097) 368 4
    ∷ begun (sides 16384 4 1 1) 368 0
    ∷ begun (sides 16385 4 1 1) 368 4
    ∷ begun (put (sides 65537 4 4096 1) 129 (3 ∷ [])) 368 3
    ∷ begun (put front 48 (1 ∷ [])) 16777217 4
    ∷ []

-- checksums on: a byte of a tile's cells, and one of the header's UUID, is another
abbrev pub damaged : List Judged
damaged = judged (put file 352 (99 ∷ [])) 7 336 ∷ judged (put file 24 (1 ∷ [])) 7 16 ∷ []

-- stages 1 to 8 alone: number and place
abbrev pub to_bodies : List ℕ → ℕ × ℕ
to_bodies s = (verdict_number (check_to_bodies s), verdict_place (check_to_bodies s))

pub record RowsHold : Type 0 where
  -- document 01's sample sums: "A record of 16 passes stage 6; 8 or 20 does not. An empty file is 1"; opened and a broken chain is 5 above, and 6
  -- by stages 6 to 9 alone
  pub of_16 : to_bodies (ruled ++ free 16) ≡ (0, 0)
  pub of_8 : to_bodies (ruled ++ (8 ∷ none 7)) ≡ (6, 544)
  pub of_20 : to_bodies (ruled ++ (20 ∷ none 19)) ≡ (6, 544)
  pub empty : verdict_number (check []) ≡ 1
  pub from_records : verdict_number (check_from_records (put (put ruled 48 (1 ∷ [])) 368 (20 ∷ []))) ≡ 6
  pub by_ceilings : map (λ r. verdict_number (check_header r.bytes r.long)) ceilings ≡ map (λ r. r.answer) ceilings
  pub by_damaged : JudgedSo damaged
  pub by_block_rows : JudgedSo block_rows
  pub by_header_rows : JudgedSo header_rows
  pub by_opened_rows : JudgedSo opened_rows
  pub by_chain_rows : JudgedSo chain_rows
  pub by_sum_rows : JudgedSo sum_rows
  pub by_body_rows : JudgedSo body_rows
  pub by_list_rows : JudgedSo list_rows
