-- Req 03, Req 05 and Req 11, samples on document 01's page of the listing: a 3 by 3 grid with 2 by 2 tiles and one Short, header to 336, tile 2
-- at 336, tile directory at 368, 424 bytes.
use Rattle.std.specs.Prelude.{ℕ, ◌≡◌, List, [], ◌∷◌, ◌++◌, map, Bool, true, false, length, drop, Ok}
use Rattle.wire.specs.Bytes.{u32_at, part, put, zeros}
use Rattle.header.specs.Fields.{file_space_reference, tile_directory_reference}
use Rattle.page_check.specs.Stages.{check}
use Rattle.sample_page.specs.Page.{file, cells}
use Rattle.pieces.specs.Pieces.{free_record}
use Rattle.pieces.specs.Edits.{takes}
use Rattle.stores.specs.Stores.{store_count, run, place}
use Rattle.writable.specs.Writable.{open_for_writing}
use Rattle.correct.specs.Opening.{opened_page}
use Rattle.correct.specs.Storing.{stored_at, stored_page}
use Rattle.correct.specs.Removing.{removed_page}
use Rattle.correct.specs.Closing.{closed_page}
use Rattle.correct.specs.Plan.{kept_starts, plan_right, planned_end, tight_plan}
use Rattle.correct.specs.Squeezing.{squeezed_page}
use Rattle.correct.specs.Writes.{open_writes, close_writes}
use Rattle.squeezed.specs.Squeezed.{plan_gaps}

-- the page opened with 9
abbrev pub opened : List ℕ
opened = opened_page file 9

-- and then tile 2 removed
abbrev pub removed : List ℕ
removed = removed_page opened 2

-- other cells of tile 2
abbrev pub others : List ℕ
others = 21 ∷ 1 ∷ 22 ∷ 1 ∷ 23 ∷ 1 ∷ 24 ∷ 1 ∷ []

-- a free record of so many bytes takes a record of 32
abbrev pub takes32 : ℕ → Bool
takes32 n = takes 32 (free_record 1 n)

pub record Sampled : Type 0 where
  -- opening changes byte 48 and the header's checksum; the page is open for writing
  pub opened_front_lem : part opened 0 332 ≡ part (put file 48 (9 ∷ [])) 0 332
  pub opened_rest : drop 336 opened ≡ drop 336 file
  pub opened_open : open_for_writing opened ≡ true
  -- tile 0 stored goes to the end; its reference is 54
  pub stored_long : length (stored_page opened 0 cells) ≡ 456
  pub stored_reference : u32_at (stored_page opened 0 cells) 400 ≡ 54
  pub stored_open : open_for_writing (stored_page opened 0 cells) ≡ true
  -- tile 2 stored over: its cell bytes at 352 and the record's checksum at 364, no other byte
  pub over : stored_page opened 2 others ≡ put (put opened 352 others) 364 (50 ∷ 30 ∷ 96 ∷ 87 ∷ [])
  -- tile 2 removed leaves a free record of 32 bytes at 336, zeros between its length and its checksum, and its reference zero
  pub removed_head : part removed 336 32 ≡ (32 ∷ []) ++ zeros 27 ++ (19 ∷ 215 ∷ 40 ∷ 129 ∷ [])
  pub removed_reference : u32_at removed 408 ≡ 0
  pub removed_open : open_for_writing removed ≡ true
  -- tile 3 stored takes it
  pub again : stored_at removed 3 ≡ 336
  -- closing lists it in a directory of 32 bytes behind the page; the file is accepted
  pub closed_long : length (closed_page removed 7) ≡ 456
  pub closed_reference_lem : file_space_reference (closed_page removed 7) ≡ 432
  pub closed_accepted : check (closed_page removed 7) ≡ Ok tt
  -- a free record of 32, 48 or 56 bytes takes a record of 32, one of 40 does not
  pub taken : map takes32 (32 ∷ 40 ∷ 48 ∷ 56 ∷ []) ≡ true ∷ false ∷ true ∷ true ∷ []
  -- Req 05: opened with 0x0100 and closed with 7, 20 stores each, opening's first and closing's last at 49; the opening's
  -- stores make the page, and so do the closing's
  pub open_stores : store_count (open_writes file file 256) ≡ 20
  pub first_store : place 0 (open_writes file file 256) ≡ 49
  pub open_run : run (open_writes file file 256) file ≡ opened_page file 256
  pub close_stores : store_count (close_writes (opened_page file 256) (opened_page file 256) 7) ≡ 20
  pub last_store : place 19 (close_writes (opened_page file 256) (opened_page file 256) 7) ≡ 49
  pub close_run : run (close_writes (opened_page file 256) (opened_page file 256) 7) (opened_page file 256) ≡ closed_page (opened_page file 256) 7

-- Req 11: tile 0 stored and tile 2 removed, which leaves 32 free bytes at 336, the tile directory at 368 and tile 0 at 424
abbrev pub worn : List ℕ
worn = removed_page (stored_page opened 0 cells) 2

abbrev pub good_plans : List (List ℕ)
good_plans = (336 ∷ 392 ∷ []) ∷ (352 ∷ 408 ∷ []) ∷ (336 ∷ 408 ∷ []) ∷ (352 ∷ 424 ∷ []) ∷ (368 ∷ 424 ∷ []) ∷ []

-- 8 behind the header, 8 between, in the header, no multiple of 8, up; a start too few, one too many, none, out of order
abbrev pub bad_plans : List (List ℕ)
bad_plans =
    (344 ∷ 400 ∷ []) ∷ (336 ∷ 400 ∷ []) ∷ (328 ∷ 392 ∷ []) ∷ (340 ∷ 396 ∷ []) ∷ (376 ∷ 432 ∷ []) ∷ (336 ∷ []) ∷ (336 ∷ 392 ∷ 424 ∷ []) ∷ [] ∷ (392 ∷ 336 ∷ [])
    ∷ []

pub record SqueezeSampled : Type 0 where
  pub kept : kept_starts worn ≡ 368 ∷ 424 ∷ []
  pub accepted : map (plan_right worn) good_plans ≡ true ∷ true ∷ true ∷ true ∷ true ∷ []
  pub long : map (planned_end worn) good_plans ≡ 424 ∷ 440 ∷ 440 ∷ 456 ∷ 456 ∷ []
  pub refused : map (plan_right worn) bad_plans ≡ false ∷ false ∷ false ∷ false ∷ false ∷ false ∷ false ∷ false ∷ false ∷ []
  -- squeezed tight, the header refers to 344 and the directory to tile 0 by 50; the page is open
  pub tight : tight_plan worn ≡ 336 ∷ 392 ∷ []
  pub header_reference : tile_directory_reference (squeezed_page worn (336 ∷ 392 ∷ [])) ≡ 344
  pub tile_reference_lem : u32_at (squeezed_page worn (336 ∷ 392 ∷ [])) 368 ≡ 50
  pub squeezed_open : open_for_writing (squeezed_page worn (336 ∷ 392 ∷ [])) ≡ true
  -- gaps of 16 at 336 and at 408
  pub gaps : plan_gaps worn (352 ∷ 424 ∷ []) ≡ (336, 16) ∷ (408, 16) ∷ []
  pub gap_head : part (squeezed_page worn (352 ∷ 424 ∷ [])) 408 12 ≡ 16 ∷ 0 ∷ 0 ∷ 0 ∷ 0 ∷ 0 ∷ 0 ∷ 0 ∷ 0 ∷ 0 ∷ 0 ∷ 0 ∷ []
