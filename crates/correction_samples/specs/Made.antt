-- Req 03, samples: what each call makes of a page, byte by byte.
use Rattle.std.specs.Prelude.{◌≡◌, true, [], ◌∷◌, ◌++◌, Ok}
use Rattle.page_check.specs.Stages.{check}
use Rattle.writable.specs.Writable.{open_for_writing}
use Rattle.correct.specs.Opening.{opened_page}
use Rattle.correct.specs.Storing.{stored_page}
use Rattle.correct.specs.Removing.{removed_page}
use Rattle.correct.specs.Closing.{closed_page}
use Rattle.small_pages.specs.Pages.{none, plain_front, no_space, at640, at408, at520, free, worn, packed_tile, directory, entry, others, cells_tile, others_tile, junk_padded, other_junk_padded, open_page, partial_file, full_file, full_page}

pub record MadeSo : Type 0 where
  pub is_open : open_for_writing open_page ≡ true
  pub is_file : check partial_file ≡ Ok tt
  -- opening: a directory that is not full is replaced by a compact one at the end; it, the file-space directory and the free record
  -- behind it are one free record then, with nothing but zeros behind its length
  pub opened : opened_page partial_file 9 ≡ plain_front 5 9 no_space at520 ++ cells_tile 2 ++ free 112 ++ directory 0 0 47 0
  -- one that is full stays
  pub opened_full : opened_page full_file 9 ≡ full_page
  -- a tile stored over: its cell bytes, an element's behind the other's, at their places, and no other byte; a free record that stands
  -- alone stays as it is
  pub over : stored_page open_page 0 others ≡ plain_front 5 9 no_space at520 ++ worn ++ other_junk_padded ++ free 32 ++ packed_tile ++ free 24 ++ directory 50 58 0 0 ++ free 64
  -- a tile stored anew: the free record of 24 bytes is passed over, and of those that fit, at 424 and 568, the lower is taken
  pub lowest :
      stored_page open_page 2 others
      ≡ plain_front 5 9 no_space at520 ++ worn ++ junk_padded ++ others_tile 2 ++ packed_tile ++ free 24 ++ directory 50 58 54 0 ++ free 64
  -- one with a compressed element is freed first, and joined with what is free beside it: the new record takes the start, 56 bytes are
  -- left
  pub freed_first :
      stored_page open_page 1 others ≡ plain_front 5 9 no_space at520 ++ worn ++ junk_padded ++ others_tile 1 ++ free 56 ++ directory 50 54 0 0 ++ free 64
  -- no free record: at the end
  pub at_end : stored_page full_page 3 others ≡ plain_front 5 9 no_space at408 ++ cells_tile 0 ++ directory 47 0 0 58 ++ others_tile 3
  -- removing: the record is freed, joined with those on both sides, and has nothing but zeros behind its length
  pub removed : removed_page open_page 0 ≡ plain_front 5 9 no_space at520 ++ free 88 ++ packed_tile ++ free 24 ++ directory 0 58 0 0 ++ free 64
  pub absent : removed_page open_page 3 ≡ open_page
  -- closing: the free list at the end, ascending: 368, 424, 488 and 568
  pub closed :
      closed_page open_page 7
      ≡ plain_front 7 0 at640 at520 ++ worn ++ junk_padded ++ free 32 ++ packed_tile ++ free 24 ++ directory 50 58 0 0 ++ free 64
      ++ (64 ∷ 0 ∷ 0 ∷ 0 ∷ 3 ∷ 0 ∷ 0 ∷ 0 ∷ 4 ∷ 0 ∷ 0 ∷ 0 ∷ []) ++ entry 112 1 24 ++ entry 168 1 32 ++ entry 232 1 24 ++ entry 56 2 64 ++ none 4
  -- without a free record there is none
  pub closed_full : closed_page full_page 5 ≡ full_file
