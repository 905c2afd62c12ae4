-- Req 03: what a call answers, exactly: each refusal with the facts on which it stands, in their order. b is the buffer, n the page's
-- length in it.
use Rattle.std.specs.Prelude.{ℕ, ◌+◌, ◌*◌, ◌≤◌, ◌<◌, ◌≡◌, true, false, List, length, Err, Ok, Result}
use Rattle.answer.specs.declared.Refusal.{Refusal}
use Rattle.answer.specs.declared.Refusal.TheVariants.{Ceiling, OutsideGrid, Input, Room, NotOpen}
use Rattle.record.specs.Types.{free_type}
use Rattle.record.specs.Chain.{header_end, records_of}
use Rattle.geometry.specs.Tiles.{tile_count}
use Rattle.geometry.specs.Sizes.{tile_bytes, plain_tile_length}
use Rattle.check_header.specs.Ceilings.{most_file_bytes}
use Rattle.page_check.specs.Stages.{check}
use Rattle.written_records.specs.Pieces.{record_length}
use Rattle.pieces.specs.Edits.{takes}
use Rattle.pieces.specs.Standing.{AllOf}
use Rattle.writable.specs.Writable.{open_for_writing, directory_full}
use Rattle.correct.specs.Front.{page_in}
use Rattle.correct.specs.Storing.{stored_over, freed_of}
use Rattle.correct.specs.Plan.{kept_starts, planned_end, GoodPlan}
use Rattle.correct.specs.Calls.{Call, Role, kind_of, change_of, answer_by}

abbrev pub answer_in : Call → List ℕ → ℕ → Result ℕ Refusal
answer_in call b n = answer_by (change_of call b n)

-- what is wrong with a page, by the call's role: opening hands the check's refusal on, any other call is 15 on a page that is not open for
-- writing
abbrev pub Unfit : Role → List ℕ → Refusal → Type 0
Unfit Role.Opens s r = check s ≡ Err r
Unfit Role.Works s r = (open_for_writing s ≡ false) × (r ≡ NotOpen)
Unfit Role.Closes s r = (open_for_writing s ≡ false) × (r ≡ NotOpen)

-- "given the page's length (past the buffer: 12, first)"; then 15 "before all but the length's 12", or the check's refusal; nothing that is
-- given besides is asked before
pub record PageFirst (call : Call) (b : List ℕ) (n : ℕ) : Type 0 where
  pub length_first : length b < n → answer_in call b n ≡ Err Input
  pub page_then : n ≤ length b → (r : Refusal) → Unfit (kind_of call).role (page_in b n) r → answer_in call b n ≡ Err r

abbrev pub PageAsked : Type 0
PageAsked = (call : Call) (b : List ℕ) (n : ℕ) → PageFirst call b n

-- "13 exactly if neither has room, 4 if only the ceiling stands in the way", of a call that puts m bytes behind the page where More holds,
-- and none where it does not: then it needs no room. By nothing else is it refused
pub record RoomExactly (call : Call) (b : List ℕ) (n : ℕ) (More : Type 0) (m : ℕ) : Type 0 where
  pub room : answer_in call b n ≡ Err Room → More × (length b < n + m)
  pub room_if : More → length b < n + m → answer_in call b n ≡ Err Room
  pub ceiling : answer_in call b n ≡ Err Ceiling → More × ((n + m ≤ length b) × (most_file_bytes < n + m))
  pub ceiling_if : More → n + m ≤ length b → most_file_bytes < n + m → answer_in call b n ≡ Err Ceiling
  pub grows : More → n + m ≤ length b → n + m ≤ most_file_bytes → answer_in call b n ≡ Ok (n + m)
  pub stays : (More → ⊥) → answer_in call b n ≡ Ok n

-- storing: the tile needs a record of its own, and no free record takes it, once that of the tile is freed: it goes to the end
pub record AtEnd (s : List ℕ) (i : ℕ) : Type 0 where
  pub anew : stored_over s i ≡ false
  pub none_takes : AllOf (λ r. takes (plain_tile_length s) r ≡ false) (freed_of s i)

-- "Before 13 and 4, an index past the tiles is 10, then a wrong byte count .. 12"
pub record StoreExactly (b : List ℕ) (n i : ℕ) (c : List ℕ) : Type 0 where
  pub outside : tile_count (page_in b n) ≤ i → answer_in (Call.Storing i c) b n ≡ Err OutsideGrid
  pub count : i < tile_count (page_in b n) → (length c ≡ tile_bytes (page_in b n) → ⊥) → answer_in (Call.Storing i c) b n ≡ Err Input
  pub room :
      i < tile_count (page_in b n) → length c ≡ tile_bytes (page_in b n) →
      RoomExactly (Call.Storing i c) b n (AtEnd (page_in b n) i) (plain_tile_length (page_in b n))

abbrev pub StoreRefused : Type 0
StoreRefused = (b : List ℕ) (n i : ℕ) (c : List ℕ) → n ≤ length b → open_for_writing (page_in b n) ≡ true → StoreExactly b n i c

-- removing needs no room, whether the tile is stored or not
pub record RemoveExactly (b : List ℕ) (n i : ℕ) : Type 0 where
  pub outside : tile_count (page_in b n) ≤ i → answer_in (Call.Removing i) b n ≡ Err OutsideGrid
  pub done : i < tile_count (page_in b n) → answer_in (Call.Removing i) b n ≡ Ok n

abbrev pub RemoveRefused : Type 0
RemoveRefused = (b : List ℕ) (n i : ℕ) → n ≤ length b → open_for_writing (page_in b n) ≡ true → RemoveExactly b n i

-- Req 11: "A rejected plan, or one with too few or too many starts, is 12"; squeezing needs no room
pub record SqueezeExactly (b : List ℕ) (n : ℕ) (ps : List ℕ) : Type 0 where
  pub rejected :
      (GoodPlan (page_in b n) (header_end (page_in b n)) (kept_starts (page_in b n)) ps → ⊥) → answer_in (Call.Squeezing ps) b n ≡ Err Input
  pub done :
      GoodPlan (page_in b n) (header_end (page_in b n)) (kept_starts (page_in b n)) ps → answer_in (Call.Squeezing ps) b n ≡ Ok (planned_end (page_in b n) ps)

abbrev pub SqueezeRefused : Type 0
SqueezeRefused = (b : List ℕ) (n : ℕ) (ps : List ℕ) → n ≤ length b → open_for_writing (page_in b n) ≡ true → SqueezeExactly b n ps

-- "a .. zero time 12", then as above: "opening and closing refuse in the same way"
pub record TimedExactly (call : Call) (t : ℕ) (b : List ℕ) (n : ℕ) (More : Type 0) (m : ℕ) : Type 0 where
  pub no_time : t ≡ 0 → answer_in call b n ≡ Err Input
  pub room : (t ≡ 0 → ⊥) → RoomExactly call b n More m

-- opening puts a full compact directory at the end where the page's own is not full: 24 bytes, and four for each tile
abbrev pub OpenRefused : Type 0
OpenRefused =
    (b : List ℕ) (n t : ℕ) → n ≤ length b → check (page_in b n) ≡ Ok tt →
    TimedExactly (Call.Opening t) t b n (directory_full (page_in b n) ≡ false) (record_length (24 + 4 * tile_count (page_in b n)))

-- closing puts the free list at the end where a record is free: 4 bytes, and 12 for each of them
abbrev pub CloseRefused : Type 0
CloseRefused =
    (b : List ℕ) (n t : ℕ) → n ≤ length b → open_for_writing (page_in b n) ≡ true →
    let free : ℕ = length (records_of (page_in b n) free_type) in
    TimedExactly (Call.Closing t) t b n (1 ≤ free) (record_length (4 + 12 * free))
