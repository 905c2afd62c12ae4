-- The pages that the calls make are bytes where the page and the cell bytes are. Assumes nothing.
use Prim.Native.Nat.{ℕ, zero, suc, ◌+◌, ◌-◌, ◌<◌}
use mathlib.Core.List.{List, [], ◌∷◌, ◌++◌, map}
use mathlib.Core.Bool.{Bool, true, false, ◌&&◌}
use lib.ListN.{length}
use lib.Dec.{eqb}
use native.Mathlib.Omega.{arith}
use Rattle.wire.specs.Pick.{pick}
use Rattle.wire.specs.Bytes.{Bytes}
use Rattle.wire.proofs.ByteLaws.{bytes_none, bytes_append, bytes_take, bytes_part, bytes_of_lem, zeros_bytes}
use Rattle.wire.proofs.PutLaws.{bytes_put}
use Rattle.record.specs.Record.{type_at, content_at}
use Rattle.record.specs.Chain.{header_end, records, records_of, joined}
use Rattle.record.specs.Types.{free_type, tile_type, tile_directory_type, file_space_directory_type}
use Rattle.header.specs.Fields.{checksum_enabled, element_count}
use Rattle.bodies.specs.TileDirectory.{reference_size}
use Rattle.tile_routes.specs.Ways.{carries}
use Rattle.written_records.specs.Pieces.{record_of, sealed}
use Rattle.written_records.specs.Tile.{sections, plain_record, tile_record}
use Rattle.written_records.proofs.SealLaws.{unclosed_bytes, sections_bytes}
use Rattle.written_records.proofs.DirectoryLaws.{directory_of_bytes}
use Rattle.pieces.specs.Pieces.{piece_at, pieces_of, pieces, free_record, is_free, attach, join_free, cleared, freeing}
use Rattle.pieces.specs.Edits.{takes, left_over, placed, resealed, referring, reference_bytes, with_reference}
use Rattle.pieces.specs.Standing.{AllOf}
use Rattle.alone.proofs.FreeLaws.{free_bytes}
use Rattle.writable.specs.Writable.{directory_full}
use Rattle.correct.specs.Front.{sealed_front}
use Rattle.correct.specs.Opening.{compact_of, full_directory, opened_more, unwanted, opened_fields, opened_reference, opened_front, opened_page}
use Rattle.correct.specs.Storing.{stored_over, cells_put, overwritten, freed_of, stored_at, newly_stored, stored_pieces, stored_page}
use Rattle.correct.specs.Removing.{is_there, removed_pieces, removed_page}
use Rattle.correct.specs.Closing.{free_entry_bytes, free_list, file_space_record, any_free, closed_more, closed_fields, closed_reference, closed_front, closed_page}

-- lists of pieces

joined_bytes : (rs : List (List ℕ)) → AllOf Bytes rs → Bytes (joined rs)
joined_bytes [] a = bytes_none
joined_bytes (r ∷ rs) a = bytes_append a.0 (joined_bytes rs a.1)

append_bytes : (rs qs : List (List ℕ)) → AllOf Bytes rs → AllOf Bytes qs → AllOf Bytes (rs ++ qs)
append_bytes [] qs a b = b
append_bytes (r ∷ rs) qs a b = (a.0, append_bytes rs qs a.1 b)

map_bytes : (g : List ℕ → List ℕ) → ((r : List ℕ) → Bytes r → Bytes (g r)) → (rs : List (List ℕ)) → AllOf Bytes rs → AllOf Bytes (map g rs)
map_bytes g k [] a = _
map_bytes g k (r ∷ rs) a = (k r a.0, map_bytes g k rs a.1)

pieces_at : (s xs : List ℕ) → Bytes s → AllOf Bytes (pieces_of s xs)
unfolding pieces_of piece_at
pieces_at s [] b = _
pieces_at s (x ∷ xs) b = (bytes_part _ _ b, pieces_at s xs b)

pieces_all : (s : List ℕ) → Bytes s → AllOf Bytes (pieces s)
unfolding pieces
pieces_all s b = pieces_at s (records s) b

pick_bytes : (b : Bool) {v w : List ℕ} → Bytes v → Bytes w → Bytes (pick b v w)
pick_bytes true v w = v
pick_bytes false v w = w

pick_all : (b : Bool) (v w : List (List ℕ)) → AllOf Bytes v → AllOf Bytes w → AllOf Bytes (pick b v w)
pick_all true v w a b = a
pick_all false v w a b = b

-- freed, joined and placed

module _ (flag : ℕ) where
  attach_bytes : (r : List ℕ) (qs : List (List ℕ)) → Bytes r → AllOf Bytes qs → AllOf Bytes (attach flag r qs)
  unfolding attach
  attach_bytes r [] b a = (b, _)
  attach_bytes r (q ∷ qs) b a =
      pick_all (is_free r && is_free q) (free_record flag (length r + length q) ∷ qs) (r ∷ q ∷ qs) (free_bytes flag _, a.1) (b, a)

  join_bytes : (rs : List (List ℕ)) → AllOf Bytes rs → AllOf Bytes (join_free flag rs)
  unfolding join_free
  join_bytes [] a = _
  join_bytes (r ∷ rs) a = attach_bytes r (join_free flag rs) a.0 (join_bytes rs a.1)

  cleared_bytes : (p : List ℕ → Bool) (r : List ℕ) → Bytes r → Bytes (cleared flag p r)
  unfolding cleared
  cleared_bytes p r b = pick_bytes (p r) (free_bytes flag (length r)) b

  freeing_bytes : (p : List ℕ → Bool) (rs : List (List ℕ)) → AllOf Bytes rs → AllOf Bytes (freeing flag p rs)
  unfolding freeing
  freeing_bytes p rs a = join_bytes (map (cleared flag p) rs) (map_bytes (cleared flag p) (cleared_bytes p) rs a)

  left_bytes : (n : ℕ) → AllOf Bytes (left_over flag n)
  unfolding left_over
  left_bytes n = pick_all (eqb n 0) ([]) (free_record flag n ∷ []) _ (free_bytes flag n, _)

  placed_bytes : (v : List ℕ) → Bytes v → (rs : List (List ℕ)) → AllOf Bytes rs → AllOf Bytes (placed flag v rs)
  unfolding placed
  placed_bytes v b [] a = (b, _)
  placed_bytes v b (r ∷ rs) a =
      pick_all (takes (length v) r) (v ∷ (left_over flag (length r - length v) ++ rs)) (r ∷ placed flag v rs)
      (b, append_bytes (left_over flag (length r - length v)) rs (left_bytes (length r - length v)) a.1) (a.0, placed_bytes v b rs a.1)

  sealed_bytes : (d : List ℕ) (at n : ℕ) → Bytes d → Bytes (sealed flag d at n)
  unfolding sealed
  sealed_bytes d at n b = bytes_put _ b (bytes_of_lem 4 _)

  resealed_bytes : (r : List ℕ) → Bytes r → Bytes (resealed flag r)
  unfolding resealed
  resealed_bytes r b = sealed_bytes r 0 (length r) b

  record_bytes : (kind : ℕ) (body : List ℕ) → kind < 256 → Bytes body → Bytes (record_of flag kind body)
  unfolding record_of
  record_bytes kind body h b = bytes_append (unclosed_bytes kind h b) (bytes_of_lem 4 _)

-- the records that the calls write

reference_bytes_lem : (s : List ℕ) (i content : ℕ) (r : List ℕ) → Bytes r → Bytes (with_reference s i content r)
unfolding with_reference referring reference_bytes
reference_bytes_lem s i content r b =
    pick_bytes (eqb (type_at r 0) tile_directory_type) (resealed_bytes (checksum_enabled s) _ (bytes_put _ b (bytes_of_lem (reference_size s) _))) b

cells_bytes : (s c : List ℕ) → Bytes c → (n : ℕ) (r : List ℕ) → Bytes r → Bytes (cells_put s c n r)
unfolding cells_put
cells_bytes s c k zero r b = b
cells_bytes s c k (suc e) r b = bytes_put _ (cells_bytes s c k e r b) (bytes_part _ _ k)

over_bytes : (s : List ℕ) (i : ℕ) (c : List ℕ) → Bytes c → (r : List ℕ) → Bytes r → Bytes (overwritten s i c r)
unfolding overwritten
over_bytes s i c k r b = pick_bytes (carries r i 0) (resealed_bytes (checksum_enabled s) _ (cells_bytes s c k (element_count s) r b)) b

tile_bytes_lem : (s : List ℕ) (i : ℕ) (c : List ℕ) → Bytes c → Bytes (tile_record s i c)
unfolding tile_record plain_record sections
tile_bytes_lem s i c b =
    record_bytes (checksum_enabled s) tile_type _ (omega arith) (bytes_append (bytes_of_lem 4 i) (sections_bytes s (element_count s) b))

entry_bytes_lem : (s xs : List ℕ) → Bytes (free_entry_bytes s xs)
unfolding free_entry_bytes
entry_bytes_lem s [] = bytes_none
entry_bytes_lem s (x ∷ xs) = bytes_append (bytes_append (bytes_of_lem 8 x) (bytes_of_lem 4 _)) (entry_bytes_lem s xs)

-- the pages

directory_more : (s : List ℕ) → AllOf Bytes (opened_more s)
unfolding opened_more full_directory
directory_more s =
    pick_all (directory_full s) [] (full_directory s ∷ []) _
    (record_bytes (checksum_enabled s) tile_directory_type _ (omega arith) (directory_of_bytes s (compact_of s)), _)

opened_front_lem : (s : List ℕ) (t : ℕ) → Bytes s → Bytes (opened_front s t)
unfolding opened_front sealed_front opened_reference opened_fields
opened_front_lem s t b =
    let f = bytes_put 56 (bytes_put 48 (bytes_take (header_end s) b) (bytes_of_lem 8 t)) (zeros_bytes 8) in
    sealed_bytes (checksum_enabled s) _ 16 _ (pick_bytes (directory_full s) f (bytes_put 80 f (bytes_of_lem 8 _)))

pub opened_bytes : (s : List ℕ) (t : ℕ) → Bytes s → Bytes (opened_page s t)
unfolding opened_page
opened_bytes s t b =
    let fs = freeing (checksum_enabled s) (λ r. unwanted s r 0) (pieces s) in
    bytes_append (opened_front_lem s t b)
    (joined_bytes (fs ++ opened_more s)
    (append_bytes fs (opened_more s) (freeing_bytes (checksum_enabled s) (λ r. unwanted s r 0) (pieces s) (pieces_all s b)) (directory_more s)))

freed_bytes : (s : List ℕ) (i : ℕ) → Bytes s → AllOf Bytes (freed_of s i)
unfolding freed_of
freed_bytes s i b = freeing_bytes (checksum_enabled s) (λ r. carries r i 0) (pieces s) (pieces_all s b)

newly_bytes : (s : List ℕ) (i : ℕ) (c : List ℕ) → Bytes s → Bytes c → AllOf Bytes (newly_stored s i c)
unfolding newly_stored
newly_bytes s i c b k =
    map_bytes (with_reference s i (content_at (stored_at s i))) (reference_bytes_lem s i _) (placed (checksum_enabled s) (tile_record s i c) (freed_of s i))
    (placed_bytes (checksum_enabled s) (tile_record s i c) (tile_bytes_lem s i c k) (freed_of s i) (freed_bytes s i b))

stored_pieces_lem : (s : List ℕ) (i : ℕ) (c : List ℕ) → Bytes s → Bytes c → AllOf Bytes (stored_pieces s i c)
unfolding stored_pieces
stored_pieces_lem s i c b k =
    pick_all (stored_over s i) (map (overwritten s i c) (pieces s)) (newly_stored s i c)
    (map_bytes (overwritten s i c) (over_bytes s i c k) (pieces s) (pieces_all s b)) (newly_bytes s i c b k)

pub stored_bytes : (s : List ℕ) (i : ℕ) (c : List ℕ) → Bytes s → Bytes c → Bytes (stored_page s i c)
unfolding stored_page
stored_bytes s i c b k = bytes_append (bytes_take (header_end s) b) (joined_bytes (stored_pieces s i c) (stored_pieces_lem s i c b k))

removed_pieces_lem : (s : List ℕ) (i : ℕ) → Bytes s → AllOf Bytes (removed_pieces s i)
unfolding removed_pieces
removed_pieces_lem s i b =
    pick_all (is_there s i) (map (with_reference s i 0) (freed_of s i)) (pieces s)
    (map_bytes (with_reference s i 0) (reference_bytes_lem s i 0) (freed_of s i) (freed_bytes s i b)) (pieces_all s b)

pub removed_bytes : (s : List ℕ) (i : ℕ) → Bytes s → Bytes (removed_page s i)
unfolding removed_page
removed_bytes s i b = bytes_append (bytes_take (header_end s) b) (joined_bytes (removed_pieces s i) (removed_pieces_lem s i b))

list_more : (s : List ℕ) → AllOf Bytes (closed_more s)
unfolding closed_more file_space_record free_list
list_more s =
    let v = record_bytes (checksum_enabled s) file_space_directory_type (free_list s) (omega arith) (bytes_append (bytes_of_lem 4 (length (records_of s free_type))) (entry_bytes_lem s (records_of s free_type))) in
    pick_all (any_free s) (file_space_record s ∷ []) [] (v, _) _

closed_front_lem : (s : List ℕ) (t : ℕ) → Bytes s → Bytes (closed_front s t)
unfolding closed_front sealed_front closed_reference closed_fields
closed_front_lem s t b =
    let f = bytes_put 48 (bytes_put 40 (bytes_take (header_end s) b) (bytes_of_lem 8 t)) (zeros_bytes 8) in
    sealed_bytes (checksum_enabled s) _ 16 _ (pick_bytes (any_free s) (bytes_put 56 f (bytes_of_lem 8 _)) f)

pub closed_bytes : (s : List ℕ) (t : ℕ) → Bytes s → Bytes (closed_page s t)
unfolding closed_page
closed_bytes s t b =
    bytes_append (closed_front_lem s t b)
    (joined_bytes (pieces s ++ closed_more s) (append_bytes (pieces s) (closed_more s) (pieces_all s b) (list_more s)))
