-- Req 03: a new record put into the lowest free one that takes it, and a reference of the tile directory set.
use Rattle.std.specs.Prelude.{ℕ, ◌+◌, ◌*◌, ◌/◌, ◌-◌, List, [], ◌∷◌, ◌++◌, Bool, ◌||◌, ◌&&◌, length, leb, eqb}
use Rattle.wire.specs.Pick.{pick}
use Rattle.wire.specs.Bytes.{bytes_of, put}
use Rattle.record.specs.Types.{tile_directory_type}
use Rattle.record.specs.Record.{type_at}
use Rattle.header.specs.Fields.{checksum_enabled}
use Rattle.bodies.specs.TileDirectory.{reference_size}
use Rattle.written_records.specs.Pieces.{sealed}
use Rattle.pieces.specs.Pieces.{free_record, is_free}

-- Req 03, reading 12: a free record takes n bytes if it is as long, or if a record's least length is left over
unfoldable pub takes : ℕ → List ℕ → Bool
takes n r = is_free r && (eqb (length r) n || leb (n + 16) (length r))

-- Req 03, reading 8: what is left over of it is a free record too
unfoldable pub left_over : ℕ → ℕ → List (List ℕ)
left_over flag n = pick (eqb n 0) [] (free_record flag n ∷ [])

-- Req 03, reading 12: where n bytes go, the first of the records starting at `at`: into the lowest that takes them, else to the end
unfoldable pub place_for : ℕ → ℕ → List (List ℕ) → ℕ
place_for at n [] = at
place_for at n (r ∷ rs) = pick (takes n r) at (place_for (at + length r) n rs)

-- how long the record is that takes them; at the end, as long as they are
unfoldable pub room_for : ℕ → List (List ℕ) → ℕ
room_for n [] = n
room_for n (r ∷ rs) = pick (takes n r) (length r) (room_for n rs)

-- the records with v there
unfoldable pub placed : ℕ → List ℕ → List (List ℕ) → List (List ℕ)
placed flag v [] = v ∷ []
placed flag v (r ∷ rs) = pick (takes (length v) r) (v ∷ (left_over flag (length r - length v) ++ rs)) (r ∷ placed flag v rs)

-- a record with its checksum made anew
unfoldable pub resealed : ℕ → List ℕ → List ℕ
resealed flag r = sealed flag r 0 (length r)

-- a tile directory with the bytes w at `at`, resealed; other records as they are
unfoldable pub referring : ℕ → ℕ → List ℕ → List ℕ → List ℕ
referring flag at w r = pick (eqb (type_at r 0) tile_directory_type) (resealed flag (put r at w)) r

-- G Table 21: a reference of w bytes to a content's position, or 0: one of eight bytes as it is, a compact one of four divided by 8
unfoldable pub reference_bytes : ℕ → ℕ → List ℕ
reference_bytes w content = bytes_of w (pick (eqb w 8) content (content / 8))

-- Req 03, reading 6: reference number i of the directory of page s set to it
unfoldable pub with_reference : List ℕ → ℕ → ℕ → List ℕ → List ℕ
with_reference s i content =
    referring (checksum_enabled s) (32 + reference_size s * i) (reference_bytes (reference_size s) content)
