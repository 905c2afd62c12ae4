-- Req 03: the records of a page as lists of bytes, and free records among them. flag is the header's: whether checksums are on.
use Rattle.std.specs.Prelude.{ℕ, ◌+◌, ◌-◌, ◌≤◌, ◌≡◌, List, [], ◌∷◌, ◌++◌, map, Bool, true, false, ◌&&◌, length, take, eqb}
use Rattle.wire.specs.Pick.{pick}
use Rattle.wire.specs.Bytes.{bytes_of, part, zeros, largest_integer}
use Rattle.record.specs.Types.{free_type}
use Rattle.record.specs.Record.{length_at, type_at}
use Rattle.record.specs.Chain.{header_end, records, Whole, joined, WellFormed}
use Rattle.written_records.specs.Pieces.{record_head, checksum_for}

-- the record at a position, as bytes
unfoldable pub piece_at : List ℕ → ℕ → List ℕ
piece_at s x = part s x (length_at s x)

-- the records at some positions
unfoldable pub pieces_of : List ℕ → List ℕ → List (List ℕ)
pieces_of s xs = map (piece_at s) xs

-- those of a page
unfoldable pub pieces : List ℕ → List (List ℕ)
pieces s = pieces_of s (records s)

-- where the records run up to the last byte, the page is its front and these, each a record by itself
abbrev pub SplitOf : Type 0
SplitOf =
    (s : List ℕ) → Whole s (header_end s) (records s) → (s ≡ take (header_end s) s ++ joined (pieces s)) × WellFormed (pieces s)

-- "Freed, joined or left-over reserved bytes and content are zeroed" (Req 03, reading 8): such a record of n bytes is of type 0, and its
-- checksum is that of its first eight bytes (G Table 13)
unfoldable pub free_record : ℕ → ℕ → List ℕ
free_record flag n = record_head n free_type ++ zeros (n - 12) ++ bytes_of 4 (checksum_for flag (record_head n free_type))

unfoldable pub is_free : List ℕ → Bool
is_free r = eqb (type_at r 0) free_type

-- "Adjoining free records are always joined" (Req 03, readings 8 and 9): made one, whatever they held; one that stands alone is as it was
unfoldable pub attach : ℕ → List ℕ → List (List ℕ) → List (List ℕ)
attach flag r [] = r ∷ []
attach flag r (q ∷ qs) = pick (is_free r && is_free q) (free_record flag (length r + length q) ∷ qs) (r ∷ q ∷ qs)

unfoldable pub join_free : ℕ → List (List ℕ) → List (List ℕ)
join_free flag [] = []
join_free flag (r ∷ rs) = attach flag r (join_free flag rs)

-- Req 03, reading 18: no two free records adjoin
unfoldable pub nothing_to_join : List (List ℕ) → Bool
nothing_to_join [] = true
nothing_to_join (r ∷ []) = true
nothing_to_join (r ∷ q ∷ qs) = pick (is_free r && is_free q) false (nothing_to_join (q ∷ qs))

-- Req 03, of joining: it keeps the length in all and records, and leaves nothing to join
pub record JoinedFree (flag : ℕ) (rs : List (List ℕ)) : Type 0 where
  pub long : length (joined (join_free flag rs)) ≡ length (joined rs)
  pub formed : WellFormed (join_free flag rs)
  pub none : nothing_to_join (join_free flag rs) ≡ true

abbrev pub JoinFree : Type 0
JoinFree = (flag : ℕ) (rs : List (List ℕ)) → WellFormed rs → length (joined rs) ≤ largest_integer → JoinedFree flag rs

-- Req 03, reading 8: the records of which p holds are freed, each with its extent, and joined
unfoldable pub cleared : ℕ → (List ℕ → Bool) → List ℕ → List ℕ
cleared flag p r = pick (p r) (free_record flag (length r)) r

unfoldable pub freeing : ℕ → (List ℕ → Bool) → List (List ℕ) → List (List ℕ)
freeing flag p rs = join_free flag (map (cleared flag p) rs)
