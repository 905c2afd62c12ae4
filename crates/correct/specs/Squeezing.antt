-- Req 11: what an accepted plan makes of a page. s is the page, ps the plan.
use Rattle.std.specs.Prelude.{ℕ, ◌+◌, ◌-◌, List, [], ◌∷◌, ◌++◌, take}
use Rattle.wire.specs.Bytes.{bytes_of, put}
use Rattle.record.specs.Record.{length_at}
use Rattle.record.specs.Chain.{header_end, joined}
use Rattle.header.specs.Fields.{checksum_enabled, metadata_reference, tile_directory_reference}
use Rattle.pieces.specs.Pieces.{piece_at}
use Rattle.pieces.specs.Edits.{left_over}
use Rattle.correct.specs.Front.{sealed_front}
use Rattle.correct.specs.Plan.{kept_starts}
use Rattle.correct.specs.Renamed.{named_by, renamed_in}

-- "makes each gap one zeroed free record" (Req 11, reading 6)
unfoldable pub squeezed_from : ℕ → (ℕ → ℕ) → List ℕ → ℕ → List ℕ → List ℕ → List (List ℕ)
squeezed_from flag named s e [] ps = []
squeezed_from flag named s e (x ∷ xs) [] = []
squeezed_from flag named s e (x ∷ xs) (p ∷ ps) =
    left_over flag (p - e) ++ (renamed_in s named (piece_at s x) ∷ squeezed_from flag named s (p + length_at s x) xs ps)

unfoldable pub moved_to : List ℕ → List ℕ → ℕ → ℕ
moved_to s ps c = named_by (kept_starts s) ps c

unfoldable pub squeezed_pieces : List ℕ → List ℕ → List (List ℕ)
squeezed_pieces s ps = squeezed_from (checksum_enabled s) (moved_to s ps) s (header_end s) (kept_starts s) ps

-- Req 11, reading 7: the header's references to both directories; the times stay
unfoldable pub squeezed_fields : List ℕ → List ℕ → List ℕ
squeezed_fields s ps =
    put (put (take (header_end s) s) 64 (bytes_of 8 (moved_to s ps (metadata_reference s)))) 80 (bytes_of 8 (moved_to s ps (tile_directory_reference s)))

unfoldable pub squeezed_page : List ℕ → List ℕ → List ℕ
squeezed_page s ps = sealed_front s (squeezed_fields s ps) ++ joined (squeezed_pieces s ps)
