-- Req 05: the writes behind the header that the calls are made of. A record is one write of its bytes. `room` is the buffer's length,
-- flag the header's: whether checksums are on; d is the buffer when the writes begin.
use Rattle.std.specs.Prelude.{ℕ, zero, suc, ◌+◌, ◌*◌, ◌-◌, List, [], ◌∷◌, ◌++◌, Bool, false, ◌||◌, length, get_or, leb, eqb}
use Rattle.wire.specs.Pick.{pick}
use Rattle.wire.specs.Tests.{sum_below}
use Rattle.wire.specs.Bytes.{part}
use Rattle.record.specs.Types.{free_type}
use Rattle.record.specs.Record.{length_at, type_at}
use Rattle.geometry.specs.Sizes.{stored_size}
use Rattle.pieces.specs.Pieces.{free_record}
use Rattle.pieces.specs.Edits.{reference_bytes}
use Rattle.stores.specs.Stores.{Write, run}
use Rattle.stores.specs.Writes.{one_write, whole_write, seal_write}

-- a run of free records from `from` up to `to` made one, where it is due
unfoldable pub free_run_writes : ℕ → ℕ → ℕ → ℕ → Bool → List Write
free_run_writes room flag from to due = pick due (whole_write room from (free_record flag (to - from))) []

-- Req 03, readings 8 and 9, of the records of s at the positions xs: those of which p holds freed, and runs of free records joined, in
-- file order. Behind the last record that is not free a run stands open from `from` up to `at`; it is due, if it has a record that is
-- freed, or more than one
unfoldable pub join_writes : ℕ → ℕ → List ℕ → (ℕ → Bool) → ℕ → ℕ → Bool → List ℕ → List Write
join_writes room flag s p from at due [] = free_run_writes room flag from at due
join_writes room flag s p from at due (x ∷ xs) =
    pick (eqb (type_at s x) free_type || p x)
    (join_writes room flag s p from (x + length_at s x) (due || (p x || leb (from + 1) x)) xs)
    (free_run_writes room flag from at due ++ join_writes room flag s p (x + length_at s x) (x + length_at s x) false xs)

-- the rest of a free record that is taken in part
unfoldable pub rest_writes : ℕ → ℕ → ℕ → ℕ → List Write
rest_writes room flag at n = pick (eqb n 0) [] (whole_write room at (free_record flag n))

-- sizes as they are handed on, in a list of numbers: that of element e
unfoldable pub size_in : List ℕ → ℕ → ℕ
size_in us e = get_or us e 0

-- Req 03, reading 10: the cell bytes of the first n elements over those of the plain tile record at x, where u gives each element's
-- uncompressed bytes
unfoldable pub cell_writes : ℕ → (ℕ → ℕ) → List ℕ → ℕ → List Write
cell_writes x u c zero = []
cell_writes x u c (suc e) = cell_writes x u c e ++ one_write (x + 16 + sum_below e (λ j. stored_size (u j))) (part c (sum_below e u) (u e))

-- and the checksum of the record, n bytes long
unfoldable pub over_writes : ℕ → ℕ → ℕ → (ℕ → ℕ) → ℕ → List ℕ → List ℕ → List Write
over_writes flag x n u m c d = cell_writes x u c m ++ seal_write flag x n (run (cell_writes x u c m) d)

-- G Table 21: reference number i of the tile directory at x, of w bytes, set to a content's position, or to 0
unfoldable pub reference_write : ℕ → ℕ → ℕ → ℕ → ℕ → List Write
reference_write room x w i content = whole_write room (x + (32 + w * i)) (reference_bytes w content)

-- and the checksum of the directory, n bytes long
unfoldable pub refer_writes : ℕ → ℕ → ℕ → ℕ → ℕ → ℕ → List ℕ → List Write
refer_writes flag x n w i content d =
    reference_write (length d) x w i content ++ seal_write flag x n (run (reference_write (length d) x w i content) d)
