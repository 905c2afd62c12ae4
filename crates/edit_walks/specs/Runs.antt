-- What the walks ask of a record, of a run of free records, and of an element.
use Rattle.std.specs.Prelude.{ℕ, ◌+◌, ◌-◌, List, Bool, false, ◌||◌, leb, eqb}
use Rattle.wire.specs.Pick.{pick}
use Rattle.record.specs.Types.{free_type}
use Rattle.geometry.specs.Sizes.{element_bytes}
use Rattle.bodies.specs.TileRecord.{section_length}
use Rattle.edit_walks.specs.declared.Spot.{Spot}

-- a record of a type is free, or is freed
unfoldable pub loose_by : ℕ → Bool → Bool
loose_by kind freed = eqb kind free_type || freed

-- the run from `from` on is due, with the record at x more, which is freed or not
unfoldable pub due_by : Bool → Bool → ℕ → ℕ → Bool
due_by due freed from x = due || (freed || leb (from + 1) x)

-- a run of g bytes takes n, as one free record would (`takes`)
unfoldable pub fits_run : ℕ → ℕ → Bool
fits_run n g = pick (eqb g 0) false (eqb g n || leb (n + 16) g)

-- where n bytes go if the records end at x, with a run open from `from`
unfoldable pub last_spot : ℕ → ℕ → ℕ → Spot
last_spot from x n = pick (fits_run n (x - from)) (record { at = from; room = x - from }) (record { at = x; room = n })

-- element e of the tile record at x is uncompressed
unfoldable pub plain_element : List ℕ → ℕ → ℕ → Bool
plain_element s x e = eqb (section_length s x e) (element_bytes s e)
