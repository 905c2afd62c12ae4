-- Req 03, storing and removing a tile: an edit of a page behind the same front. Tile records are freed, new tile records are stored, one
-- or none, and tile directories are changed in place.
use Rattle.std.specs.Prelude.{ℕ, ◌≤◌, ◌≡◌, List, [], ◌∷◌, ◌++◌, map, Bool, true, length, None}
use Rattle.wire.specs.Bytes.{Bytes, largest_integer}
use Rattle.record.specs.Types.{free_type, tile_type, tile_directory_type}
use Rattle.record.specs.Record.{length_at, type_at, record_ok}
use Rattle.record.specs.Chain.{joined}
use Rattle.header.specs.Fields.{checksum_enabled}
use Rattle.check_records.specs.declared.Rule.{Rule}
use Rattle.check_records.specs.declared.Rule.TheVariants.{Checksum, Body}
use Rattle.check_records.specs.Faults.{chain_fault, checksum_fault, body_fault}
use Rattle.check_lists.specs.Metadata.{metadata_directory_right}
use Rattle.pieces.specs.Pieces.{nothing_to_join, freeing}
use Rattle.pieces.specs.Edits.{place_for, placed}
use Rattle.pieces.specs.Standing.{AllOf, standing, without, Inserted}
use Rattle.alone.specs.Alone.{Front, alone}

-- a piece by itself: a record, no byte more, and bytes
pub record Piece (r : List ℕ) : Type 0 where
  pub ok : record_ok r 0 ≡ true
  pub stated : length_at r 0 ≡ length r
  pub bytes : Bytes r

-- g changes records of a type alone; those of which P holds keep length and type, stay pieces, and keep their rules where these held
pub record Touches (f : List ℕ) (P : List ℕ → Type 0) (kind : ℕ) (g : List ℕ → List ℕ) : Type 0 where
  pub others : (r : List ℕ) → (type_at r 0 ≡ kind → ⊥) → g r ≡ r
  pub long : (r : List ℕ) → P r → length (g r) ≡ length r
  pub type : (r : List ℕ) → P r → type_at (g r) 0 ≡ type_at r 0
  pub piece : (r : List ℕ) → P r → Piece (g r)
  pub rules : (r : List ℕ) → P r → (rule : Rule) → alone f rule r ≡ true → alone f rule (g r) ≡ true

-- records stored one after the other
unfoldable pub placed_each : ℕ → List (List ℕ) → List (List ℕ) → List (List ℕ)
placed_each flag [] rs = rs
placed_each flag (v ∷ vs) rs = placed_each flag vs (placed flag v rs)

-- those of which p holds freed, vs stored, g done to all
unfoldable pub edited : ℕ → (List ℕ → Bool) → List (List ℕ) → (List ℕ → List ℕ) → List (List ℕ) → List (List ℕ)
edited flag p vs g rs = map g (placed_each flag vs (freeing flag p rs))

-- a new tile record, right by itself
pub record New (f v : List ℕ) : Type 0 where
  pub piece : Piece v
  pub type : type_at v 0 ≡ tile_type
  pub checksum : alone f Checksum v ≡ true
  pub body : alone f Body v ≡ true

pub record Edit (f : List ℕ) (rs : List (List ℕ)) (flag : ℕ) (p : List ℕ → Bool) (vs : List (List ℕ)) (g : List ℕ → List ℕ) : Type 0 where
  pub front : Front f
  pub flagged : flag ≡ checksum_enabled f
  pub pieces : AllOf Piece rs
  pub room : length (joined rs) ≤ largest_integer
  pub freed : (r : List ℕ) → p r ≡ true → type_at r 0 ≡ tile_type
  pub new : AllOf (New f) vs
  pub touches : Touches f Piece tile_directory_type g

-- m is l with each of vs inserted, where it is placed in its turn among the pieces rs
abbrev pub InsertedEach : ℕ → ℕ → List (List ℕ) → List (List ℕ) → List (ℕ × List ℕ) → List (ℕ × List ℕ) → Type 0
InsertedEach flag at [] rs l m = m ≡ l
InsertedEach flag at (v ∷ vs) rs l m =
    Inserted l (place_for at (length v) rs, v) (standing tile_type at (placed flag v rs))
    × InsertedEach flag at vs (placed flag v rs) (standing tile_type at (placed flag v rs)) m

-- a piece changed where it stands
abbrev pub touched : (List ℕ → List ℕ) → ℕ × List ℕ → ℕ × List ℕ
touched g q = (q.0, g q.1)

-- the new page's pieces are pieces; it keeps stages 6 to 8 and the metadata rules; its tile records are the old ones without the
-- freed, and the new ones; its tile directories stand where they stood, and so do records of other types, as they were; it is as long
-- as the placed ones
pub record Keeps (f : List ℕ) (rs : List (List ℕ)) (flag : ℕ) (p : List ℕ → Bool) (vs : List (List ℕ)) (g : List ℕ → List ℕ) : Type 0 where
  pub pieces : AllOf Piece (edited flag p vs g rs)
  pub chain : chain_fault (f ++ joined (edited flag p vs g rs)) ≡ None
  pub checksums : checksum_fault (f ++ joined rs) ≡ None → checksum_fault (f ++ joined (edited flag p vs g rs)) ≡ None
  pub bodies : body_fault (f ++ joined rs) ≡ None → body_fault (f ++ joined (edited flag p vs g rs)) ≡ None
  pub metadata :
      body_fault (f ++ joined rs) ≡ None → metadata_directory_right (f ++ joined rs) ≡ metadata_directory_right (f ++ joined (edited flag p vs g rs))
  pub tiles :
      InsertedEach flag (length f) vs (freeing flag p rs) (without p (standing tile_type (length f) rs)) (standing tile_type (length f) (edited flag p vs g rs))
  pub directories : standing tile_directory_type (length f) (edited flag p vs g rs) ≡ map (touched g) (standing tile_directory_type (length f) rs)
  pub others :
      (kind : ℕ) → (kind ≡ free_type → ⊥) → (kind ≡ tile_type → ⊥) → (kind ≡ tile_directory_type → ⊥) →
      standing kind (length f) rs ≡ standing kind (length f) (edited flag p vs g rs)
  pub none : nothing_to_join (edited flag p vs g rs) ≡ true
  pub long : length (joined (edited flag p vs g rs)) ≡ length (joined (placed_each flag vs (freeing flag p rs)))

abbrev pub EditKeeps : Type 0
EditKeeps =
    (f : List ℕ) (rs : List (List ℕ)) (flag : ℕ) (p : List ℕ → Bool) (vs : List (List ℕ)) (g : List ℕ → List ℕ) → Edit f rs flag p vs g →
    Keeps f rs flag p vs g
