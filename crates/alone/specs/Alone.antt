-- Req 03: the rules of a record depend on its bytes and on a few fields of the header. It is said of two files in
-- which the same record stands.
use Rattle.std.specs.Prelude.{ℕ, ◌+◌, ◌≤◌, ◌<◌, ◌≡◌, List, ◌++◌, Bool, true, length, None}
use Rattle.wire.specs.Bytes.{part}
use Rattle.record.specs.Chain.{header_end, Whole, joined, WellFormed}
use Rattle.record.specs.Record.{length_at, record_ok}
use Rattle.header.specs.Fields.{checksum_enabled, element_count}
use Rattle.geometry.specs.Tiles.{tile_count}
use Rattle.geometry.specs.Sizes.{element_bytes}
use Rattle.check_header.specs.HeaderRecord.{header_right}
use Rattle.bodies.specs.TileRecord.{tile_index, section_length, element_content_at}
use Rattle.bodies.specs.MetadataRecord.{metadata_name, record_id, data_type, content_length_at, metadata_length}
use Rattle.check_records.specs.declared.Rule.{Rule}
use Rattle.check_records.specs.declared.Rule.TheVariants.{Checksum, Body}
use Rattle.check_records.specs.Checksum.{checksum_right}
use Rattle.check_records.specs.TileBody.{tile_right}
use Rattle.check_records.specs.MetadataBody.{metadata_right}
use Rattle.check_records.specs.Faults.{right_of, first_wrong, checksum_fault, body_fault}
use Rattle.pieces.specs.Pieces.{pieces_of}
use Rattle.pieces.specs.Standing.{AllOf}

-- the n bytes of s from x on and those of t from y on are there and are the same
pub record Moved (s : List ℕ) (x : ℕ) (t : List ℕ) (y n : ℕ) : Type 0 where
  pub in_first : x + n ≤ length s
  pub in_second : y + n ≤ length t
  pub bytes : part s x n ≡ part t y n

-- as many as the record at x says that it is long, and a record's least length
pub record SameRecord (s : List ℕ) (x : ℕ) (t : List ℕ) (y : ℕ) : Type 0 where
  pub long : 16 ≤ length_at s x
  pub moved : Moved s x t y (length_at s x)

-- what stages 7 and 8 read of the header
pub record SameHeader (s t : List ℕ) : Type 0 where
  pub flag : checksum_enabled s ≡ checksum_enabled t
  pub tiles : tile_count s ≡ tile_count t
  pub count : element_count s ≡ element_count t
  pub sizes : (e : ℕ) → e < element_count s → element_bytes s e ≡ element_bytes t e

-- stage 6 says the same of both, and stages 7 and 8
pub record SameRules (s : List ℕ) (x : ℕ) (t : List ℕ) (y : ℕ) : Type 0 where
  pub stands : record_ok s x ≡ record_ok t y
  pub rules : (rule : Rule) → right_of s rule x ≡ right_of t rule y

abbrev pub Alone : Type 0
Alone = (s : List ℕ) (x : ℕ) (t : List ℕ) (y : ℕ) → SameHeader s t → SameRecord s x t y → SameRules s x t y

-- what a tile record holds; a content starts as far behind the record's start in both
pub record SameTile (s : List ℕ) (x : ℕ) (t : List ℕ) (y : ℕ) : Type 0 where
  pub index : tile_index s x ≡ tile_index t y
  pub lengths : (e : ℕ) → e < element_count s → section_length s x e ≡ section_length t y e
  pub places : (e : ℕ) → x + element_content_at t y e ≡ y + element_content_at s x e
  pub contents :
      (e : ℕ) → e < element_count s → part s (element_content_at s x e) (section_length s x e) ≡ part t (element_content_at t y e) (section_length t y e)

abbrev pub TileAlone : Type 0
TileAlone = (s : List ℕ) (x : ℕ) (t : List ℕ) (y : ℕ) → SameRecord s x t y → tile_right s x ≡ true → SameTile s x t y

-- what a metadata record holds
pub record SameMetadata (s : List ℕ) (x : ℕ) (t : List ℕ) (y : ℕ) : Type 0 where
  pub name : metadata_name s x ≡ metadata_name t y
  pub id : record_id s x ≡ record_id t y
  pub code : data_type s x ≡ data_type t y
  pub long : metadata_length s x ≡ metadata_length t y
  pub place : x + content_length_at t y ≡ y + content_length_at s x
  pub content : part s (content_length_at s x + 4) (metadata_length s x) ≡ part t (content_length_at t y + 4) (metadata_length t y)

abbrev pub MetadataAlone : Type 0
MetadataAlone = (s : List ℕ) (x : ℕ) (t : List ℕ) (y : ℕ) → SameRecord s x t y → metadata_right s x ≡ true → SameMetadata s x t y

-- a front: a header that stage 3 passes, of 16 elements at most as stage 4 wants, and no byte more
pub record Front (f : List ℕ) : Type 0 where
  pub whole : header_end f ≡ length f
  pub right : header_right f (length f) ≡ true
  pub few : element_count f ≤ 16

-- a record's rule, asked of the record directly behind a front
unfoldable pub alone : List ℕ → Rule → List ℕ → Bool
alone f rule r = right_of (f ++ r) rule (length f)

abbrev pub AllAlone : List ℕ → Rule → List (List ℕ) → Type 0
AllAlone f rule rs = AllOf (λ r. alone f rule r ≡ true) rs

-- so stages 7 and 8 of a page are asked piece by piece, behind any front whose header says the same
pub record PieceByPiece (f : List ℕ) : Type 0 where
  -- the pieces of a page that passes keep the rule
  pub taken :
      (s : List ℕ) → SameHeader s f → (at : ℕ) (xs : List ℕ) → Whole s at xs → (rule : Rule) → first_wrong s rule xs ≡ None →
      AllAlone f rule (pieces_of s xs)
  -- and a page of pieces that keep it passes
  pub checksums :
      (rs : List (List ℕ)) → WellFormed rs → checksum_right (f ++ joined rs) 16 ≡ true → AllAlone f Checksum rs → checksum_fault (f ++ joined rs) ≡ None
  pub bodies : (rs : List (List ℕ)) → WellFormed rs → AllAlone f Body rs → body_fault (f ++ joined rs) ≡ None

abbrev pub ByPieces : Type 0
ByPieces = (f : List ℕ) → Front f → PieceByPiece f
