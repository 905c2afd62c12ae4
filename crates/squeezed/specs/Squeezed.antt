-- Req 11: what is promised of plans, and of pages that are squeezed.
use Rattle.std.specs.Prelude.{ℕ, suc, ◌+◌, ◌-◌, ◌≤◌, ◌<◌, ◌≡◌, length, eqb, leb, Bool, true, false}
use mathlib.Core.List.{List, [], ◌∷◌, ◌++◌, map, Memᴰ}
use Rattle.wire.specs.Pick.{pick}
use Rattle.wire.specs.Bytes.{Bytes}
use Rattle.record.specs.Record.{content_at, length_at, type_at}
use Rattle.record.specs.Chain.{header_end, records_of}
use Rattle.pieces.specs.Pieces.{pieces, piece_at, free_record}
use Rattle.page_laws.specs.Tiles.{tiles_of, standing_of, bytes_standing, record_of_tile, Follows}
use Rattle.record.specs.Types.{free_type, tile_type}
use Rattle.header.specs.Fields.{checksum_enabled, time_modified, time_opened}
use Rattle.check_header.specs.Judged.{SameJudged}
use Rattle.geometry.specs.Tiles.{tile_count}
use Rattle.bodies.specs.TileRecord.{tile_index}
use Rattle.bodies.specs.TileDirectory.{tile_reference}
use Rattle.check_directory.specs.TileRules.{tiles_listed, tiles_only}
use Rattle.check_directory.specs.Correspondence.{OneToOne}
use Rattle.writable.specs.Writable.{Open}
use Rattle.correct.specs.Plan.{kept_starts, plan_right, planned_end, tight_plan, end_of, GoodPlan}
use Rattle.correct.specs.Renamed.{renamed_in}
use Rattle.correct.specs.Squeezing.{moved_to, squeezed_page}
use Rattle.correct.specs.Writes.{squeeze_writes}
use Rattle.correct.specs.Front.{page_in}
use Rattle.effects.specs.Effects.{Makes}

-- "The plan that slides every record against the one before it must always be accepted"
abbrev pub TightAccepted : Type 0
TightAccepted = (s : List ℕ) → Open s → plan_right s (tight_plan s) ≡ true

-- "The checker accepts exactly if" each clause holds, of any page
abbrev pub PlanExactly : Type 0
PlanExactly =
    (s ps : List ℕ) → (plan_right s ps ≡ true → GoodPlan s (header_end s) (kept_starts s) ps) × (GoodPlan s (header_end s) (kept_starts s) ps → plan_right s ps ≡ true)

-- a plan by which nothing moves is accepted on every open page
abbrev pub OldAccepted : Type 0
OldAccepted = (s : List ℕ) → Open s → plan_right s (kept_starts s) ≡ true

-- each tile record of s stands in t, where `to` gives its new start, with its index; the directory of t gives for each tile what that
-- of s gives, through `named`, which agrees with `to`
pub record TilesMove (s t : List ℕ) (to named : ℕ → ℕ) : Type 0 where
  pub count : tile_count s ≡ tile_count t
  pub records : records_of t tile_type ≡ map to (records_of s tile_type)
  pub index : (x : ℕ) → Memᴰ x (records_of s tile_type) → tile_index t (to x) ≡ tile_index s x
  pub reference : (i : ℕ) → i < tile_count s → tile_reference t i ≡ named (tile_reference s i)
  pub agree : (x : ℕ) → Memᴰ x (records_of s tile_type) → named (content_at x) ≡ content_at (to x)
  pub zero : named 0 ≡ 0

-- stage 9: the correspondence of tiles and references is kept
abbrev pub TilesMoved : Type 0
TilesMoved = (s t : List ℕ) (to named : ℕ → ℕ) → TilesMove s t to named → OneToOne s → (tiles_listed t ≡ true) × (tiles_only t ≡ true)

-- "Applying an accepted one leaves an open page, kept records unchanged but for references and checksums"; it has the length that the plan
-- gives, which is the end of the last kept record, and is no longer than it was. It follows from the page as by a call that names no tile,
-- tile records keep their order too, and both times stay
pub record SqueezedKeeps (s ps : List ℕ) : Type 0 where
  pub open_page_lem : Open (squeezed_page s ps)
  pub long : length (squeezed_page s ps) ≡ planned_end s ps
  pub last : (k : ℕ) → length (kept_starts s) ≡ suc k → length (squeezed_page s ps) ≡ end_of s (kept_starts s) ps k
  pub shorter : length (squeezed_page s ps) ≤ length s
  pub follows : Follows s (squeezed_page s ps) (λ j. false) (tiles_of s)
  pub tile_bytes_lem : bytes_standing tile_type (squeezed_page s ps) ≡ bytes_standing tile_type s
  pub judged : SameJudged s (squeezed_page s ps)
  pub time : time_opened (squeezed_page s ps) ≡ time_opened s
  pub modified : time_modified (squeezed_page s ps) ≡ time_modified s

abbrev pub SqueezedOpen : Type 0
SqueezedOpen = (s : List ℕ) → Bytes s → Open s → (ps : List ℕ) → plan_right s ps ≡ true → SqueezedKeeps s ps

-- the records that are not free, each with its place and its bytes, the first piece at `at`
unfoldable pub kept_standing : ℕ → List (List ℕ) → List (ℕ × List ℕ)
kept_standing at [] = []
kept_standing at (r ∷ rs) = pick (eqb (type_at r 0) free_type) (kept_standing (at + length r) rs) ((at, r) ∷ kept_standing (at + length r) rs)

unfoldable pub kept_standing_of : List ℕ → List (ℕ × List ℕ)
kept_standing_of s = kept_standing (header_end s) (pieces s)

-- each kept record of s at its new start, its references renamed
unfoldable pub moved_records : (ℕ → ℕ) → List ℕ → List ℕ → List ℕ → List (ℕ × List ℕ)
moved_records named s [] ps = []
moved_records named s (x ∷ xs) [] = []
moved_records named s (x ∷ xs) (p ∷ ps) = (p, renamed_in s named (piece_at s x)) ∷ moved_records named s xs ps

-- "A plan gives, for each record after the header that is not free, in file order, a new start": there it stands, and no other does
abbrev pub SqueezedStands : Type 0
SqueezedStands =
    (s : List ℕ) → Bytes s → Open s → (ps : List ℕ) → plan_right s ps ≡ true →
    kept_standing_of (squeezed_page s ps) ≡ moved_records (moved_to s ps) s (kept_starts s) ps

-- whether the record of a tile stands before that of another, of tiles that are stored
abbrev pub first_before : List (ℕ × List ℕ) → List (ℕ × List ℕ) → Bool
first_before [] qs = false
first_before (p ∷ ps) [] = false
first_before (p ∷ ps) (q ∷ qs) = leb (suc p.0) q.0

unfoldable pub stands_before : List ℕ → ℕ → ℕ → Bool
stands_before s i j = first_before (record_of_tile s i) (record_of_tile s j)

abbrev pub SqueezedOrder : Type 0
SqueezedOrder =
    (s : List ℕ) → Bytes s → Open s → (ps : List ℕ) → plan_right s ps ≡ true → (i j : ℕ) →
    stands_before (squeezed_page s ps) i j ≡ stands_before s i j

-- the gaps of a plan in file order, one behind the header too: where each starts, and how long it is
unfoldable pub gaps_from : List ℕ → ℕ → List ℕ → List ℕ → List (ℕ × ℕ)
gaps_from s e [] ps = []
gaps_from s e (x ∷ xs) [] = []
gaps_from s e (x ∷ xs) (p ∷ ps) = pick (eqb (p - e) 0) [] ((e, p - e) ∷ []) ++ gaps_from s (p + length_at s x) xs ps

unfoldable pub plan_gaps : List ℕ → List ℕ → List (ℕ × ℕ)
plan_gaps s ps = gaps_from s (header_end s) (kept_starts s) ps

abbrev pub zeroed_gap : ℕ → ℕ × ℕ → ℕ × List ℕ
zeroed_gap flag g = (g.0, free_record flag g.1)

-- "makes each gap one zeroed free record": the free records, each with its place and its bytes, are the gaps, zeroed, and there is no other
abbrev pub SqueezedFree : Type 0
SqueezedFree =
    (s : List ℕ) → Bytes s → Open s → (ps : List ℕ) → plan_right s ps ≡ true →
    standing_of free_type (squeezed_page s ps) ≡ map (zeroed_gap (checksum_enabled s)) (plan_gaps s ps)

-- the tight plan "leaves no free record"
abbrev pub TightFree : Type 0
TightFree = (s : List ℕ) → Bytes s → Open s → records_of (squeezed_page s (tight_plan s)) free_type ≡ []

-- the byte stores make that page, and no byte behind it changes
abbrev pub SqueezeMakes : Type 0
SqueezeMakes =
    (b : List ℕ) (n : ℕ) → Bytes b → n ≤ length b → Open (page_in b n) → (ps : List ℕ) → plan_right (page_in b n) ps ≡ true →
    Makes b (squeeze_writes b (page_in b n) ps) (squeezed_page (page_in b n) ps) (planned_end (page_in b n) ps)
