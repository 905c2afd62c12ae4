-- How a front that is made from a description is judged, and what it says.
use Rattle.std.specs.Prelude.{ℕ, min, ◌+◌, ◌<◌, ◌≡◌, List, [], ◌∷◌, Bool, true, length, leb, eqb, Ok, Result, ⊤}
use Rattle.answer.specs.declared.Refusal.{Refusal}
use Rattle.wire.specs.Pick.{pick}
use Rattle.wire.specs.Tests.{◌≤?◌, is, is_not, passes, all_below, sum_below}
use Rattle.wire.specs.Bytes.{byte_at, part, same_bytes}
use Rattle.wire.specs.Items.{advance}
use Rattle.utf8.specs.Utf8.{utf8}
use Rattle.answer.specs.declared.Refusal.TheVariants.{Header, Ceiling}
use Rattle.answer.specs.Refusals.{gate}
use Rattle.header.specs.Names.{identifier, longest_name}
use Rattle.header.specs.Fields.{grid_rows, grid_columns, tile_rows, tile_columns, checksum_enabled, element_count, header_limit}
use Rattle.header.specs.Element.{element, element_name, entry_start, block_at, block_size, label_at, description_at, unit_at, string_end, integer_coded_kind, short_kind, most_elements}
use Rattle.header.specs.Texts.{string_text}
use Rattle.header.specs.Tail.{methods_at, method_count, product_label_at}
use Rattle.geometry.specs.Tiles.{tiles_in}
use Rattle.geometry.specs.Sizes.{uncompressed}
use Rattle.check_header.specs.HeaderRecord.{positive}
use Rattle.check_header.specs.Ceilings.{most_grid_side, most_tile_side, most_file_bytes, most_tiles, most_tile_bytes}
use Rattle.check_header.specs.Stages.{check_front}
use Rattle.fronts.specs.Front.{Stated, Description, Fits, front_of, block_of, range_number}

-- stage 3, of a description: x is what is said of each element, n their number

unfoldable pub sides_told : ℕ → ℕ → ℕ → ℕ → Bool
sides_told rows columns h w = passes (is (positive rows) ∷ is (positive columns) ∷ is (positive h) ∷ is (positive w) ∷ [])

unfoldable pub names_apart : (ℕ → Stated) → ℕ → ℕ → Bool
names_apart x e i = passes (is_not (same_bytes (x i).name (x e).name) ∷ [])

unfoldable pub texts_told : Stated → Bool
texts_told x = passes (is (utf8 x.label) ∷ is (utf8 x.description) ∷ is (utf8 x.unit) ∷ [])

unfoldable pub element_told : (ℕ → Stated) → ℕ → Bool
element_told x e =
    passes
    (((x e).kind ≤? short_kind) ∷ is (identifier longest_name (x e).name) ∷ is (all_below e (names_apart x e)) ∷ is (texts_told (x e)) ∷ [])

-- the check reads sixteen entries
unfoldable pub elements_told : ℕ → (ℕ → Stated) → Bool
elements_told n x = passes (is (positive n) ∷ is (all_below (min n most_elements) (element_told x)) ∷ [])

unfoldable pub label_told : ℕ → List ℕ → Bool
label_told n label = pick (leb n most_elements) (utf8 label) true

unfoldable pub header_told : Description → Bool
header_told d =
    passes
    (is (sides_told d.rows d.columns d.tile_rows_lem d.tile_columns_lem) ∷ (d.flag ≤? 1) ∷ is (elements_told d.elements d.element)
    ∷ is (label_told d.elements d.label) ∷ [])

-- stage 4

unfoldable pub sides_allowed : ℕ → ℕ → ℕ → ℕ → Bool
sides_allowed rows columns h w =
    passes ((rows ≤? most_grid_side) ∷ (columns ≤? most_grid_side) ∷ (h ≤? most_tile_side) ∷ (w ≤? most_tile_side) ∷ [])

-- the uncompressed bytes of a tile
unfoldable pub tile_told : ℕ → ℕ → ℕ → (ℕ → Stated) → ℕ
tile_told h w n x = sum_below (min n most_elements) (λ e. uncompressed h w (x e).kind)

unfoldable pub counts_allowed : ℕ → ℕ → ℕ → ℕ → ℕ → (ℕ → Stated) → Bool
counts_allowed rows columns h w n x =
    passes ((tiles_in rows columns h w ≤? most_tiles) ∷ (n ≤? most_elements) ∷ (tile_told h w n x ≤? most_tile_bytes) ∷ [])

unfoldable pub ceilings_told : Description → Bool
ceilings_told d =
    passes
    ((length (front_of d) ≤? most_file_bytes) ∷ is (sides_allowed d.rows d.columns d.tile_rows_lem d.tile_columns_lem)
    ∷ is (counts_allowed d.rows d.columns d.tile_rows_lem d.tile_columns_lem d.elements d.element) ∷ [])

unfoldable pub told_verdict : Description → Result ⊤ Refusal
told_verdict d = gate (header_told d) Header (gate (ceilings_told d) Ceiling (Ok tt))

-- the front is judged as its description is: refused exactly if the check would refuse it
abbrev pub FrontJudged : Type 0
FrontJudged = (d : Description) → Fits d → check_front (front_of d) ≡ told_verdict d

-- and says what it was told

pub record ElementSays (s : List ℕ) (e : ℕ) (x : Stated) : Type 0 where
  pub kind : (element s e).kind ≡ x.kind
  pub continuous : byte_at s (entry_start s e + 1) ≡ x.continuous
  pub name : element_name s e ≡ x.name
  pub block : part s (block_at s (entry_start s e)) (block_size x.kind) ≡ block_of x
  pub fill : (element s e).fill ≡ range_number x.kind (x.range (pick (eqb x.kind integer_coded_kind) 7 2))
  pub label : string_text s (label_at s (entry_start s e)) ≡ x.label
  pub description : string_text s (description_at s (entry_start s e)) ≡ x.description
  pub unit : string_text s (unit_at s (entry_start s e)) ≡ x.unit

-- G Table 7: where the name of compression method i stands; behind the last one's stands the product label
unfoldable pub method_start : List ℕ → ℕ → ℕ
method_start s i = advance (string_end s) (header_limit s) i (methods_at s + 4)

pub record FrontSays (s : List ℕ) (d : Description) : Type 0 where
  pub rows : grid_rows s ≡ d.rows
  pub columns : grid_columns s ≡ d.columns
  pub tile_rows_lem : tile_rows s ≡ d.tile_rows_lem
  pub tile_columns_lem : tile_columns s ≡ d.tile_columns_lem
  pub flag : checksum_enabled s ≡ d.flag
  pub uuid : part s 24 16 ≡ d.uuid
  pub elements : element_count s ≡ d.elements
  pub each : (e : ℕ) → e < d.elements → ElementSays s e (d.element e)
  pub methods : method_count s ≡ d.methods
  pub method : (i : ℕ) → i < d.methods → string_text s (method_start s i) ≡ d.method i
  pub label : string_text s (product_label_at s) ≡ d.label

abbrev pub SaysAsTold : Type 0
SaysAsTold = (d : Description) → Fits d → FrontSays (front_of d) d
