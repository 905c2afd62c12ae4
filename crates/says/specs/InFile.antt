-- What of the places and texts that a page says lies in an accepted file, and what they are (document 01, stages 3 and 8; Req 06). The names
-- of methods are any bytes.
use Rattle.std.specs.Prelude.{ℕ, ◌+◌, ◌≤◌, ◌<◌, ◌≡◌, true, length, Ok}
use mathlib.Core.List.{List, Memᴰ}
use Rattle.wire.specs.Bytes.{u16_at, part}
use Rattle.utf8.specs.Utf8.{utf8}
use Rattle.header.specs.Names.{identifier, longest_name}
use Rattle.header.specs.Texts.{text_right}
use Rattle.header.specs.Fields.{element_count}
use Rattle.header.specs.Element.{element_name, unit_place, unit_length}
use Rattle.header.specs.Tail.{method_count}
use Rattle.bodies.specs.MetadataRecord.{metadata_name, content_length_at, metadata_length, metadata_description_at}
use Rattle.page_check.specs.Stages.{check}
use Rattle.says.specs.Methods.{method_at}
use Rattle.says.specs.Metadata.{metadata_records}
use Rattle.says.specs.Further.{uuid_length, said_of_page, said_of_element}

-- of the metadata record at x: its name, which is an identifier, its content, and its description, which is UTF-8
pub record RecordIn (s : List ℕ) (x : ℕ) : Type 0 where
  pub name : x + 10 + u16_at s (x + 8) ≤ length s
  pub name_right : identifier longest_name (metadata_name s x) ≡ true
  pub content : content_length_at s x + 4 + metadata_length s x ≤ length s
  pub description : metadata_description_at s x + 2 + u16_at s (metadata_description_at s x) ≤ length s
  pub description_right : text_right s (metadata_description_at s x) ≡ true

-- the n bytes at `at` lie in the file and are UTF-8
pub record TextIn (s : List ℕ) (at n : ℕ) : Type 0 where
  pub inside : at + n ≤ length s
  pub right : utf8 (part s at n) ≡ true

-- of the page: its product label, its UUID and its coordinates; raster space and coordinate system are 0 to 2
pub record PageIn (s : List ℕ) : Type 0 where
  pub label : TextIn s (said_of_page s).label (said_of_page s).label_length
  pub uuid : (said_of_page s).uuid + uuid_length ≤ length s
  pub coordinates : (said_of_page s).coordinates + (said_of_page s).coordinates_length ≤ length s
  pub raster_space_lem : (said_of_page s).raster_space ≤ 2
  pub coordinate_system_lem : (said_of_page s).coordinate_system ≤ 2

-- of element e: its name is an identifier; its label, its description and its unit
pub record ElementIn (s : List ℕ) (e : ℕ) : Type 0 where
  pub name_right : identifier longest_name (element_name s e) ≡ true
  pub label : TextIn s (said_of_element s e).texts.label (said_of_element s e).texts.label_length
  pub description : TextIn s (said_of_element s e).texts.description (said_of_element s e).texts.description_length
  pub unit : TextIn s (unit_place s e) (unit_length s e)

pub record TextsIn (s : List ℕ) : Type 0 where
  pub page : PageIn s
  pub elements : (e : ℕ) → e < element_count s → ElementIn s e
  pub records : {x : ℕ} → Memᴰ x (metadata_records s) → RecordIn s x
  pub methods : (k : ℕ) → k < method_count s → method_at s k + 2 + u16_at s (method_at s k) ≤ length s

abbrev pub SaidInFile : Type 0
SaidInFile = (s : List ℕ) → check s ≡ Ok tt → TextsIn s
