-- The numbers of a page and of an element, in the order in which `out` takes them. Of a refusal its place, and zeros.
use Rattle.answer.specs.declared.Refusal.{Refusal}
use Rattle.std.specs.Prelude.{ℕ, List, [], ◌∷◌, replicate, Ok, Err, Result}
use Rattle.answer.specs.Refusals.{refusal_place}
use Rattle.store.specs.declared.description.PageNumbers.{PageNumbers}
use Rattle.store.specs.declared.description.ElementNumbers.{ElementNumbers}
use Rattle.says.specs.declared.further.PageSaid.{PageSaid}
use Rattle.says.specs.declared.further.ElementSaid.{ElementSaid}

-- grid rows and columns, tile rows and columns, tiles down and across, elements, bytes of a tile, length of the front, tile records,
-- metadata records, time modified, checksums
abbrev pub numbers_in_order : PageNumbers → List ℕ
numbers_in_order x =
    x.shape.rows ∷ x.shape.columns ∷ x.shape.tile_rows ∷ x.shape.tile_columns ∷ x.tiles_down ∷ x.tiles_across
    ∷ x.shape.elements ∷ x.tile_bytes ∷ x.front ∷ x.tile_records ∷ x.metadata_records ∷ x.time_modified ∷ x.checksums ∷ []

abbrev pub page_numbers : Result PageNumbers Refusal → List ℕ
page_numbers (Ok x) = numbers_in_order x
page_numbers (Err r) = refusal_place r ∷ replicate 12 0

-- behind these thirteen place and length of the product label, the UUID's place, the number of methods, raster space, coordinate system,
-- place and length of the coordinates
abbrev pub numbers_said : PageNumbers → PageSaid → List ℕ
numbers_said x y =
    x.shape.rows ∷ x.shape.columns ∷ x.shape.tile_rows ∷ x.shape.tile_columns ∷ x.tiles_down ∷ x.tiles_across
    ∷ x.shape.elements ∷ x.tile_bytes ∷ x.front ∷ x.tile_records ∷ x.metadata_records ∷ x.time_modified ∷ x.checksums
    ∷ y.label ∷ y.label_length ∷ y.uuid ∷ y.methods ∷ y.raster_space ∷ y.coordinate_system ∷ y.coordinates
    ∷ y.coordinates_length ∷ []

abbrev pub page_numbers_said : PageSaid → Result PageNumbers Refusal → List ℕ
page_numbers_said y (Ok x) = numbers_said x y
page_numbers_said y (Err r) = refusal_place r ∷ replicate 20 0

-- type code, bits of the fill, place and length of the name; by Req 10 those of the unit
abbrev pub element_numbers : Result ElementNumbers Refusal → List ℕ
element_numbers (Ok n) = n.kind ∷ n.fill ∷ n.name ∷ n.name_length ∷ n.unit ∷ n.unit_length ∷ []
element_numbers (Err r) = refusal_place r ∷ replicate 5 0

-- place and length of the label and of the description, continuous, the bits of minimum and maximum, and those of the Floats of an
-- integer-coded element: minimum, maximum, fill, scale, offset
abbrev pub further_in_order : ElementSaid → List ℕ
further_in_order y =
    y.texts.label ∷ y.texts.label_length ∷ y.texts.description ∷ y.texts.description_length ∷ y.continuous ∷ y.minimum ∷ y.maximum
    ∷ y.coded.minimum ∷ y.coded.maximum ∷ y.coded.fill ∷ y.coded.scale ∷ y.coded.offset ∷ []

-- behind an element's six numbers the further ones
abbrev pub element_numbers_said : ElementSaid → Result ElementNumbers Refusal → List ℕ
element_numbers_said y (Ok n) = n.kind ∷ n.fill ∷ n.name ∷ n.name_length ∷ n.unit ∷ n.unit_length ∷ further_in_order y
element_numbers_said y (Err r) = refusal_place r ∷ replicate 17 0
