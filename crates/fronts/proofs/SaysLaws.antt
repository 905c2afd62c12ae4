-- Bytes that carry a description's fields say what was told. Assumes nothing.
use Prim.Native.Nat.{ℕ, ◌+◌, ◌%◌, ◌≤◌, ◌<◌}
use mathlib.Core.Path.{◌≡◌, sym, ap, ◌∙◌}
use mathlib.Core.List.{List}
use native.Mathlib.Omega.{arith}
use lib.ListN.{length}
use Rattle.wire.specs.Bytes.{byte_at, part}
use Rattle.wire.proofs.ByteLaws.{part_whole}
use Rattle.wire.proofs.PlaceLaws.{Placed, placed_part, placed_byte, placed_value}
use Rattle.header.specs.Fields.{grid_rows, grid_columns, tile_rows, tile_columns, checksum_enabled, element_count, header_limit}
use Rattle.header.specs.Element.{element, element_name, entry_at, string_end, entry_end, entry_start}
use Rattle.header.specs.Texts.{string_text, entry_texts}
use Rattle.header.specs.Tail.{methods_at, method_count, product_label_at, fields_end}
use Rattle.fronts.specs.Front.{Description, Fits, string_of, entry_of, entries_of, methods_of, body_of}
use Rattle.fronts.specs.Judged.{texts_told, method_start, ElementSays, FrontSays}
use Rattle.fronts.proofs.EntryLaws.{strung_each, strung_within, string_length, string_ends, string_text_lem, entry_length_lem, entry_holds, entry_ends, kind_says, continuous_says, block_says, name_states, name_says, fill_says, label_text, description_text, unit_text, texts_judged}
use Rattle.fronts.proofs.FieldLaws.{Carries, advance_strung, strung_fours, body_length, elements_small, methods_small}

module _ (d : Description) (f : Fits d) (s : List ℕ) (c : Carries s d) where
  pub rows_say : grid_rows s ≡ d.rows
  rows_say = placed_value 4 d.rows c.rows f.rows

  pub columns_say : grid_columns s ≡ d.columns
  columns_say = placed_value 4 d.columns c.columns f.columns

  pub tile_rows_say : tile_rows s ≡ d.tile_rows_lem
  tile_rows_say = placed_value 4 d.tile_rows_lem c.tile_rows_lem f.tile_rows_lem

  pub tile_columns_say : tile_columns s ≡ d.tile_columns_lem
  tile_columns_say = placed_value 4 d.tile_columns_lem c.tile_columns_lem f.tile_columns_lem

  pub count_says : element_count s ≡ d.elements
  count_says = placed_value 4 d.elements c.count (omega (arith, elements_small d f))

  pub flag_says : checksum_enabled s ≡ d.flag
  unfolding byte_at
  flag_says = placed_byte c.flag 0 (omega arith)

  pub uuid_says : part s 24 16 ≡ d.uuid
  uuid_says =
      let p = placed_part c.uuid 0 16 (omega (arith, f.uuid)) in
      p ∙ ap (part d.uuid 0) (sym f.uuid) ∙ part_whole d.uuid

  -- the entries, one behind the other

  pub entry_placed : (e : ℕ) → e < d.elements → Placed s (284 + length (entries_of d e)) (entry_of (d.element e))
  unfolding entries_of
  entry_placed e h = strung_each d.elements (λ i. entry_of (d.element i)) c.entries e h

  pub entry_four : (e : ℕ) → (284 + length (entries_of d e)) % 4 ≡ 0
  unfolding entries_of
  entry_four e =
      let a = strung_fours (λ i. entry_of (d.element i)) e (λ i h. rw (entry_length_lem (d.element i)) (entry_holds (d.element i)).1) in
      omega arith

  pub starts_say : (e : ℕ) → e ≤ d.elements → entry_start s e ≡ 284 + length (entries_of d e)
  unfolding entry_start entries_of
  starts_say e h =
      let g : ℕ → List ℕ = λ i. entry_of (d.element i) in
      let w = strung_within d.elements g e h in
      advance_strung (entry_end s) (header_limit s) 284 g e
      (λ i k. entry_ends (d.element i) (f.each i (omega arith)) (entry_placed i (omega arith)) (entry_four i) ∙ rw (entry_length_lem (d.element i)))
      (omega (arith, c.limit, body_length d f.uuid))

  pub methods_at_lem : methods_at s ≡ 284 + length (entries_of d d.elements)
  unfolding methods_at
  methods_at_lem = rw count_says (starts_say d.elements (omega arith))

  pub methods_say : method_count s ≡ d.methods
  unfolding method_count
  methods_say =
      rw methods_at_lem (placed_value 4 d.methods c.method_count_lem (omega (arith, methods_small d f)))

  method_placed : (i : ℕ) → i < d.methods → Placed s (288 + length (entries_of d d.elements) + length (methods_of d i)) (string_of (d.method i))
  unfolding methods_of
  method_placed i h =
      strung_each d.methods (λ j. string_of (d.method j)) c.methods i h

  pub method_starts : (i : ℕ) → i ≤ d.methods → method_start s i ≡ 288 + length (entries_of d d.elements) + length (methods_of d i)
  unfolding method_start methods_of
  method_starts i h =
      let g : ℕ → List ℕ = λ j. string_of (d.method j) in
      let at = 288 + length (entries_of d d.elements) in
      let e : methods_at s + 4 ≡ at = omega (arith, methods_at_lem) in
      let w = strung_within d.methods g i h in
      rw e
      (advance_strung (string_end s) (header_limit s) at g i
      (λ j k. string_ends (d.method j) (f.methods j (omega arith)) (method_placed j (omega arith)) ∙ rw (string_length (d.method j)))
      (omega (arith, c.limit, body_length d f.uuid)))

  pub method_says_lem : (i : ℕ) → i < d.methods → string_text s (method_start s i) ≡ d.method i
  method_says_lem i h = rw (method_starts i (omega arith)) (string_text_lem (d.method i) (f.methods i h) (method_placed i h))

  pub label_at_lem : product_label_at s ≡ 288 + length (entries_of d d.elements) + length (methods_of d d.methods)
  unfolding product_label_at method_start
  label_at_lem = rw methods_say (method_starts d.methods (omega arith))

  pub label_says : string_text s (product_label_at s) ≡ d.label
  label_says = rw label_at_lem (string_text_lem d.label f.label c.label)

  pub fields_end_lem : fields_end s ≡ 24 + length (body_of d)
  unfolding fields_end
  fields_end_lem =
      rw label_at_lem (ap (λ (n : ℕ). n + 8) (string_ends d.label f.label c.label) ∙ omega (arith, body_length d f.uuid))

  -- an element

  module _ (e : ℕ) (h : e < d.elements) where
    start : entry_start s e ≡ 284 + length (entries_of d e)
    start = starts_say e (omega arith)

    pub kind : (element s e).kind ≡ (d.element e).kind
    unfolding element entry_at
    kind = rw start (kind_says (d.element e) (f.each e h) (entry_placed e h) (entry_four e))

    pub name : element_name s e ≡ (d.element e).name
    unfolding element_name element entry_at
    name =
        let p = entry_placed e h in
        rw (start, name_states (d.element e) (f.each e h) p (entry_four e)) (name_says (d.element e) (f.each e h) p (entry_four e))

    pub texts : entry_texts s (entry_start s e) ≡ texts_told (d.element e)
    texts = rw start (texts_judged (d.element e) (f.each e h) (entry_placed e h) (entry_four e))

    pub element_says : ElementSays s e (d.element e)
    unfolding element entry_at
    element_says =
        let p = entry_placed e h in
        let w = f.each e h in
        let m = entry_four e in
        record {
          kind = kind;
          continuous = rw start (continuous_says (d.element e) w p m);
          name = name;
          block = rw start (block_says (d.element e) w p m);
          fill = rw start (fill_says (d.element e) w p m);
          label = rw start (label_text (d.element e) w p m);
          description = rw start (description_text (d.element e) w p m);
          unit = rw start (unit_text (d.element e) w p m);
        }

  pub says : FrontSays s d
  says =
      record {
        rows = rows_say;
        columns = columns_say;
        tile_rows_lem = tile_rows_say;
        tile_columns_lem = tile_columns_say;
        flag = flag_says;
        uuid = uuid_says;
        elements = count_says;
        each = λ e h. element_says e h;
        methods = methods_say;
        method = method_says_lem;
        label = label_says;
      }
