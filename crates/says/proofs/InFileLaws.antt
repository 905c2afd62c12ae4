-- What lies in an accepted file of the texts that a page says. Assumes nothing.
use Rattle.std.specs.Prelude.{Ok}
use Prim.Native.Nat.{ℕ, ◌+◌, ◌-◌, ◌≤◌, ◌<◌}
use mathlib.Core.Path.{◌≡◌, refl, ◌∙◌}
use mathlib.Core.List.{List}
use mathlib.Core.Bool.{true}
use native.Mathlib.Omega.{arith}
use lib.ListN.{length}
use borrow.Author.Tests.{le-leb}
use Rattle.wire.specs.Bytes.{u16_at}
use Rattle.wire.proofs.TestLaws.{means}
use Rattle.wire.proofs.ItemLaws.{advance_grows, advance_more, advance_mono}
use Rattle.record.specs.Chain.{records}
use Rattle.header.specs.Fields.{element_count, header_limit}
use Rattle.header.specs.Element.{string_size, string_end, most_elements, label_at, description_at, unit_at, entry_start, unit_place, unit_length}
use Rattle.header.specs.Tail.{methods_at, method_count, product_label_at, fields_end}
use Rattle.header.specs.Texts.{string_text, text_right, entry_texts}
use Rattle.header.proofs.SameLaws.{start_least}
use Rattle.bodies.specs.MetadataRecord.{record_id_at, content_length_at, metadata_length, metadata_description_at, metadata_end}
use Rattle.check_header.specs.HeaderRecord.{options_right, element_right, tail_right, header_right}
use Rattle.check_records.specs.Frame.{end_right}
use Rattle.check_records.specs.MetadataBody.{metadata_right}
use Rattle.check_lists.proofs.MetadataLaws.{limit_inside}
use Rattle.page_check.specs.Stages.{check}
use Rattle.page_check.proofs.AcceptedLaws.{accepted_sound}
use Rattle.page_check.proofs.GivenLaws.{sound_range, sound_metadata}
use Rattle.says.specs.Methods.{method_at}
use Rattle.store.proofs.LookupLaws.{right}
use Rattle.store.proofs.DescriptionLaws.{described_in_file}
use Rattle.says.specs.Metadata.{metadata_records}
use Rattle.says.specs.Further.{said_of_page, said_of_element, said_at, texts_at}
use Rattle.says.specs.InFile.{RecordIn, TextIn, PageIn, ElementIn, SaidInFile}

string_there : (s : List ℕ) (at : ℕ) → string_end s at ≡ at + 2 + u16_at s at
unfolding string_end string_size
string_there s at = omega arith

-- a metadata record's

module _ (s : List ℕ) (x : ℕ) (r : metadata_right s x ≡ true) where
  end_inside : metadata_end s x ≤ length s
  unfolding metadata_right end_right
  end_inside = let e = means _ (means _ r).1.0 in omega (arith, e.0, limit_inside s x)

  end_is : metadata_end s x ≡ metadata_description_at s x + 2 + u16_at s (metadata_description_at s x)
  unfolding metadata_end
  end_is = string_there s (metadata_description_at s x)

  description_is : metadata_description_at s x ≡ content_length_at s x + 4 + metadata_length s x
  unfolding metadata_description_at
  description_is = refl

  content_is : content_length_at s x ≡ x + 10 + u16_at s (x + 8) + 5
  unfolding content_length_at record_id_at
  content_is = omega (arith, string_there s (x + 8))

  texts_in : RecordIn s x
  unfolding metadata_right
  texts_in =
      let h = means _ r in
      record {
        name = omega (arith, content_is, description_is, end_is, end_inside);
        name_right = h.1.1.0;
        content = omega (arith, description_is, end_is, end_inside);
        description = omega (arith, end_is, end_inside);
        description_right = h.1.1.1.1.0;
      }

-- the names of the methods

module _ (s : List ℕ) (f : fields_end s ≤ header_limit s) where
  label_before : method_at s (method_count s) ≤ header_limit s
  unfolding fields_end method_at product_label_at
  label_before = omega (arith, f, string_there s (product_label_at s))

  grows : (at : ℕ) → at ≤ string_end s at
  grows at = omega (arith, string_there s at)

  further : (j d : ℕ) → method_at s j ≤ method_at s (j + d)
  unfolding method_at
  further j d = advance_mono (string_end s) (header_limit s) grows j d (methods_at s + 4)

  name_ends : (k : ℕ) → method_at s k ≤ header_limit s → method_at s (k + 1) ≡ string_end s (method_at s k)
  unfolding method_at
  name_ends k h = advance_more (string_end s) (header_limit s) k (methods_at s + 4) ∙ rw (le-leb _ _ h)

  method_in : (k : ℕ) → k < method_count s → method_at s k + 2 + u16_at s (method_at s k) ≤ length s
  method_in k h =
      let e : k + 1 + (method_count s - (k + 1)) ≡ method_count s = omega arith in
      let m : method_at s (k + 1) ≤ method_at s (method_count s) = rw e at (further (k + 1) (method_count s - (k + 1))) in
      let n : method_at s k ≤ method_at s (k + 1) = further k 1 in
      let z = name_ends k (omega (arith, m, n, label_before)) in
      omega (arith, z, m, label_before, limit_inside s 16, string_there s (method_at s k))

tail_fits : (s : List ℕ) → element_count s ≤ most_elements → tail_right s ≡ true → fields_end s ≤ header_limit s
unfolding tail_right
tail_fits s h e = (means _ (rw (le-leb (element_count s) most_elements h) at e)).1.0

-- a string, as its place and length

string_in : (s : List ℕ) (at : ℕ) → string_end s at ≤ length s → text_right s at ≡ true → TextIn s (at + 2) (u16_at s at)
unfolding text_right string_text
string_in s at h r = record { inside = omega (arith, h, string_there s at); right = r }

-- the page's

module _ (s : List ℕ) (few : element_count s ≤ most_elements) (t : tail_right s ≡ true) (o : options_right s ≡ true) where
  label_in : TextIn s (product_label_at s + 2) (u16_at s (product_label_at s))
  unfolding tail_right fields_end
  label_in =
      let h = means _ (rw (le-leb (element_count s) most_elements few) at t) in
      string_in s (product_label_at s) (omega (arith, h.1.0, limit_inside s 16)) h.1.1.1.0

  -- every fixed field stands before the entries, which stand before the names of the methods
  fields_in : 280 ≤ length s
  unfolding method_at methods_at
  fields_in =
      let f = tail_fits s few t in
      let n : methods_at s + 4 ≤ method_at s (method_count s) = advance_grows (string_end s) (header_limit s) (grows s f) (method_count s) (methods_at s + 4) in
      omega (arith, start_least s (element_count s), n, label_before s f, limit_inside s 16)

  page_in_lem : PageIn s
  unfolding said_of_page options_right
  page_in_lem =
      let h = means _ o in
      record { label = label_in; uuid = omega (arith, fields_in); coordinates = fields_in; raster_space_lem = h.1.0; coordinate_system_lem = h.1.1.0 }

-- an element's

module _ (s : List ℕ) (a : check s ≡ Ok tt) (e : ℕ) (h : e < element_count s) where
  unit_in : string_end s (unit_at s (entry_start s e)) ≤ length s
  unfolding unit_place unit_length
  unit_in = omega (arith, (described_in_file s a).unit e h, string_there s (unit_at s (entry_start s e)))

  description_in : string_end s (description_at s (entry_start s e)) ≤ length s
  unfolding unit_at
  description_in = omega (arith, unit_in, string_there s (unit_at s (entry_start s e)))

  element_label_in : string_end s (label_at s (entry_start s e)) ≤ length s
  unfolding description_at
  element_label_in = omega (arith, description_in, string_there s (description_at s (entry_start s e)))

  element_in : ElementIn s e
  unfolding said_of_element said_at texts_at element_right entry_texts unit_place unit_length
  element_in =
      let m = means _ (right s a e h) in
      let t = means _ m.1.1.1.0 in
      record {
        name_right = m.1.0;
        label = string_in s _ element_label_in t.0;
        description = string_in s _ description_in t.1.0;
        unit = string_in s _ unit_in t.1.1.0;
      }

pub said_in_file : SaidInFile
unfolding header_right metadata_records
said_in_file s a =
    let o = accepted_sound s a in
    let r = sound_range s (records s) o in
    let k = means _ o.headed.header in
    let t = k.1.1.1.1.0 in
    record {
      page = page_in_lem s r.elements.1 t k.1.1.0;
      elements = element_in s a;
      records = λ {x} m. texts_in s x (sound_metadata s o m);
      methods = method_in s (tail_fits s r.elements.1 t);
    }
