-- Checksums, sections, bodies and faults, from what the functions below them answer. Assumes nothing.
use Rattle.std.specs.Prelude.{None, Option, Some}
use Prim.Native.Nat.{ℕ, ◌+◌, ◌-◌, ◌≤◌, ◌<◌}
use mathlib.Core.Path.{◌≡◌, refl, sym, ap, ◌∙◌}
use mathlib.Core.List.{List, [], ◌++◌}
use mathlib.Core.Bool.{Bool, true, false}
use native.Mathlib.Omega.{arith}
use lib.ListN.{length}
use lib.Dec.{leb, eqb}
use borrow.Author.Tests.{eq-eqb, ne_eqb, le-leb, lt-leb, leb-true, leb-false}
use Rattle.wire.specs.Pick.{pick}
use Rattle.wire.specs.Tests.{all_below}
use Rattle.wire.specs.Bytes.{Bytes, number_at, u16_at, u32_at, part, bytes_of}
use Rattle.wire.proofs.TestLaws.{means, yes, no, not_both}
use Rattle.wire.proofs.ByteLaws.{part_out, part_whole}
use Rattle.wire.proofs.PlaceLaws.{Placed, placed_first, placed_next, placed_part, placed_value}
use Rattle.crc32c.specs.Crc.{crc_of, crc_part}
use Rattle.crc32c.proofs.Range.{crc_small}
use Rattle.header.specs.Fields.{checksum_enabled, element_count}
use Rattle.header.specs.Element.{string_size, string_end}
use Rattle.header.proofs.NameLaws.{identifier_empty}
use Rattle.record.specs.Record.{length_at, type_at, record_limit, Told}
use Rattle.record.specs.Chain.{header_end, records, records_end, find, find_not, Whole}
use Rattle.record.proofs.ChainLaws.{chain_ends, stand_starts, stand_end, whole_starts}
use Rattle.record.proofs.FindLaws.{found_not}
use Rattle.geometry.specs.declared.Packing.{Packing}
use Rattle.geometry.specs.declared.Packing.TheVariants.{Uncompressed, Compressed, Fault}
use Rattle.geometry.specs.Sizes.{element_packing}
use Rattle.check_records.specs.declared.Rule.{Rule}
use Rattle.check_records.specs.declared.Rule.TheVariants.{Checksum, Body}
use Rattle.check_records.specs.Frame.{end_right}
use Rattle.check_records.specs.Checksum.{summed_bytes, checksum_of, checksum_at, checksum_right}
use Rattle.check_records.specs.TileBody.{section_packing, section_right, tile_right}
use Rattle.bodies.specs.TileRecord.{section_start, section_length, tile_end, section_at}
use Rattle.header.specs.Texts.{text_right}
use Rattle.check_records.specs.MetadataBody.{metadata_right}
use Rattle.bodies.specs.MetadataRecord.{metadata_name, content_length_at, metadata_length, metadata_description_at, metadata_end, record_id_start}
use Rattle.bodies.proofs.SectionLaws.{section_told, section_least}
use Rattle.bodies.proofs.MetadataLaws.{id_told}
use Rattle.check_records.specs.Faults.{body_right, right_of, first_wrong, chain_fault, BrokenAt, ChainFaultExactly, checksum_fault}

-- checksums

pub summed_free : (k n : ℕ) → k ≡ 0 → 8 ≡ summed_bytes k n
unfolding summed_bytes
summed_free k n h = rw h

pub summed_other : (k n r : ℕ) → (k ≡ 0 → ⊥) → r ≡ n - 4 → r ≡ summed_bytes k n
unfolding summed_bytes
summed_other k n r h e = rw (ne_eqb k 0 h) e

module _ (s : List ℕ) (k at n : ℕ) (t : Told s k at n) where
  pub checksum_on : (f m r : ℕ) → f ≡ checksum_enabled s → f ≡ 1 → m ≡ summed_bytes k n → r ≡ crc_part s at m → r ≡ checksum_of s at
  unfolding checksum_of
  checksum_on f m r p h q e = rw (← p, h, ← t.type_is, ← t.length_is, ← q) e

  pub checksum_at_is : (d r : ℕ) → d ≡ n - 4 → r ≡ number_at 4 s (at + d) → r ≡ checksum_at s at
  unfolding checksum_at
  checksum_at_is d r q e = rw (← t.length_is, ← q) e

  pub body_tile : (r : Bool) → k ≡ 2 → r ≡ tile_right s at → r ≡ body_right s at
  unfolding body_right
  body_tile r h e = rw (← t.type_is, h) e

  pub body_metadata : (r : Bool) → (k ≡ 2 → ⊥) → k ≡ 1 → r ≡ metadata_right s at → r ≡ body_right s at
  unfolding body_right
  body_metadata r g h e = rw (← t.type_is, ne_eqb k 2 g, eq-eqb k 1 h) e

  pub body_other : (k ≡ 2 → ⊥) → (k ≡ 1 → ⊥) → true ≡ body_right s at
  unfolding body_right
  body_other g h = rw (← t.type_is, ne_eqb k 2 g, ne_eqb k 1 h)

pub checksum_off : (s : List ℕ) (at f : ℕ) → f ≡ checksum_enabled s → (f ≡ 1 → ⊥) → 0 ≡ checksum_of s at
unfolding checksum_of
checksum_off s at f p h = rw (← p, ne_eqb f 1 h)

-- bytes that end in the checksum of those before them, as the flag says, are right wherever they stand as a record that is not free space
pub checksum_placed :
    {s : List ℕ} {x : ℕ} (u : List ℕ) (v : ℕ) → Placed s x (u ++ bytes_of 4 v) → v ≡ pick (eqb (checksum_enabled s) 1) (crc_of u) 0 → Bytes u →
    length_at s x ≡ length u + 4 → (type_at s x ≡ 0 → ⊥) → checksum_right s x ≡ true
unfolding checksum_right checksum_at checksum_of summed_bytes crc_part
checksum_placed {s} {x} u v p e w n k =
    let m : length_at s x - 4 ≡ length u = omega arith in
    let z : x + 0 ≡ x = omega arith in
    let a : part s x (length u) ≡ u = (rw z at (placed_part (placed_first u (bytes_of 4 v) p) 0 (length u) (omega arith))) ∙ part_whole u in
    let b : number_at 4 s (x + length u) ≡ v = placed_value 4 v (placed_next u (bytes_of 4 v) refl p) (rw e (small (eqb (checksum_enabled s) 1))) in
    sym (yes _ (rw (m, ne_eqb (type_at s x) 0 k, a) (b ∙ e), tt))
  where
    small : (b : Bool) → pick b (crc_of u) 0 < 4294967296
    small true = crc_small u w
    small false = omega arith

-- sections

module _ (s : List ℕ) (at e p l : ℕ) (j : Packing) (a : p ≡ section_at s at e) (b : l ≡ u32_at s p) (c : j ≡ element_packing s e l) where
  packing_is : j ≡ section_packing s at e
  unfolding section_packing section_length
  packing_is = c ∙ rw (b, a)

  pub section_whole : j ≡ Uncompressed → true ≡ section_right s at e
  unfolding section_right
  section_whole f = rw (← packing_is, f)

  pub section_packed : j ≡ Compressed → true ≡ section_right s at e
  unfolding section_right
  section_packed f = rw (← packing_is, f)

  pub section_fault : j ≡ Fault → false ≡ section_right s at e
  unfolding section_right
  section_fault f = rw (← packing_is, f)

pub tile_end_is :
    (s : List ℕ) (at n p : ℕ) (r : Bool) → at < length s → n ≡ element_count s → p ≡ section_start s at n → r ≡ end_right s at p → r ≡ end_right s at (tile_end s at)
unfolding tile_end
tile_end_is s at n p r h a b c = c ∙ rw (section_told s at n p h b, a)

-- a record that starts past the file has no right body

pub tile_past : (s : List ℕ) (at : ℕ) → length s ≤ at → false ≡ tile_right s at
unfolding tile_right end_right record_limit tile_end
tile_past s at h = no _ (λ z. let y = means _ z.1.0 in omega (arith, y.0, section_least s at (element_count s)))

pub metadata_past : (s : List ℕ) (at : ℕ) → length s ≤ at → false ≡ metadata_right s at
unfolding metadata_right metadata_name
metadata_past s at h =
    let e : part s (at + 10) (u16_at s (at + 8)) ≡ [] = part_out s (at + 10) (u16_at s (at + 8)) (omega arith) in
    no _ (λ z. not_both z.1.1.0 (rw e (sym (identifier_empty 32 [] (omega arith)))))

-- metadata

pub metadata_length_is : (s : List ℕ) (at p r : ℕ) → at < length s → p ≡ record_id_start s at → r ≡ number_at 4 s (p + 5) → r ≡ metadata_length s at
unfolding metadata_length content_length_at
metadata_length_is s at p r h a e = e ∙ rw (id_told s at p h a)

pub description_is :
    (s : List ℕ) (at p l : ℕ) → at < length s → p ≡ record_id_start s at → l ≡ metadata_length s at → p + 9 + l ≡ metadata_description_at s at
unfolding metadata_description_at content_length_at
description_is s at p l h a b = let i = id_told s at p h a in omega arith

pub metadata_end_is : (s : List ℕ) (at d n : ℕ) → d ≡ metadata_description_at s at → n ≡ string_size s d → d + n ≡ metadata_end s at
unfolding metadata_end string_end
metadata_end_is s at d n a e = rw (e, a)

pub description_told :
    (s : List ℕ) (at d : ℕ) (r v : Bool) → d ≡ metadata_description_at s at → r ≡ text_right s d → r ≡ v → text_right s (metadata_description_at s at) ≡ v
description_told s at d r v p q t = sym (q ∙ ap (text_right s) p) ∙ t

-- by the rule

pub keeps_checksum : (s : List ℕ) (w : Rule) (at : ℕ) (r : Bool) → w ≡ Checksum → r ≡ checksum_right s at → r ≡ right_of s w at
unfolding right_of
keeps_checksum s w at r p q = rw p q

pub keeps_body : (s : List ℕ) (w : Rule) (at : ℕ) (r : Bool) → w ≡ Body → r ≡ body_right s at → r ≡ right_of s w at
unfolding right_of
keeps_body s w at r p q = rw p q

-- stage 6

pub chain_fault_lem : (s : List ℕ) (e : ℕ) → e ≡ records_end s → e < length s → Some e ≡ chain_fault s
unfolding chain_fault
chain_fault_lem s e p h = rw (← p, lt-leb (length s) e h)

pub chain_fine : (s : List ℕ) (e : ℕ) → e ≡ records_end s → length s ≤ e → None ≡ chain_fault s
unfolding chain_fault
chain_fine s e p h = rw (← p, le-leb (length s) e h)

-- a chain without a fault is whole, and a whole one has none
pub chain_whole : (s : List ℕ) → header_end s ≤ length s → chain_fault s ≡ None → Whole s (header_end s) (records s)
unfolding records records_end
chain_whole s h e = go (leb (length s) (records_end s)) refl
  where
    go : (b : Bool) → leb (length s) (records_end s) ≡ b → Whole s (header_end s) (records s)
    go true i =
        let x = chain_ends s (header_end s) in
        let z : records_end s ≡ length s = omega (arith, leb-true (length s) (records_end s) i, x.inside h) in
        rw z at x.stand
    go false i = found_not (chain_fault_lem s (records_end s) refl (leb-false (length s) (records_end s) i)) e

pub whole_chain : (s xs : List ℕ) → Whole s (header_end s) xs → chain_fault s ≡ None
unfolding records_end records
whole_chain s xs w =
    let r = whole_starts s (header_end s) xs w in
    let e : records_end s ≡ length s = rw r (stand_end s (header_end s) xs (length s) w) in
    sym (chain_fine s (records_end s) refl (omega arith))

pub chain_fault_exactly : ChainFaultExactly
unfolding records_end records
chain_fault_exactly s x = (λ e. go e (leb (length s) (records_end s)) refl, back)
  where
    go : chain_fault s ≡ Some x → (b : Bool) → leb (length s) (records_end s) ≡ b → BrokenAt s x
    go e true i = found_not (sym e) (sym (chain_fine s (records_end s) refl (leb-true _ _ i)))
    go e false i =
        let l = leb-false _ _ i in
        let q = chain_fault_lem s (records_end s) refl l ∙ e in
        let z : records_end s ≡ x = cc in
        let y = chain_ends s (header_end s) in
        record { before = records s; stand = rw z at y.stand; inside = rw z at l; bad = rw z at y.bad }

    back : BrokenAt s x → chain_fault s ≡ Some x
    back b =
        let r = stand_starts s (header_end s) b.before x b.stand b.bad in
        let e : records_end s ≡ x = rw r (stand_end s (header_end s) b.before x b.stand) in
        sym (chain_fault_lem s x (sym e) b.inside)

-- stages 7 and 8

pub header_wrong : (s : List ℕ) (r : Bool) → r ≡ right_of s Checksum 16 → r ≡ false → Some 16 ≡ checksum_fault s
unfolding checksum_fault first_wrong find find_not
header_wrong s r p q = rw (← p, q)

pub header_right_lem : (s : List ℕ) (r : Bool) (f : Option ℕ) → r ≡ right_of s Checksum 16 → r ≡ true → f ≡ first_wrong s Checksum (records s) → f ≡ checksum_fault s
unfolding checksum_fault first_wrong find find_not
header_right_lem s r f p q e = rw (← p, q) e

-- what a function's answer tells of its definition
pub told : {r b v : Bool} → r ≡ b → r ≡ v → b ≡ v
told p q = sym p ∙ q

pub end_told : (s : List ℕ) (at e f : ℕ) (r v : Bool) → e ≡ f → r ≡ end_right s at e → r ≡ v → end_right s at f ≡ v
end_told s at e f r v p q t = ap (end_right s at) (sym p) ∙ sym q ∙ t

pub all_told : (n m : ℕ) (p : ℕ → Bool) (r v : Bool) → n ≡ m → r ≡ all_below n p → r ≡ v → all_below m p ≡ v
all_told n m p r v a b c = ap (λ (k : ℕ). all_below k p) (sym a) ∙ sym b ∙ c
