-- Req 03: the contents of a corrected page's elements, by the map. Assumes nothing.
use Rattle.std.specs.Prelude.{Err, None, Ok, Option, Some}
use Prim.Native.Nat.{ℕ, zero, suc, ◌+◌, ◌≤◌, ◌<◌}
use native.Mathlib.Omega.{arith}
use mathlib.Core.Path.{◌≡◌, refl, sym, ◌∙◌, ap}
use mathlib.Core.List.{List, [], ◌∷◌, map}
use mathlib.Core.Bool.{Bool, true, false}
use lib.ListN.{length, get_or}
use lib.Dec.{eqb, leb}
use Rattle.wire.specs.Pick.{pick}
use Rattle.wire.specs.Bytes.{part}
use Rattle.wire.specs.Lists.{below}
use Rattle.wire.proofs.TestLaws.{means, not_both, below_each}
use borrow.Author.Tests.{eqb-true, eqb-false, leb-true}
use Rattle.wire.proofs.ByteLaws.{part_length, part_whole}
use Rattle.wire.proofs.ListLaws.{below_at}
use Rattle.record.specs.Chain.{header_end, records}
use Rattle.record.proofs.ChainLaws.{whole_extent}
use Rattle.record.proofs.FindLaws.{of_type}
use Rattle.header.specs.Fields.{element_count}
use Rattle.geometry.specs.Sizes.{element_bytes, packing_of, element_packing}
use Rattle.geometry.specs.declared.Packing.TheVariants.{Uncompressed, Compressed, Fault}
use Rattle.check_records.specs.TileBody.{not_fault, section_packing, section_right, tile_right}
use Rattle.bodies.specs.TileRecord.{section_length, element_content_at}
use Rattle.answer.specs.declared.Refusal.TheVariants as refusal
use Rattle.check_header.specs.Judged.{SameJudged}
use Rattle.page_check.specs.Accepted.{Sound}
use Rattle.page_check.proofs.GivenLaws.{sound_tile}
use Rattle.cells.specs.Asked.{in_tiles}
use Rattle.tile_routes.specs.Ways.{meant}
use Rattle.cells.specs.Routes.{tile_by}
use Rattle.cells.specs.TileCells.{is_packed, packed, content_in, content_of}
use Rattle.cells.specs.Meaning.{content_meaning}
use Rattle.cells.proofs.CellLaws.{tiles_mean}
use Rattle.tile_routes.proofs.WayLaws.{walk_finds, meant_is}
use Rattle.cells.proofs.ApartLaws.{content_extent, whole_least}
use Rattle.alone.specs.Alone.{Moved, SameHeader}
use Rattle.alone.proofs.HeaderLaws.{judged_header, count_within}
use Rattle.page_laws.proofs.TileMapLaws.{below_count, contents_some}
use Rattle.correct.specs.Storing.{tile_at}
use Rattle.page_laws.specs.Tiles.{contents_in, contents_of, tiles_of}
use Rattle.corrected.specs.Cells.{content_in_map, ContentAs}

-- a list made by a function, by its places

map_at : {A : Type 0} (f : ℕ → A) (xs : List ℕ) (i : ℕ) (d : A) → i < length xs → get_or (map f xs) i d ≡ f (get_or xs i 0)
map_at f [] i d h = absurd (omega arith)
map_at f (x ∷ xs) zero d h = refl
map_at f (x ∷ xs) (suc i) d h = map_at f xs i d (omega arith)

numbered_at : {A : Type 0} (f : ℕ → A) (n i : ℕ) (d : A) → i < n → get_or (map f (below n)) i d ≡ f i
numbered_at f n i d h =
    let l = below_count n in
    let k : get_or (below n) i 0 ≡ i = sym (map_at (λ (x : ℕ). x) (below n) i 0 (omega arith)) ∙ below_at (λ x. x) n i h in
    map_at f (below n) i d (omega arith) ∙ ap f k

-- the record of a tile

pub walked_is : (s : List ℕ) (i : ℕ) → tile_at s i ≡ meant s i
unfolding tile_at
walked_is s i = walk_finds s i

-- an element's content in a tile record of a sound page

section_within : (s : List ℕ) (x e : ℕ) → section_right s x e ≡ true → (1 ≤ section_length s x e) × (section_length s x e ≤ element_bytes s e)
unfolding section_right section_packing element_packing packing_of
section_within s x e r = go (eqb (section_length s x e) 0) refl (eqb (section_length s x e) (element_bytes s e)) refl (leb (section_length s x e) (element_bytes s e)) refl r
  where
    go :
        (a : Bool) → eqb (section_length s x e) 0 ≡ a → (b : Bool) → eqb (section_length s x e) (element_bytes s e) ≡ b → (c : Bool) →
        leb (section_length s x e) (element_bytes s e) ≡ c → not_fault (pick a Fault (pick b Uncompressed (pick c Compressed Fault))) ≡ true →
        (1 ≤ section_length s x e) × (section_length s x e ≤ element_bytes s e)
    go true f b g c h p = not_both p refl
    go false f true g c h p =
        let z = eqb-false (section_length s x e) 0 f in let y = eqb-true (section_length s x e) (element_bytes s e) g in (omega arith, omega arith)
    go false f false g true h p =
        let z = eqb-false (section_length s x e) 0 f in let y = leb-true (section_length s x e) (element_bytes s e) h in (omega arith, omega arith)
    go false f false g false h p = not_both p refl

pub record Content (s : List ℕ) (x e : ℕ) : Type 0 where
  pub some_bytes : 1 ≤ section_length s x e
  pub most_bytes : section_length s x e ≤ element_bytes s e
  pub inside : element_content_at s x e + section_length s x e ≤ length s
  pub is : get_or (contents_in s x) e [] ≡ part s (element_content_at s x e) (section_length s x e)
  pub long : length (get_or (contents_in s x) e []) ≡ section_length s x e

pub content_of_lem : (s : List ℕ) → Sound s → (i x e : ℕ) → tile_at s i ≡ Some x → e < element_count s → Content s x e
unfolding tile_at contents_in tile_right
content_of_lem s o i x e f h =
    let m = meant_is s i x (sym (walk_finds s i) ∙ f) in
    let t = sound_tile s o m.among in
    let c = content_extent s x e t h in
    let w = whole_extent s (header_end s) (records s) o.chain (of_type s 2 m.among).0 in
    let k : element_content_at s x e + section_length s x e ≤ length s = omega (arith, c.next, c.inside, w.inside) in
    let g = numbered_at (λ e. part s (element_content_at s x e) (section_length s x e)) (element_count s) e [] h in
    let r = section_within s x e (below_each (element_count s) (section_right s x) (means _ t).1.1.0 e h) in
    record { some_bytes = r.0; most_bytes = r.1; inside = k; is = g; long = ap length g ∙ part_length s _ _ k }

-- its bytes in the file and in the map are the same
pub content_moved : {s : List ℕ} {x e : ℕ} → Content s x e → (c : List ℕ) → c ≡ get_or (contents_in s x) e [] → Moved s (element_content_at s x e) c 0 (section_length s x e)
content_moved {s} {x} {e} k c f =
    let l : length c ≡ section_length s x e = ap length f ∙ k.long in
    record { in_first = k.inside; in_second = omega arith; bytes = sym k.is ∙ sym f ∙ sym (part_whole c) ∙ ap (part c 0) l }

pub few_in : (s : List ℕ) → Sound s → element_count s ≤ 16
few_in s o = count_within s (length s) o.headed.ceilings

-- a tile of a page by its contents: it is not stored, or it has a record, and the element's content there

module _ (t : List ℕ) (tile e : ℕ) where
  pub record Stands (c : List ℕ) : Type 0 where
    pub start : ℕ
    pub found : tile_at t tile ≡ Some start
    pub content : Content t start e
    pub is : c ≡ get_or (contents_in t start) e []

  pub absent : e < element_count t → tiles_of t tile ≡ [] → tile_at t tile ≡ None
  unfolding tiles_of
  absent l h = go (tile_at t tile) refl h
    where
      go : (f : Option ℕ) → tile_at t tile ≡ f → contents_of t f ≡ [] → tile_at t tile ≡ None
      go None i z = i
      go (Some x) i z = absurd (contents_some t x (omega arith) z)

pub stands : (t : List ℕ) → Sound t → (tile e : ℕ) → e < element_count t → (c : List ℕ) → c ≡ get_or (tiles_of t tile) e [] → (tiles_of t tile ≡ [] → ⊥) → Stands t tile e c
unfolding tiles_of
stands t q tile e l c f h = go (tile_at t tile) refl f h
  where
    go : (w : Option ℕ) → tile_at t tile ≡ w → c ≡ get_or (contents_of t w) e [] → (contents_of t w ≡ [] → ⊥) → Stands t tile e c
    go None i z y = absurd (y refl)
    go (Some x) i z y = record { start = x; found = i; content = content_of_lem t q tile x e i l; is = z }

-- an element's content, by a tile's record

content_by_lem : (t : List ℕ) (tile e : ℕ) → in_tiles t tile e ≡ true → content_meaning t tile e ≡ content_of t e (tile_at t tile)
unfolding content_meaning tile_by tile_at
content_by_lem t tile e g = rw (g, walk_finds t tile)

outside_content : (t : List ℕ) (tile e : ℕ) → in_tiles t tile e ≡ false → content_meaning t tile e ≡ Err refusal.OutsideGrid
unfolding content_meaning tile_by
outside_content t tile e g = rw g

module _ (s t : List ℕ) (o : Sound s) (q : Sound t) (j : SameJudged s t) (tile e : ℕ) where
  header : SameHeader s t
  header = judged_header s t (length s) j o.headed.header (few_in s o)

  tiles_same : in_tiles t tile e ≡ in_tiles s tile e
  unfolding in_tiles
  tiles_same = rw (header.tiles, header.count)

  module _ (g : in_tiles s tile e ≡ true) where
    asked : e < element_count s
    asked = (tiles_mean s tile e g).1

    asked_too : e < element_count t
    asked_too = omega (arith, asked, header.count)

    by_record : content_meaning t tile e ≡ content_of t e (tile_at t tile)
    by_record = content_by_lem t tile e (tiles_same ∙ g)

    module _ (c : List ℕ) (w : Stands t tile e c) where
      abbrev x : ℕ
      x = w.start

      long_is : length c ≡ section_length t x e
      long_is = ap length w.is ∙ w.content.long

      bytes_are : part t (element_content_at t x e) (length c) ≡ c
      bytes_are = ap (part t (element_content_at t x e)) long_is ∙ sym w.content.is ∙ sym w.is

      packed_same : (b : Bool) → is_packed s e (length c) ≡ b → packed t x e ≡ b
      unfolding packed
      packed_same b f = rw (← header.sizes e asked, ← long_is) f

      said : content_meaning t tile e ≡ content_in t x e
      said = by_record ∙ ap (content_of t e) w.found

      packed_said : is_packed s e (length c) ≡ true → content_meaning t tile e ≡ Err (refusal.Compressed x)
      unfolding content_in
      packed_said f = said ∙ rw (packed_same true f)

      plain_said : is_packed s e (length c) ≡ false → content_meaning t tile e ≡ Ok (Some (record { start = element_content_at t x e; length = length c }))
      unfolding content_in
      plain_said f =
          let k : element_bytes t e ≡ length c = omega (arith, long_is, w.content.most_bytes, whole_least t x e (packed_same false f)) in
          said ∙ rw (packed_same false f, k)

  pub content_as : (tiles : ℕ → List (List ℕ)) → ((i : ℕ) → tiles_of t i ≡ tiles i) → ContentAs s t tiles tile e
  unfolding content_in_map
  content_as tiles f =
      let m = f tile in
      record {
        outside = λ g. outside_content t tile e (tiles_same ∙ g);
        absent = λ g h. by_record g ∙ ap (content_of t e) (absent t tile e (asked_too g) (m ∙ h));
        held =
            λ g h.
            let c = get_or (tiles tile) e [] in
            let w = stands t q tile e (asked_too g) c (ap (λ (r : List (List ℕ)). get_or r e []) (sym m)) (λ z. h (sym m ∙ z)) in
            record { start = w.start; found = w.found; bytes = bytes_are g c w; plain = plain_said g c w; packed = packed_said g c w };
      }
