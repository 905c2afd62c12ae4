-- The stored tiles: the fields of a tile record on any bytes, the mask, the index, and the list under way. Assumes nothing.
use Rattle.std.specs.Prelude.{None}
use Prim.Native.Nat.{ℕ, zero, suc, ◌+◌, ◌-◌, ◌*◌, min, ◌≤◌, ◌<◌}
use mathlib.Core.Path.{◌≡◌, refl, sym, ap, ◌∙◌}
use mathlib.Core.List.{List, [], ◌∷◌}
use mathlib.Core.Bool.{Bool, true, false, not}
use native.Mathlib.Omega.{arith}
use native.Mathlib.Numerals.{add-one}
use lib.ListN.{length, drop}
use borrow.Author.Tests.{lt-leb, eq-eqb, ne_eqb}
use Rattle.wire.specs.Tests.{◌≢?◌, is}
use Rattle.wire.specs.Bytes.{byte_at, u32_at, put}
use Rattle.wire.specs.Lists.{select, below}
use Rattle.wire.proofs.TestLaws.{yes, no, either_way, not_both, sum_none, sum_more}
use Rattle.wire.proofs.ByteLaws.{byte_out, number_out}
use Rattle.record.specs.Chain.{find}
use Rattle.record.proofs.FindLaws.{first_start, first_on, first_at}
use Rattle.header.specs.Element.{element, float_kind, entries_read}
use Rattle.geometry.specs.Sizes.{element_bytes, cap}
use Rattle.geometry.specs.Tiles.{tile_count}
use Rattle.bodies.specs.TileRecord.{section_at, section_start, section_length, element_content_at}
use Rattle.bodies.specs.TileDirectory.{tile_reference}
use Rattle.bodies.proofs.SectionLaws.{section_least}
use Rattle.cells.specs.TileCells.{packed}
use Rattle.says.specs.declared.lists.Progress.{Progress}
use Rattle.says.specs.declared.lists.Listed.TheVariants.{Items}
use Rattle.says.specs.Lists.{items_of, item_numbers, offered, offered_to, offered_if, offered_if_to}
use Rattle.says.specs.Tiles.{stored, stored_tiles, tile_record_at, bit, bit_if, mask_of, packed_mask, packed_coded, first_packed, index_of, compressor_of, tile_says}
use Rattle.says.proofs.ItemLaws.{Listing, list_begin, list_select, list_numbers_lem, list_items, offer_none, offer_some, to_none, to_some, below_drop, below_end}

-- a section's length and its content's first byte, on any bytes

module _ (s : List ℕ) (x e : ℕ) where
  pub length_past : length s ≤ x → 0 ≡ section_length s x e
  unfolding section_length
  length_past h = number_out 4 s (section_at s x e) (omega (arith, h, section_least s x e))

  start_there : (r : ℕ) → r ≡ section_start s x e → x < length s → r ≡ section_at s x e
  unfolding section_start
  start_there r p h = p ∙ rw (lt-leb (length s) x h)

  pub length_there : (r l : ℕ) → x < length s → r ≡ section_start s x e → l ≡ u32_at s r → l ≡ section_length s x e
  unfolding section_length
  length_there r l h p q = q ∙ ap (u32_at s) (start_there r p h)

  pub byte_past : length s ≤ x → 0 ≡ byte_at s (element_content_at s x e)
  unfolding element_content_at
  byte_past h = byte_out s (section_at s x e + 4) (omega (arith, h, section_least s x e))

  pub byte_there : (r b : ℕ) → x < length s → r ≡ section_start s x e → b ≡ byte_at s (r + 4) → b ≡ byte_at s (element_content_at s x e)
  unfolding element_content_at
  byte_there r b h p q = q ∙ ap (λ (k : ℕ). byte_at s (k + 4)) (start_there r p h)

  -- packed

  module _ (l u : ℕ) (p : l ≡ section_length s x e) (q : u ≡ min (element_bytes s e) cap) where
    pub packed_yes : l < u → true ≡ packed s x e
    unfolding packed
    packed_yes h = yes _ (omega arith, tt)

    pub packed_no : l < cap → u ≤ l → false ≡ packed s x e
    unfolding packed
    packed_no h k = no _ (λ y. omega (arith, y.0))

  module _ (k : ℕ) (p : k ≡ (element s e).kind) where
    pub coded_float : k ≡ 2 → false ≡ packed_coded s x e
    unfolding packed_coded
    coded_float f = no (((element s e).kind ≢? float_kind) ∷ is (packed s x e) ∷ []) (λ y. y.0 (sym p ∙ f))

    pub coded_is : (b : Bool) → (k ≡ 2 → ⊥) → b ≡ packed s x e → b ≡ packed_coded s x e
    unfolding packed_coded
    coded_is b f t =
        either_way (((element s e).kind ≢? float_kind) ∷ is (packed s x e) ∷ []) b (λ h. ((λ z. f (p ∙ z)), (sym t ∙ h, tt)))
        (λ h y. not_both y.1.0 (sym t ∙ h))

-- the mask

pub bit_set : (n : ℕ) (b : Bool) → b ≡ true → n ≡ bit_if b n
unfolding bit_if
bit_set n b e = rw e

pub bit_clear : (n : ℕ) (b : Bool) → b ≡ false → 0 ≡ bit_if b n
unfolding bit_if
bit_clear n b e = rw e

pub bit_next : (e : ℕ) → bit (e + 1) ≡ 2 * bit e
unfolding bit
bit_next e = rw (add-one e)

bit_grows : (e d : ℕ) → bit e ≤ bit (e + d)
bit_grows e zero = let z : e + 0 ≡ e = omega arith in rw z (omega arith)
bit_grows e (suc d) = let z : e + suc d ≡ e + d + 1 = omega arith in rw (z, bit_next (e + d)) (omega (arith, bit_grows e d))

bit_last : bit 16 ≡ 65536
unfolding bit
bit_last = refl

bit_small : (e : ℕ) → e ≤ 16 → bit e ≤ 65536
bit_small e h =
    let z : e + (16 - e) ≡ 16 = omega arith in
    let g : bit e ≤ bit 16 = rw z at (bit_grows e (16 - e)) in
    omega (arith, g, bit_last)

pub mask_begin : (p : ℕ → Bool) → 0 ≡ mask_of 0 p
unfolding mask_of
mask_begin p = sym (sum_none (λ e. bit_if (p e) (bit e)))

pub bit_begin : 1 ≡ bit 0
unfolding bit
bit_begin = refl

pub bit_step : (b e : ℕ) → b ≡ bit e → b * 2 ≡ bit (e + 1)
bit_step b e p = sym (bit_next e ∙ omega (arith, p))

pub bit_room : (b e n : ℕ) → b ≡ bit e → e < n → n ≤ 16 → b * 2 ≤ 65536
bit_room b e n p h k = let z = bit_small (e + 1) (omega arith) in omega (arith, z, bit_next e, p)

pub mask_step : (p : ℕ → Bool) (m b e w : ℕ) (r : Bool) → m ≡ mask_of e p → b ≡ bit e → r ≡ p e → w ≡ bit_if r b → m + w ≡ mask_of (e + 1) p
unfolding mask_of
mask_step p m b e w r q t u v = rw (q, v, u, t) (sym (sum_more e (λ i. bit_if (p i) (bit i))))

pub mask_end : (s : List ℕ) (x m e n : ℕ) → m ≡ mask_of e (packed s x) → e ≤ n → n ≤ e → n ≡ entries_read s → m ≡ packed_mask s x
unfolding packed_mask
mask_end s x m e n q h k c = let z : e ≡ entries_read s = omega arith in rw z at q

-- the first packed element that is no Float

pub record Uncoded (s : List ℕ) (x n e : ℕ) : Type 0 where
  pub inside : e ≤ n
  pub none : find (packed_coded s x) (below e) ≡ None

pub uncoded_begin : (s : List ℕ) (x n : ℕ) → Uncoded s x n 0
uncoded_begin s x n = record { inside = omega arith; none = first_start _ }

module _ {s : List ℕ} {x n e : ℕ} {r : Bool} (u : Uncoded s x n e) (q : r ≡ packed_coded s x e) (h : e < n) where
  pub uncoded_on : r ≡ false → Uncoded s x n (e + 1)
  uncoded_on f = record { inside = omega arith; none = first_on _ e u.none (sym q ∙ f) }

  pub coded_here : (b : ℕ) → n ≡ entries_read s → r ≡ true → b ≡ byte_at s (element_content_at s x e) → b ≡ compressor_of s x
  unfolding compressor_of first_packed
  coded_here b c f g = g ∙ ap (index_of s x) (sym (rw c at (first_at (packed_coded s x) n e h u.none (sym q ∙ f))))

pub coded_nowhere : {s : List ℕ} {x n e : ℕ} → Uncoded s x n e → n ≤ e → n ≡ entries_read s → 256 ≡ compressor_of s x
unfolding compressor_of first_packed
coded_nowhere {s} {x} {n} {e} u h c = let z : e ≡ entries_read s = omega (arith, u.inside) in ap (index_of s x) (sym (rw z at u.none))

-- a tile's numbers

pub tile_item : (s : List ℕ) (i r x m k : ℕ) → r ≡ tile_reference s i → x ≡ r - 8 → m ≡ packed_mask s x → k ≡ compressor_of s x → i ∷ x ∷ m ∷ k ∷ [] ≡ tile_says s i
unfolding tile_says tile_record_at
tile_item s i r x m k p q t u = let z : x ≡ tile_reference s i - 8 = q ∙ ap (λ (n : ℕ). n - 8) p in rw (t, u, z)

tile_long : (s : List ℕ) (i : ℕ) → length (tile_says s i) ≡ 4
unfolding tile_says
tile_long s i = refl

-- a tile given to the list, by its reference

module _ (s : List ℕ) (i t : ℕ) (p : Progress) (e : t ≡ tile_reference s i) where
  absent : t ≡ 0 → stored s i ≡ false
  unfolding stored
  absent f = ap not (eq-eqb _ _ (sym e ∙ f))

  there : (t ≡ 0 → ⊥) → stored s i ≡ true
  unfolding stored
  there f = ap not (ne_eqb _ _ (λ z. f (e ∙ z)))

  pub tile_none : (room : ℕ) → t ≡ 0 → p ≡ offered_if (stored s i) 4 room p
  tile_none room f = offer_none _ 4 room p (absent f)

  pub tile_none_to : (d : List ℕ) → t ≡ 0 → d ≡ offered_if_to (stored s i) d (tile_says s i) p
  tile_none_to d f = to_none _ d (tile_says s i) p (absent f)

  pub tile_some : (room : ℕ) (q : Progress) (v : List ℕ) → (t ≡ 0 → ⊥) → v ≡ tile_says s i → q ≡ offered (length v) room p → q ≡ offered_if (stored s i) 4 room p
  tile_some room q v f g h = offer_some _ 4 room p q (there f) (h ∙ ap (λ (k : ℕ). offered k room p) (ap length g ∙ tile_long s i))

  pub tile_some_to :
      (d d' v : List ℕ) → (t ≡ 0 → ⊥) → v ≡ tile_says s i → d' ≡ offered_to d v p → d' ≡ offered_if_to (stored s i) d (tile_says s i) p
  tile_some_to d d' v f g h = to_some _ d (tile_says s i) p d' (there f) (h ∙ ap (λ (l : List ℕ). offered_to d l p) g)

-- those from an index on
unfoldable pub tiles_ahead : List ℕ → ℕ → List ℕ
tiles_ahead s i = select (stored s) (drop i (below (tile_count s)))

abbrev pub Tiles : List ℕ → ℕ → List ℕ → Progress → List ℕ → ℕ → Type 0
Tiles s from d₀ p d i = Listing (tile_says s) 4 from (stored_tiles s) d₀ p d (tiles_ahead s i)

pub tiles_begin : (s : List ℕ) (from : ℕ) (d₀ : List ℕ) → Tiles s from d₀ (record { skip = from; at = 0; taken = 0; seen = 0 }) d₀ 0
unfolding tiles_ahead stored_tiles
tiles_begin s from d₀ = list_begin (tile_says s) 4 from (stored_tiles s) d₀

module _ (s : List ℕ) (from i n : ℕ) (d₀ d : List ℕ) (p : Progress) (t : Tiles s from d₀ p d i) (c : n ≡ tile_count s) where
  pub tiles_step :
      (q : Progress) (d' : List ℕ) → i < n → q ≡ offered_if (stored s i) 4 (length d) p → d' ≡ offered_if_to (stored s i) d (tile_says s i) p →
      Tiles s from d₀ q d' (i + 1)
  unfolding tiles_ahead
  tiles_step q d' h g w =
      list_select (tile_says s) 4 from (stored_tiles s) d₀ (tile_long s) (stored s) p q d d' (drop (i + 1) (below (tile_count s))) i
      (rw (below_drop (tile_count s) i (omega arith)) at t) g w

  no_more_lem : n ≤ i → Listing (tile_says s) 4 from (stored_tiles s) d₀ p d []
  unfolding tiles_ahead select
  no_more_lem h = rw (below_end (tile_count s) i (omega arith)) at t

  pub tiles_end : n ≤ i → Items p.taken p.seen ≡ items_of 4 from (stored_tiles s) (length d₀)
  tiles_end h = list_items (tile_says s) 4 from (stored_tiles s) d₀ p d (no_more_lem h)

  pub tiles_written : n ≤ i → d ≡ put d₀ 0 (item_numbers (tile_says s) 4 from (stored_tiles s) (length d₀))
  tiles_written h = list_numbers_lem (tile_says s) 4 from (stored_tiles s) d₀ p d (no_more_lem h)
