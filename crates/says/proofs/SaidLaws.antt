-- What the lists and the look-up say of an accepted file. Assumes nothing.
use Rattle.std.specs.Prelude.{Err, None, Ok, Option, Some}
use Prim.Native.Nat.{ℕ, zero, suc, ◌+◌, ◌-◌, ◌*◌, ◌/◌, ◌≤◌, ◌<◌}
use mathlib.Core.Path.{◌≡◌, refl, sym, ap, ◌∙◌}
use mathlib.Core.List.{List, [], ◌∷◌, Memᴰ}
use mathlib.Core.Bool.{Bool, true, false, not, ◌||◌}
use native.Mathlib.Omega.{arith}
use lib.ListN.{length, get_or, length-append}
use lib.Dec.{eqb}
use borrow.Author.Tests.{eq-eqb, ne_eqb}
use Rattle.wire.specs.Pick.{pick}
use Rattle.wire.specs.Tests.{◌≡?◌, is, sum_below}
use Rattle.wire.specs.Bytes.{Bytes, byte_at, same_bytes}
use Rattle.wire.specs.Lists.{select, some, below, one_if, count_below}
use Rattle.wire.proofs.TestLaws.{means, yes, not_both, no_true, iff}
use Rattle.wire.proofs.ByteLaws.{same_is, is_same}
use Rattle.wire.proofs.ListLaws.{Behind, behind_select, every_member, select_member, member_select, select_append}
use Rattle.wire.proofs.RunLaws.{member_below, below_member, below_behind, place_member}
use Rattle.wire.proofs.CountLaws.{count_same}
use Rattle.answer.specs.declared.Refusal.TheVariants.{Compressed}
use Rattle.answer.specs.declared.Location.{Location}
use Rattle.answer.specs.declared.Cell.TheVariants as cell
use Rattle.answer.specs.Refusals.{unless_refused}
use Rattle.answer.specs.Answers.{cell_kind}
use Rattle.record.specs.Chain.{records, records_of}
use Rattle.record.proofs.FindLaws.{at_is, found_not, first_holds, records_behind}
use Rattle.header.specs.Element.{entries_read}
use Rattle.geometry.specs.Tiles.{tile_count, cell_tile}
use Rattle.bodies.specs.TileRecord.{tile_index, element_content_at}
use Rattle.bodies.specs.TileDirectory.{tile_reference}
use Rattle.bodies.specs.MetadataRecord.{metadata_name, record_id}
use Rattle.check_directory.specs.Correspondence.{OneToOne}
use Rattle.metadata_keys.specs.Pairs.{same_key, keys_distinct}
use Rattle.check_lists.specs.Metadata.{metadata_directory_right}
use Rattle.page_check.specs.Stages.{check}
use Rattle.page_check.proofs.AcceptedLaws.{accepted_sound, accepted_obeys}
use Rattle.page_check.proofs.GivenLaws.{sound_range, obeys_one}
use Rattle.cells.specs.Asked.{in_grid}
use Rattle.cells.specs.TileCells.{packed, unpackable, stored_at, location_of, place_in}
use Rattle.tile_routes.specs.Ways.{meant, referred_to, carries}
use Rattle.cells.specs.Routes.{cell_by}
use Rattle.cells.specs.Meaning.{meaning}
use Rattle.cells.proofs.ReadLaws.{accepted_finds}
use Rattle.cells.proofs.DemandLaws.{old_reads}
use Rattle.listing.specs.Listing.{written}
use Rattle.listing.proofs.IndexLaws.{carried, not_carried, line_each}
use Rattle.store.specs.Lookup.{lookup_of}
use Rattle.says.specs.Metadata.{metadata_records, has_key, number_from, metadata_number, read_metadata, MetadataSaid}
use Rattle.says.specs.Tiles.{stored, stored_tiles, tile_record_at, bit, bit_if, mask_of, packed_mask, packed_coded, first_packed, compressor_of, bit_of, TilesSaid, PackedSaid}

-- lists that increase, by place

behind_each : (a : ℕ) (l : List ℕ) (k : ℕ) → Behind a l → k < length l → a ≤ get_or l k 0
behind_each a [] k b h = absurd (omega arith)
behind_each a (x ∷ l) zero b h = b.0
behind_each a (x ∷ l) (suc k) b h = omega (arith, b.0, behind_each (x + 1) l k b.1 (omega arith))

behind_order : (a : ℕ) (l : List ℕ) (i k : ℕ) → Behind a l → i < k → k < length l → get_or l i 0 < get_or l k 0
behind_order a [] i k b h n = absurd (omega arith)
behind_order a (x ∷ l) i zero b h n = absurd (omega arith)
behind_order a (x ∷ l) zero (suc k) b h n = omega (arith, behind_each (x + 1) l k b.1 (omega arith))
behind_order a (x ∷ l) (suc i) (suc k) b h n = behind_order (x + 1) l i k b.1 (omega arith) (omega arith)

-- how many numbers below n a rule selects
select_count : (p : ℕ → Bool) (n : ℕ) → length (select p (below n)) ≡ count_below n p
unfolding below select count_below one_if
select_count p zero = refl
select_count p (suc n) =
    ap length (select_append p (below n) (n ∷ [])) ∙ length-append (select p (below n)) (select p (n ∷ [])) ∙ go (p n) refl (select_count p n)
  where
    go :
        (b : Bool) → p n ≡ b → length (select p (below n)) ≡ count_below n p →
        length (select p (below n)) + length (select p (n ∷ [])) ≡ count_below n p + pick (p n) 1 0
    go true e r = rw e (omega (arith, r))
    go false e r = rw e (omega (arith, r))

module _ (s : List ℕ) where
  is_stored_lem : (i : ℕ) → stored s i ≡ true → tile_reference s i ≡ 0 → ⊥
  unfolding stored
  is_stored_lem i e z = not_both e (ap not (eq-eqb (tile_reference s i) 0 z))

  stored_is : (i : ℕ) → (tile_reference s i ≡ 0 → ⊥) → stored s i ≡ true
  unfolding stored
  stored_is i f = ap not (ne_eqb (tile_reference s i) 0 f)

  among : {i : ℕ} → Memᴰ i (stored_tiles s) → (i < tile_count s) × (stored s i ≡ true)
  unfolding stored_tiles
  among m = let p = select_member (stored s) (below (tile_count s)) m in (member_below (tile_count s) p.0, p.1)

  ascending : (i k : ℕ) → i < k → k < length (stored_tiles s) → get_or (stored_tiles s) i 0 < get_or (stored_tiles s) k 0
  unfolding stored_tiles
  ascending i k h n =
      behind_order 0 (select (stored s) (below (tile_count s))) i k (behind_select (stored s) 0 (below (tile_count s)) (below_behind (tile_count s))) h n

  module _ (a : check s ≡ Ok tt) where
    one : OneToOne s
    one = obeys_one s (records s) (accepted_obeys s a)

    there : {i : ℕ} → Memᴰ i (stored_tiles s) → Memᴰ (tile_record_at s i) (records_of s 2) × (tile_index s (tile_record_at s i) ≡ i)
    unfolding tile_record_at
    there {i} m =
        let p = among m in
        let t = one.given i p.0 (is_stored_lem i p.1) in
        let z : tile_reference s i - 8 ≡ t.start = omega (arith, t.content) in
        rw z (t.among, t.index)

    each : {x : ℕ} → Memᴰ x (records_of s 2) → Memᴰ (tile_index s x) (stored_tiles s) × (tile_record_at s (tile_index s x) ≡ x)
    unfolding stored_tiles tile_record_at
    each {x} m =
        let r = one.listed m in (
          member_select (stored s) (below (tile_count s)) (below_member (tile_count s) (tile_index s x) (one.below m)) (stored_is (tile_index s x) (λ z. omega (arith, r, z))),
          omega (arith, r),
        )

    many : length (stored_tiles s) ≡ length (records_of s 2)
    unfolding stored_tiles written
    many =
        select_count (stored s) (tile_count s)
        ∙ count_same (tile_count s) (stored s) (λ i. some (carries s i) (records s))
        (λ i h.
        iff (stored s i) (some (carries s i) (records s)) (λ e. carried s a i h (is_stored_lem i e))
        (λ e. stored_is i (λ z. not_both e (not_carried s a i z))))
        ∙ line_each s a

pub tiles_said : TilesSaid
tiles_said s a = record { ascend = ascending s; below_count = λ m. (among s m).0; record_there = there s a; every = each s a; as_many = many s a }

-- the bits of a mask

bit_double : (b : Bool) (n : ℕ) → bit_if b (2 * n) ≡ 2 * bit_if b n
unfolding bit_if
bit_double true n = refl
bit_double false n = refl

bit_one : (b : Bool) → bit_if b 1 ≡ one_if b
unfolding bit_if one_if
bit_one b = refl

one_most : (b : Bool) → one_if b ≤ 1
unfolding one_if
one_most true = omega arith
one_most false = omega arith

mask_suc : (n : ℕ) (p : ℕ → Bool) → mask_of (suc n) p ≡ mask_of n p + bit_if (p n) (bit n)
unfolding mask_of sum_below
mask_suc n p = refl

mask_zero : (p : ℕ → Bool) → mask_of 0 p ≡ 0
unfolding mask_of sum_below
mask_zero p = refl

mask_cons : (n : ℕ) (p : ℕ → Bool) → mask_of (suc n) p ≡ one_if (p 0) + 2 * mask_of n (λ e. p (suc e))
unfolding bit
mask_cons zero p =
    let z : ℕ → Bool = λ e. p (suc e) in
    mask_suc 0 p ∙ omega (arith, mask_zero p, mask_zero z, bit_one (p 0))
mask_cons (suc n) p =
    let z : ℕ → Bool = λ e. p (suc e) in
    mask_suc (suc n) p ∙ omega (arith, mask_cons n p, mask_suc n z, bit_double (p (suc n)) (bit n))

mask_bit : (n e : ℕ) (p : ℕ → Bool) → e < n → bit_of e (mask_of n p) ≡ one_if (p e)
unfolding bit_of
mask_bit zero e p h = absurd (omega arith)
mask_bit (suc n) zero p h = omega (arith, mask_cons n p, one_most (p 0))
mask_bit (suc n) (suc e) p h =
    let z : ℕ → Bool = λ i. p (suc i) in
    let q : mask_of (suc n) p / 2 ≡ mask_of n z = omega (arith, mask_cons n p, one_most (p 0)) in
    ap (bit_of e) q ∙ mask_bit n e z (omega arith)

stored_kind : (s : List ℕ) (w : Location) (e place : ℕ) → cell_kind (stored_at s w e place) ≡ 32
unfolding stored_at
stored_kind s w e place = refl

-- a stored tile's record is the one meant

module _ (s : List ℕ) (a : check s ≡ Ok tt) (i : ℕ) (m : Memᴰ i (stored_tiles s)) where
  found : meant s i ≡ Some (tile_record_at s i)
  unfolding referred_to tile_record_at
  found =
      let p = among s m in
      sym (accepted_finds s a i p.0) ∙ rw (ne_eqb (tile_reference s i) 0 (is_stored_lem s i p.1))

  kind_told :
      (row column e : ℕ) → in_grid s row column e ≡ true → cell_tile s row column ≡ i →
      cell_kind (meaning s 256 row column e) ≡ pick (packed s (tile_record_at s i) e) 11 32
  unfolding meaning cell_by
  kind_told row column e g t =
      rw (g, t, found, old_reads s 256 (tile_record_at s i) row column e (omega arith)) (go (packed s (tile_record_at s i) e))
    where
      go :
          (b : Bool) →
          cell_kind (pick b (Err (Compressed (tile_record_at s i))) (stored_at s (location_of s row column) e (place_in s (tile_record_at s i) row column e))) ≡ pick b 11 32
      go true = refl
      go false = stored_kind s (location_of s row column) e (place_in s (tile_record_at s i) row column e)

  told :
      (row column e : ℕ) → in_grid s row column e ≡ true → cell_tile s row column ≡ i →
      bit_of e (packed_mask s (tile_record_at s i)) ≡ one_if (eqb (cell_kind (meaning s 256 row column e)) 11)
  unfolding packed_mask in_grid
  told row column e g t =
      let o = accepted_sound s a in
      let r = sound_range s (records s) o in
      let n : e < entries_read s = omega (arith, r.all, (means _ g).1.1.0) in
      mask_bit (entries_read s) e (packed s (tile_record_at s i)) n ∙ rw (kind_told row column e g t) (go (packed s (tile_record_at s i) e))
    where
      go : (b : Bool) → one_if b ≡ one_if (eqb (pick b 11 32) 11)
      go true = refl
      go false = refl

  index_named : Bytes s → (e : ℕ) → first_packed s (tile_record_at s i) ≡ Some e → unpackable s (compressor_of s (tile_record_at s i)) (tile_record_at s i) e ≡ true
  unfolding first_packed compressor_of unpackable packed_coded byte_at
  index_named b e f =
      let x : ℕ = tile_record_at s i in
      let h = means _ (first_holds (packed_coded s x) (entries_read s) e f).1 in
      rw f (sym (yes _ (omega (arith, b.small (element_content_at s x e)), (refl, (h.0, tt)))))

pub packed_said : PackedSaid
packed_said s b a i m = record { told = told s a i m; named = index_named s a i m b }

-- the look-up

module _ (p : ℕ → Bool) where
  number_holds : {C : Type 0} (j : ℕ) (l : List ℕ) (k : ℕ) → number_from j p l ≡ Some k → ((d : ℕ) → k ≡ j + d → d < length l → p (get_or l d 0) ≡ true → C) → C
  unfolding number_from
  number_holds j [] k e f = found_not (sym e) refl
  number_holds {C} j (x ∷ l) k e f = go (p x) refl (number_holds {C = C} (j + 1) l k)
    where
      go : (b : Bool) → p x ≡ b → (number_from (j + 1) p l ≡ Some k → ((d : ℕ) → k ≡ j + 1 + d → d < length l → p (get_or l d 0) ≡ true → C) → C) → C
      go true h r = let z : j ≡ k = at_is (rw h at e) in f 0 (omega (arith, z)) (omega arith) h
      go false h r = r (rw h at e) (λ d u v w. f (suc d) (omega (arith, u)) (omega (arith, v)) w)

  holds_number :
      (j : ℕ) (l : List ℕ) (d : ℕ) → d < length l → p (get_or l d 0) ≡ true → ((c : ℕ) → c < d → p (get_or l c 0) ≡ false) → number_from j p l ≡ Some (j + d)
  unfolding number_from
  holds_number j [] d h e f = absurd (omega arith)
  holds_number j (x ∷ l) zero h e f = let z : j + 0 ≡ j = omega arith in rw (z, e)
  holds_number j (x ∷ l) (suc d) h e f =
      let z : j + suc d ≡ j + 1 + d = omega arith in
      rw (z, f 0 (omega arith)) (holds_number (j + 1) l d (omega arith) e (λ c k. f (suc c) (omega arith)))

number_found : (f : Option ℕ) (e : ℕ) → lookup_of f ≡ Ok (Some e) → f ≡ Some e
number_found (Some x) e p = let z : x ≡ e = cc in ap Some z
number_found None e p = let z : ◌≡◌ {A = ℕ} 0 1 = cc in absurd (omega arith)

apart_key : (a b : Bool) → a ≡ false → b ≡ true → a || not b ≡ true → ⊥
apart_key true b p q h = not_both refl p
apart_key false true p q h = not_both h refl
apart_key false false p q h = not_both q refl

increasing : (s : List ℕ) → Behind 0 (metadata_records s)
unfolding metadata_records
increasing s = records_behind s 1

module _ (s : List ℕ) (a : check s ≡ Ok tt) where
  keys : keys_distinct s ≡ true
  unfolding metadata_directory_right
  keys = (means _ (accepted_sound s a).metadata_directory_lem).1.1.1.1.1.0

  behind : (name : List ℕ) (id : ℕ) → read_metadata s name id ≡ lookup_of (metadata_number s name id)
  unfolding read_metadata unless_refused
  behind name id = rw a

  by_number :
      (name : List ℕ) (id k : ℕ) → read_metadata s name id ≡ Ok (Some k) →
      (k < length (metadata_records s)) × ((metadata_name s (get_or (metadata_records s) k 0) ≡ name) × (record_id s (get_or (metadata_records s) k 0) ≡ id))
  unfolding metadata_number has_key
  by_number name id k e =
      number_holds (has_key s name id) 0 (metadata_records s) k (number_found (metadata_number s name id) k (sym (behind name id) ∙ e))
      (λ d u v w.
      let z : d ≡ k = omega (arith, u) in
      let h = means _ (rw z at w) in
      (omega (arith, v, z), (same_is _ _ h.1.0, h.0)))

  own_key : (x y : ℕ) → metadata_name s x ≡ metadata_name s y → record_id s x ≡ record_id s y → has_key s (metadata_name s y) (record_id s y) x ≡ true
  unfolding has_key
  own_key x y n i = sym (yes _ (i, (is_same _ _ n, tt)))

  other_key : (x y : ℕ) → Memᴰ x (metadata_records s) → Memᴰ y (metadata_records s) → x < y → has_key s (metadata_name s y) (record_id s y) x ≡ false
  unfolding has_key keys_distinct same_key metadata_records
  other_key x y m n h =
      sym
      (no_true _
      (λ t.
      let k = means _ t in
      let g = every_member _ (records_of s 1) (every_member _ (records_of s 1) keys m) n in
      let v = yes (is (same_bytes (metadata_name s x) (metadata_name s y)) ∷ (record_id s x ≡? record_id s y) ∷ []) (k.1.0, (k.0, tt)) in
      apart_key (eqb x y) _ (ne_eqb x y (λ d. omega (arith, d))) (sym v) g))

  by_own :
      (k : ℕ) → k < length (metadata_records s) →
      read_metadata s (metadata_name s (get_or (metadata_records s) k 0)) (record_id s (get_or (metadata_records s) k 0)) ≡ Ok (Some k)
  unfolding metadata_number
  by_own k h =
      let l : List ℕ = metadata_records s in
      let y : ℕ = get_or l k 0 in
      let z : 0 + k ≡ k = omega arith in
      behind (metadata_name s y) (record_id s y)
      ∙ ap lookup_of
      (holds_number (has_key s (metadata_name s y) (record_id s y)) 0 l k h (own_key y y refl refl)
      (λ c n. other_key (get_or l c 0) y (place_member l c (omega arith)) (place_member l k h) (ordered c k n h)))
      ∙ ap (λ (y : ℕ). Ok (Some y)) z
    where
      ordered : (c d : ℕ) → c < d → d < length (metadata_records s) → get_or (metadata_records s) c 0 < get_or (metadata_records s) d 0
      ordered c d n h = behind_order 0 (metadata_records s) c d (increasing s) n h

pub metadata_said : MetadataSaid
metadata_said s a = record { number = by_number s a; found = by_own s a }
