-- The metadata records in file order, and the one with a name and an ID. Assumes nothing.
use Rattle.std.specs.Prelude.{None, Ok, Some}
use Prim.Native.Nat.{ℕ, ◌+◌, ◌≤◌, ◌<◌}
use mathlib.Core.Path.{◌≡◌, refl, sym, ap, ◌∙◌}
use mathlib.Core.List.{List, [], ◌∷◌}
use mathlib.Core.Bool.{Bool, true, false}
use mathlib.Core.Logic.{◌⊎◌}
use native.Mathlib.Omega.{arith}
use lib.ListN.{length}
use denote.Enum.Declared.{tag_of}
use borrow.Author.Tests.{lt-leb, eq-eqb, ne_eqb}
use Rattle.wire.specs.Tests.{◌≡?◌, is}
use Rattle.wire.specs.Bytes.{byte_at, u16_at, u32_at, same_bytes, put}
use Rattle.wire.specs.Lists.{select}
use Rattle.wire.proofs.TestLaws.{no, either_way, not_both}
use Rattle.record.specs.declared.Cursor.{Cursor}
use Rattle.record.specs.declared.Step.{Step}
use Rattle.record.specs.declared.Step.TheVariants.{Record}
use Rattle.record.specs.Record.{type_at, length_at, record_ok, step_at}
use Rattle.record.specs.Chain.{starts, header_end, records, records_of}
use Rattle.record.proofs.ChainLaws.{stepped, starts_none, starts_record}
use Rattle.record.proofs.SeekLaws.{over}
use Rattle.record.specs.contracts.Step.{the_type}
use Rattle.bodies.specs.MetadataRecord.{metadata_name, record_id_at, record_id_start, record_id, data_type, content_length_at, metadata_length, metadata_description_at}
use Rattle.store.specs.Lookup.{lookup_of}
use Rattle.says.specs.declared.lists.Progress.{Progress}
use Rattle.says.specs.declared.lists.Listed.TheVariants.{Items}
use Rattle.says.specs.Lists.{items_of, item_numbers, offered, offered_to, offered_if, offered_if_to}
use Rattle.says.specs.Metadata.{is_metadata, metadata_records, metadata_says, has_key, number_from, metadata_number}
use Rattle.says.proofs.ItemLaws.{Listing, list_begin, list_select, list_numbers_lem, list_items, seen_if, offer_none, offer_some, to_none, to_some}

-- the numbers of a record

module _ (s : List ℕ) (x at : ℕ) (h : x < length s) (t : at ≡ record_id_start s x) where
  id_there : at ≡ record_id_at s x
  unfolding record_id_start
  id_there = t ∙ rw (lt-leb (length s) x h)

  content_there : at + 9 ≡ content_length_at s x + 4
  unfolding content_length_at
  content_there = omega (arith, id_there)

  content_long : (n : ℕ) → n ≡ u32_at s (at + 5) → n ≡ metadata_length s x
  unfolding metadata_length content_length_at
  content_long n e = e ∙ rw id_there

  description_there : (n : ℕ) → n ≡ metadata_length s x → at + 9 + n ≡ metadata_description_at s x
  unfolding metadata_description_at
  description_there n e = omega (arith, content_there, e)

  pub record_item :
      (nl id kind n dl : ℕ) → nl ≡ u16_at s (x + 8) → id ≡ record_id s x → kind ≡ data_type s x → n ≡ u32_at s (at + 5) → dl ≡ u16_at s (at + 9 + n) →
      x ∷ (x + 10) ∷ nl ∷ id ∷ kind ∷ (at + 9) ∷ n ∷ (at + 9 + n + 2) ∷ dl ∷ [] ≡ metadata_says s x
  unfolding metadata_says
  record_item nl id kind n dl p q r u w =
      let a : at + 9 ≡ content_length_at s x + 4 = content_there in
      let b : n ≡ metadata_length s x = content_long n u in
      let c : at + 9 + n ≡ metadata_description_at s x = description_there n b in
      let d : at + 9 + n + 2 ≡ metadata_description_at s x + 2 = omega (arith, c) in
      let e : dl ≡ u16_at s (metadata_description_at s x) = w ∙ ap (u16_at s) c in
      cc

metadata_long : (s : List ℕ) (x : ℕ) → length (metadata_says s x) ≡ 9
unfolding metadata_says
metadata_long s x = refl

-- a record given to the list, by its type

module _ (s : List ℕ) (x t : ℕ) (p : Progress) (e : t ≡ byte_at s (x + 4)) where
  other : (t ≡ 1 → ⊥) → is_metadata s x ≡ false
  unfolding is_metadata
  other f = ne_eqb _ _ (λ z. f (e ∙ z))

  this : t ≡ 1 → is_metadata s x ≡ true
  unfolding is_metadata
  this f = eq-eqb _ _ (sym e ∙ f)

  pub record_none : (room : ℕ) → (t ≡ 1 → ⊥) → p ≡ offered_if (is_metadata s x) 9 room p
  record_none room f = offer_none _ 9 room p (other f)

  pub record_none_to : (d : List ℕ) → (t ≡ 1 → ⊥) → d ≡ offered_if_to (is_metadata s x) d (metadata_says s x) p
  record_none_to d f = to_none _ d (metadata_says s x) p (other f)

  pub record_some : (room : ℕ) (q : Progress) (v : List ℕ) → t ≡ 1 → v ≡ metadata_says s x → q ≡ offered (length v) room p → q ≡ offered_if (is_metadata s x) 9 room p
  record_some room q v f g h = offer_some _ 9 room p q (this f) (h ∙ ap (λ (k : ℕ). offered k room p) (ap length g ∙ metadata_long s x))

  pub record_some_to :
      (d d' v : List ℕ) → t ≡ 1 → v ≡ metadata_says s x → d' ≡ offered_to d v p → d' ≡ offered_if_to (is_metadata s x) d (metadata_says s x) p
  record_some_to d d' v f g h = to_some _ d (metadata_says s x) p d' (this f) (h ∙ ap (λ (l : List ℕ). offered_to d l p) g)

-- those from a position on
unfoldable pub metadata_ahead : List ℕ → ℕ → List ℕ
metadata_ahead s at = select (is_metadata s) (starts s at)

ahead_all : (s : List ℕ) → metadata_ahead s (header_end s) ≡ metadata_records s
unfolding metadata_ahead metadata_records records_of records is_metadata
ahead_all s = refl

ahead_none : (s : List ℕ) (at : ℕ) → record_ok s at ≡ false → metadata_ahead s at ≡ []
unfolding metadata_ahead select
ahead_none s at e = rw (starts_none s at e)

ahead_record : (s : List ℕ) (at : ℕ) → record_ok s at ≡ true → metadata_ahead s at ≡ select (is_metadata s) (at ∷ starts s (at + length_at s at))
unfolding metadata_ahead
ahead_record s at e = rw (starts_record s at e)

-- the list: those from the cursor on are still to come

abbrev pub Records : List ℕ → ℕ → List ℕ → Progress → List ℕ → ℕ → Type 0
Records s from d₀ p d at = Listing (metadata_says s) 9 from (metadata_records s) d₀ p d (metadata_ahead s at)

pub records_begin : (s : List ℕ) (from at : ℕ) (d₀ : List ℕ) → at ≡ header_end s → Records s from d₀ (record { skip = from; at = 0; taken = 0; seen = 0 }) d₀ at
records_begin s from at d₀ e = rw (e, ahead_all s) (list_begin (metadata_says s) 9 from (metadata_records s) d₀)

module _ (s : List ℕ) (from at k st n : ℕ) (d₀ d : List ℕ) (p : Progress) (nx : Cursor) (x : Step) (u : x ≡ Record k st n nx) (v : x ≡ step_at s at) where
  pub records_step :
      (q : Progress) (d' : List ℕ) → Records s from d₀ p d at → q ≡ offered_if (is_metadata s st) 9 (length d) p →
      d' ≡ offered_if_to (is_metadata s st) d (metadata_says s st) p → Records s from d₀ q d' nx.at
  unfolding metadata_ahead
  records_step q d' i g h =
      let z = stepped u v in
      let a : st ≡ at = z.start in
      let j : Listing (metadata_says s) 9 from (metadata_records s) d₀ p d (select (is_metadata s) (at ∷ starts s (at + length_at s at))) = rw (ahead_record s at z.ok) at i in
      rw z.next
      (list_select (metadata_says s) 9 from (metadata_records s) d₀ (metadata_long s) (is_metadata s) p q d d' (starts s (at + length_at s at)) at j
      (rw a at g) (rw a at h))

module _ (s : List ℕ) (at k st n : ℕ) (nx : Cursor) (x : Step) (u : x ≡ Record k st n nx) (v : x ≡ step_at s at) where
  pub records_seen : (b : Bool) (p q : Progress) (room : ℕ) → p.seen ≤ at → q ≡ offered_if b 9 room p → q.seen ≤ nx.at
  records_seen b p q room h g = let z = stepped u v in omega (arith, z.next, z.is.long, seen_if b 9 room at p q g h)

  pub records_inside : (m : ℕ) → m ≤ at → m < length s
  records_inside m h = omega (arith, (stepped u v).before_end, h)

module _ (s : List ℕ) (from at : ℕ) (d₀ d : List ℕ) (p : Progress) (x : Step) (i : Records s from d₀ p d at) (v : x ≡ step_at s at) (t : (tag_of the_type x ≡ 1) ⊎ (tag_of the_type x ≡ 2)) where
  no_more_lem : Listing (metadata_says s) 9 from (metadata_records s) d₀ p d []
  no_more_lem = rw (ahead_none s at (over s at x v t)) at i

  pub records_end_lem : Items p.taken p.seen ≡ items_of 9 from (metadata_records s) (length d₀)
  records_end_lem = list_items (metadata_says s) 9 from (metadata_records s) d₀ p d no_more_lem

  pub records_written : d ≡ put d₀ 0 (item_numbers (metadata_says s) 9 from (metadata_records s) (length d₀))
  records_written = list_numbers_lem (metadata_says s) 9 from (metadata_records s) d₀ p d no_more_lem

-- a record with a name and an ID

module _ (s name : List ℕ) (id x i : ℕ) (p : i ≡ record_id s x) where
  pub other_id_lem : (i ≡ id → ⊥) → false ≡ has_key s name id x
  unfolding has_key
  other_id_lem f = no ((record_id s x ≡? id) ∷ is (same_bytes (metadata_name s x) name) ∷ []) (λ y. f (p ∙ y.0))

  pub of_id : (b : Bool) (m : List ℕ) → i ≡ id → m ≡ metadata_name s x → b ≡ same_bytes m name → b ≡ has_key s name id x
  unfolding has_key
  of_id b m q e t =
      either_way ((record_id s x ≡? id) ∷ is (same_bytes (metadata_name s x) name) ∷ []) b (λ f. (sym p ∙ q, (rw e at (sym t ∙ f), tt)))
      (λ f y. not_both y.1.0 (sym (rw e at t) ∙ f))

module _ (k : ℕ) (p : ℕ → Bool) (x : ℕ) (l : List ℕ) where
  number_here : p x ≡ true → number_from k p (x ∷ l) ≡ Some k
  unfolding number_from
  number_here e = rw e

  number_next : p x ≡ false → number_from k p (x ∷ l) ≡ number_from (k + 1) p l
  unfolding number_from
  number_next e = rw e

-- what comes from a record on, by its type
module _ (s : List ℕ) (at : ℕ) (o : record_ok s at ≡ true) where
  ahead_pass : is_metadata s at ≡ false → metadata_ahead s at ≡ metadata_ahead s (at + length_at s at)
  unfolding metadata_ahead select
  ahead_pass e = rw (starts_record s at o, e)

  ahead_take : is_metadata s at ≡ true → metadata_ahead s at ≡ at ∷ metadata_ahead s (at + length_at s at)
  unfolding metadata_ahead select
  ahead_take e = rw (starts_record s at o, e)

type_metadata : (s : List ℕ) (at kind : ℕ) → kind ≡ type_at s at → kind ≡ 1 → is_metadata s at ≡ true
unfolding is_metadata
type_metadata s at kind e f = eq-eqb _ _ (sym e ∙ f)

type_other : (s : List ℕ) (at kind : ℕ) → kind ≡ type_at s at → (kind ≡ 1 → ⊥) → is_metadata s at ≡ false
unfolding is_metadata
type_other s at kind e f = ne_eqb _ _ (λ z. f (e ∙ z))

-- the search: what is left has the number that all have
pub record Keyed (s name : List ℕ) (id at k : ℕ) : Type 0 where
  pub same : lookup_of (number_from k (has_key s name id) (metadata_ahead s at)) ≡ lookup_of (metadata_number s name id)
  pub few : k ≤ at

pub key_begin : (s name : List ℕ) (id at : ℕ) → at ≡ header_end s → Keyed s name id at 0
unfolding metadata_number
key_begin s name id at e = record { same = rw (e, ahead_all s); few = omega arith }

module _ {s name : List ℕ} {id at k kind st n : ℕ} {nx : Cursor} {x : Step} (i : Keyed s name id at k) (u : x ≡ Record kind st n nx) (v : x ≡ step_at s at) where
  pub key_room : k < length s
  key_room = omega (arith, (stepped u v).before_end, i.few)

  pub key_pass : (kind ≡ 1 → ⊥) → Keyed s name id nx.at k
  key_pass f =
      let z = stepped u v in
      let a : is_metadata s at ≡ false = type_other s at kind (rw z.start at z.kind) f in
      record {
        same = rw z.next (ap (λ (l : List ℕ). lookup_of (number_from k (has_key s name id) l)) (sym (ahead_pass s at z.ok a)) ∙ i.same);
        few = omega (arith, z.next, z.is.long, i.few);
      }

  -- the record at the cursor, which is a metadata record
  ahead_is : kind ≡ 1 → lookup_of (number_from k (has_key s name id) (at ∷ metadata_ahead s (at + length_at s at))) ≡ lookup_of (metadata_number s name id)
  ahead_is f =
      let z = stepped u v in
      let a : is_metadata s at ≡ true = type_metadata s at kind (rw z.start at z.kind) f in
      rw (ahead_take s at z.ok a) at i.same

  pub key_next : (b : Bool) → kind ≡ 1 → b ≡ has_key s name id st → b ≡ false → Keyed s name id nx.at (k + 1)
  key_next b f g h =
      let z = stepped u v in
      let a : has_key s name id at ≡ false = rw z.start at (sym g ∙ h) in
      record {
        same =
            rw z.next
            (ap lookup_of (sym (number_next k (has_key s name id) at (metadata_ahead s (at + length_at s at)) a)) ∙ ahead_is f);
        few = omega (arith, z.next, z.is.long, i.few);
      }

  pub key_here : (b : Bool) → kind ≡ 1 → b ≡ has_key s name id st → b ≡ true → Ok (Some k) ≡ lookup_of (metadata_number s name id)
  key_here b f g h =
      let z = stepped u v in
      let a : has_key s name id at ≡ true = rw z.start at (sym g ∙ h) in
      ap lookup_of (sym (number_here k (has_key s name id) at (metadata_ahead s (at + length_at s at)) a)) ∙ ahead_is f

pub key_over : {s name : List ℕ} {id at k : ℕ} {x : Step} → Keyed s name id at k → x ≡ step_at s at → (tag_of the_type x ≡ 1) ⊎ (tag_of the_type x ≡ 2) → Ok None ≡ lookup_of (metadata_number s name id)
unfolding number_from
key_over {s} {name} {id} {at} {k} {x} i v t = rw (ahead_none s at (over s at x v t)) at i.same
