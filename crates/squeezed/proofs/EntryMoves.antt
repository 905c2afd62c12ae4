-- A metadata directory that has moved, with its entries' positions changed. Assumes nothing.
use Prim.Native.Nat.{ℕ, zero, suc, ◌+◌, ◌-◌, ◌≤◌, ◌<◌}
use mathlib.Core.Path.{◌≡◌, refl, sym, ap, ◌∙◌}
use mathlib.Core.Logic.{◌⊎◌, inl, inr, by_cases}
use mathlib.Core.List.{List, [], ◌∷◌, map}
use mathlib.Core.Bool.{true}
use native.Mathlib.Decide.{dec_le}
use native.Mathlib.Omega.{arith}
use native.Mathlib.Numerals.{add-one}
use lib.ListN.{length}
use borrow.Author.Tests.{ne_eqb, le-leb}
use Rattle.wire.specs.Bytes.{number, number_at, part, u16_at, u32_at, u64_at, Same, largest_integer}
use Rattle.wire.specs.Lists.{below}
use Rattle.wire.proofs.TestLaws.{means, yes}
use Rattle.wire.proofs.ByteLaws.{part_same, number_same, same_trans, bytes_length, number_bytes, number_one}
use Rattle.wire.proofs.ItemLaws.{advance_more, advance_mono, advance_none}
use Rattle.wire.proofs.PlaceLaws.{Placed, placed_inside, placed_part, placed_number}
use Rattle.record.specs.Record.{length_at, content_at, record_limit, padded}
use Rattle.header.specs.Fields.{checksum_enabled, metadata_reference}
use Rattle.header.specs.Element.{string_size, string_end}
use Rattle.bodies.specs.MetadataRecord.{metadata_name, record_id_at, record_id, data_type}
use Rattle.bodies.specs.ListDirectories.{entry_count, metadata_at, metadata_count, metadata_entry_size, metadata_entry_end, metadata_entry_at}
use Rattle.check_lists.specs.Metadata.{metadata_fits}
use Rattle.check_lists.specs.Rearranged.{metadata_entry, metadata_entries}
use Rattle.check_lists.proofs.MetadataLaws.{end_grows, first_behind}
use Rattle.pieces.specs.Edits.{resealed}
use Rattle.alone.specs.Alone.{Moved}
use Rattle.alone.specs.Moves.{renamed}
use Rattle.alone.proofs.MovedLaws.{moved_part}
use Rattle.page_laws.proofs.TileMapLaws.{below_map}
use Rattle.correct.specs.Renamed.{put_each, entry_in, position_then, metadata_renamed}
use Rattle.squeezed.proofs.PutLaws.{each_length, each_beside, each_there, resealed_same, resealed_length}

-- bytes that have moved, read at places given

moved_number :
    {s t : List ℕ} {x y n : ℕ} → Moved s x t y n → (w i a b : ℕ) → i + w ≤ n → a ≡ x + i → b ≡ y + i → number_at w s a ≡ number_at w t b
unfolding number_at
moved_number m w i a b h e f = ap number (rw (e, f) (moved_part m i w h))

map_twice : {A B C : Type 0} (f : A → B) (g : B → C) (l : List A) → map g (map f l) ≡ map (λ x. g (f x)) l
map_twice f g [] = refl
map_twice {C = C} f g (x ∷ l) = ap (λ (k : List C). g (f x) ∷ k) (map_twice f g l)

-- the directory r of page s, at d, stands in t at e, renamed
pub record DirectoryMoves (s t r : List ℕ) (d e : ℕ) (named : ℕ → ℕ) : Type 0 where
  pub first : Placed s d r
  pub second : Placed t e (metadata_renamed s named r)
  pub refers : metadata_reference s ≡ content_at d
  pub refers_too : metadata_reference t ≡ content_at e
  pub stated : length_at r 0 ≡ length r
  pub long : 16 ≤ length r
  pub small : (c : ℕ) → named c < 18446744073709551616
  pub fits : metadata_fits s ≡ true

module _ {s t r : List ℕ} {d e : ℕ} {named : ℕ → ℕ} (h : DirectoryMoves s t r d e named) where
  abbrev q : List ℕ
  q = metadata_renamed s named r

  abbrev C : ℕ
  C = metadata_count s

  abbrev E : ℕ → ℕ
  E k = metadata_entry_at s k

  at_s : metadata_at s ≡ d
  unfolding metadata_at
  at_s = omega (arith, h.refers)

  at_t : metadata_at t ≡ e
  unfolding metadata_at
  at_t = omega (arith, h.refers_too)

  length_s : length_at s d ≡ length r
  length_s = let z : d + 0 ≡ d = omega arith in ap (λ (i : ℕ). length_at s i) (sym z) ∙ placed_number h.first 4 0 (omega (arith, h.long)) ∙ h.stated

  limit_s : record_limit s d ≡ d + (length r - 4)
  unfolding record_limit
  limit_s = omega (arith, length_s, placed_inside h.first, h.long)

  some_s : metadata_reference s ≡ 0 → ⊥
  some_s z = omega (arith, h.refers)

  some_t : metadata_reference t ≡ 0 → ⊥
  some_t z = omega (arith, h.refers_too)

  -- its entries

  counted : (C ≤ largest_integer) × (padded s (metadata_at s) (E C) ≡ true)
  unfolding metadata_fits
  counted = let a = means _ (rw (ne_eqb (metadata_reference s) 0 some_s) at h.fits) in (a.0, a.1.0)

  last_s : (E C ≤ d + (length r - 4)) × (d + (length r - 4) ≤ E C + 7)
  unfolding padded
  last_s = let a = means _ (rw at_s at counted.1) in (omega (arith, a.0, limit_s), omega (arith, a.1.0, limit_s))

  first_s : (k : ℕ) → d + 12 ≤ E k
  first_s k = omega (arith, first_behind s k, at_s)

  mono : (i j : ℕ) → i ≤ j → E i ≤ E j
  unfolding metadata_entry_at
  mono i j l =
      let z : i + (j - i) ≡ j = omega arith in
      rw z at (advance_mono (metadata_entry_end s) (record_limit s (metadata_at s)) (end_grows s) i (j - i) (metadata_at s + 12))

  inside_s : (k : ℕ) → k ≤ C → E k ≤ d + (length r - 4)
  inside_s k l = omega (arith, mono k C l, last_s.0)

  next_of : (u : List ℕ) (j : ℕ) → metadata_entry_at u j ≤ record_limit u (metadata_at u) → metadata_entry_at u (j + 1) ≡ metadata_entry_end u (metadata_entry_at u j)
  unfolding metadata_entry_at
  next_of u j l = advance_more (metadata_entry_end u) (record_limit u (metadata_at u)) j (metadata_at u + 12) ∙ rw (le-leb _ _ l)

  next_s : (j : ℕ) → j ≤ C → E (j + 1) ≡ metadata_entry_end s (E j)
  next_s j l = next_of s j (omega (arith, inside_s j l, ap (record_limit s) at_s, limit_s))

  end_is : (u : List ℕ) (p : ℕ) → metadata_entry_end u p ≡ p + 15 + u16_at u (p + 8)
  unfolding metadata_entry_end metadata_entry_size string_size
  end_is u p = omega arith

  step : (j : ℕ) → j < C → E j + 15 ≤ E (j + 1)
  step j l = omega (arith, next_s j (omega arith), end_is s (E j))

  -- beside the positions it is as it was

  abbrev o : ℕ → ℕ
  o k = entry_in s k

  o_is : (k : ℕ) → o k ≡ E k - d
  o_is k = rw at_s

  long_is : (k : ℕ) → length (position_then s named k) ≡ 8
  long_is k = bytes_length 8 _

  put_long : length (put_each o (position_then s named) C r) ≡ length r
  put_long = each_length o (position_then s named) r C

  q_long : length q ≡ length r
  unfolding metadata_renamed
  q_long = resealed_length (checksum_enabled s) _ ∙ put_long

  beside : (a b : ℕ) → b + 4 ≤ length r → ((i : ℕ) → i < C → (b ≤ o i) ⊎ (o i + 8 ≤ a)) → Same r q a b
  unfolding metadata_renamed
  beside a b l f =
      same_trans
      (each_beside o (position_then s named) r C a b (omega arith) (λ i k. turn i (f i k)))
      (resealed_same (checksum_enabled s) (put_each o (position_then s named) C r) (omega (arith, h.long, put_long)) a b (omega (arith, put_long)))
    where
      turn : (i : ℕ) → (b ≤ o i) ⊎ (o i + 8 ≤ a) → (b ≤ o i) ⊎ (o i + length (position_then s named i) ≤ a)
      turn i (inl x) = inl x
      turn i (inr x) = inr (omega (arith, long_is i))

  head : Same r q 0 12
  head = beside 0 12 (omega (arith, h.long)) (λ i k. inl (omega (arith, first_s i, o_is i)))

  length_t : length_at t e ≡ length r
  length_t =
      let z : e + 0 ≡ e = omega arith in
      ap (λ (i : ℕ). length_at t i) (sym z) ∙ placed_number h.second 4 0 (omega (arith, h.long, q_long)) ∙ sym (number_same head 4 0 (omega arith) (omega arith)) ∙ h.stated

  limit_t : record_limit t e ≡ e + (length r - 4)
  unfolding record_limit
  limit_t = omega (arith, length_t, placed_inside h.second, h.long, q_long)

  count_same : metadata_count t ≡ C
  unfolding metadata_count entry_count
  count_same =
      let a : u32_at t (e + 8) ≡ u32_at s (d + 8) =
      placed_number h.second 4 8 (omega (arith, h.long, q_long)) ∙ sym (number_same head 4 8 (omega arith) (omega arith)) ∙ sym (placed_number h.first 4 8 (omega (arith, h.long))) in
      rw (ne_eqb (metadata_reference s) 0 some_s, ne_eqb (metadata_reference t) 0 some_t, h.refers, h.refers_too) a

  o_add : (k : ℕ) → d + o k ≡ E k
  o_add k = omega (arith, o_is k, first_s k)

  -- what stands behind position k and before the next entry is beside all positions
  between : (k : ℕ) → k < C → (i : ℕ) → i < C → (o (k + 1) ≤ o i) ⊎ (o i + 8 ≤ o k + 8)
  between k l i g =
      by_cases (dec_le i k) (λ x. inr (low i (mono i k x) (o_add i) (o_add k)))
      (λ x. inl (high i (mono (k + 1) i (omega arith)) (o_add i) (o_add (k + 1))))
    where
      low : (i : ℕ) → E i ≤ E k → d + o i ≡ E i → d + o k ≡ E k → o i + 8 ≤ o k + 8
      low i a b c = omega arith

      high : (i : ℕ) → E (k + 1) ≤ E i → d + o i ≡ E i → d + o (k + 1) ≡ E (k + 1) → o (k + 1) ≤ o i
      high i a b c = omega arith

  -- behind its position each entry is as it was
  abbrev rest : ℕ → ℕ
  rest k = E (k + 1) - E k - 8

  rest_is : (k : ℕ) → k < C → E k + 8 + rest k ≡ E (k + 1)
  rest_is k l = omega (arith, step k l)

  rest_in : (k : ℕ) → k < C → o k + 8 + rest k ≡ o (k + 1)
  rest_in k l = add (rest k) (rest_is k l) (o_add k) (o_add (k + 1))
    where
      add : (n : ℕ) → E k + 8 + n ≡ E (k + 1) → d + o k ≡ E k → d + o (k + 1) ≡ E (k + 1) → o k + 8 + n ≡ o (k + 1)
      add n a b c = omega arith

  in_record : (k : ℕ) → k < C → o (k + 1) + 4 ≤ length r
  in_record k l = add (inside_s (k + 1) (omega arith)) (o_add (k + 1)) h.long
    where
      add : E (k + 1) ≤ d + (length r - 4) → d + o (k + 1) ≡ E (k + 1) → 16 ≤ length r → o (k + 1) + 4 ≤ length r
      add a b c = omega arith

  range : (k : ℕ) → k < C → Same r q (o k + 8) (o (k + 1))
  range k l = beside (o k + 8) (o (k + 1)) (in_record k l) (between k l)

  module _ (k : ℕ) (l : k < C) (n : ℕ) (z : n ≡ rest k) where
    whole_in : o k + 8 + n ≤ length r
    whole_in = add (rest_in k l) (in_record k l)
      where
        add : o k + 8 + rest k ≡ o (k + 1) → o (k + 1) + 4 ≤ length r → o k + 8 + n ≤ length r
        add a b = let y : o k + 8 + n ≡ o k + 8 + rest k = ap (λ (i : ℕ). o k + 8 + i) z in omega arith

    in_range_lem : o k + 8 + n ≤ o (k + 1)
    in_range_lem = let y : o k + 8 + n ≡ o (k + 1) = ap (λ (i : ℕ). o k + 8 + i) z ∙ rest_in k l in omega arith

    part_moved : part s (E k + 8) n ≡ part t (e + o k + 8) n
    part_moved =
        let a : E k + 8 ≡ d + (o k + 8) = omega (arith, o_add k) in
        let b : e + o k + 8 ≡ e + (o k + 8) = omega arith in
        rw (a, b)
        (placed_part h.first (o k + 8) n whole_in ∙ part_same (range k l) (o k + 8) n (omega arith) in_range_lem
        ∙ sym (placed_part h.second (o k + 8) n (rw q_long whole_in)))

  entry_moved : (k : ℕ) → k < C → Moved s (E k + 8) t (e + o k + 8) (rest k)
  entry_moved k l =
      record {
        in_first = add (rest_in k l) (in_record k l) (o_add k) (placed_inside h.first);
        in_second = add_too (rest_in k l) (in_record k l) (placed_inside h.second) q_long;
        bytes = part_moved k l (rest k) refl;
      }
    where
      add : o k + 8 + rest k ≡ o (k + 1) → o (k + 1) + 4 ≤ length r → d + o k ≡ E k → d + length r ≤ length s → E k + 8 + rest k ≤ length s
      add a b c f = go (rest k) a
        where
          go : (n : ℕ) → o k + 8 + n ≡ o (k + 1) → E k + 8 + n ≤ length s
          go n a = omega arith

      add_too : o k + 8 + rest k ≡ o (k + 1) → o (k + 1) + 4 ≤ length r → e + length q ≤ length t → length q ≡ length r → e + o k + 8 + rest k ≤ length t
      add_too a b c f = go (rest k) a
        where
          go : (n : ℕ) → o k + 8 + n ≡ o (k + 1) → e + o k + 8 + n ≤ length t
          go n a = omega arith

  -- and its position is the new one
  field : (k : ℕ) → k < C → part q (o k) 8 ≡ position_then s named k
  unfolding metadata_renamed
  field k l =
      let g = step k l in
      let i = inside_s (k + 1) (omega arith) in
      let f = first_s k in
      let w = o_is k in
      let x = long_is k in
      let F = put_each o (position_then s named) C r in
      let m : Same F (resealed (checksum_enabled s) F) (o k) (o k + 8) = resealed_same (checksum_enabled s) F (omega (arith, h.long, put_long)) (o k) (o k + 8) (omega (arith, put_long)) in
      sym (part_same m (o k) 8 (omega arith) (omega arith))
      ∙ ap (part F (o k)) (sym x)
      ∙ each_there o (position_then s named) r C k l (omega arith) (λ j a b. omega (arith, mono (k + 1) j (omega arith), o_is j))

  value : (k : ℕ) → k < C → u64_at t (e + o k) ≡ named (u64_at s (E k))
  unfolding number_at
  value k l =
      let g = step k l in
      let i = inside_s (k + 1) (omega arith) in
      let f = first_s k in
      let w = o_is k in
      ap number (placed_part h.second (o k) 8 (omega (arith, q_long)) ∙ field k l) ∙ number_bytes 8 (named (number (part s (E k) 8))) (h.small (number (part s (E k) 8)))

  -- so the entries stand at the same distance
  zero_of : (u : List ℕ) → metadata_entry_at u 0 ≡ metadata_at u + 12
  unfolding metadata_entry_at
  zero_of u = advance_none (metadata_entry_end u) (record_limit u (metadata_at u)) (metadata_at u + 12)

  size_same : (k : ℕ) → k < C → u16_at s (E k + 8) ≡ u16_at t (e + o k + 8)
  size_same k l = moved_number (entry_moved k l) 2 0 (E k + 8) (e + o k + 8) (omega (arith, step k l)) (omega arith) (omega arith)

  place : (k : ℕ) → k ≤ C → metadata_entry_at t k ≡ e + o k
  place zero l = zero_of t ∙ omega (arith, at_t, zero_of s, at_s, o_is 0)
  place (suc k) l =
      let p = place k (omega arith) in
      let i = inside_s k (omega arith) in
      let w = o_is k in
      let f = first_s k in
      let a : metadata_entry_at t k ≤ record_limit t (metadata_at t) = omega (arith, ap (record_limit t) at_t, limit_t) in
      let n : suc k ≡ k + 1 = sym (add-one k) in
      let b : u16_at t (metadata_entry_at t k + 8) ≡ u16_at s (E k + 8) = ap (λ (j : ℕ). u16_at t (j + 8)) p ∙ sym (size_same k (omega arith)) in
      ap (metadata_entry_at t) n ∙ next_of t k a ∙ end_is t (metadata_entry_at t k)
      ∙ omega (arith, p, b, next_s k (omega arith), end_is s (E k), o_is (suc k), ap E n)

  -- what each says

  id_place : (u : List ℕ) (x : ℕ) → record_id_at u x ≡ x + 10 + u16_at u (x + 8)
  unfolding record_id_at string_end string_size
  id_place u x = omega arith

  module _ (k : ℕ) (l : k < C) where
    here : ℕ
    here = E k

    there : ℕ
    there = e + o k

    room : rest k ≡ 7 + u16_at s (E k + 8)
    room = omega (arith, next_s k (omega arith), end_is s (E k))

    name_same : metadata_name t (e + o k) ≡ metadata_name s (E k)
    unfolding metadata_name
    name_same =
        let z = size_same k l in
        let a : E k + 10 ≡ E k + 8 + 2 = omega arith in
        let b : e + o k + 10 ≡ e + o k + 8 + 2 = omega arith in
        rw (← z, a, b) (sym (moved_part (entry_moved k l) 2 (u16_at s (E k + 8)) (omega (arith, room))))

    id_same : record_id t (e + o k) ≡ record_id s (E k)
    unfolding record_id
    id_same =
        let z = size_same k l in
        sym
        (moved_number (entry_moved k l) 4 (2 + u16_at s (E k + 8)) (record_id_at s (E k)) (record_id_at t (e + o k)) (omega (arith, room)) (omega (arith, id_place s (E k)))
        (omega (arith, id_place t (e + o k), z)))

    code_same : data_type t (e + o k) ≡ data_type s (E k)
    unfolding data_type
    code_same =
        let z = size_same k l in
        number_one t (record_id_at t (e + o k) + 4)
        ∙ sym
        (moved_number (entry_moved k l) 1 (6 + u16_at s (E k + 8)) (record_id_at s (E k) + 4) (record_id_at t (e + o k) + 4) (omega (arith, room)) (omega (arith, id_place s (E k)))
        (omega (arith, id_place t (e + o k), z)))
        ∙ sym (number_one s (record_id_at s (E k) + 4))

    entry_same : metadata_entry t k ≡ renamed named (metadata_entry s k)
    unfolding metadata_entry
    entry_same = rw (place k (omega arith), name_same, id_same, code_same, value k l)

  pub entries_moved : metadata_entries t ≡ map (renamed named) (metadata_entries s)
  unfolding metadata_entries
  entries_moved =
      ap (λ (n : ℕ). map (metadata_entry t) (below n)) count_same
      ∙ below_map C (metadata_entry t) (λ k. renamed named (metadata_entry s k)) entry_same
      ∙ sym (map_twice (metadata_entry s) (renamed named) (below C))

  -- and they fit

  pub fits_moved : metadata_fits t ≡ true
  unfolding metadata_fits padded
  fits_moved =
      let p = place C (omega arith) in
      let w = o_is C in
      let f = first_s C in
      rw (ne_eqb (metadata_reference t) 0 some_t, count_same, at_t, p, limit_t)
      (sym (yes _ (counted.0, (sym (yes _ (omega (arith, last_s.0), (omega (arith, last_s.1), tt))), tt))))
