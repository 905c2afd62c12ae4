-- The byte stores of storing. Assumes nothing.
use Rattle.std.specs.Prelude.{None, Option, Some}
use Prim.Native.Nat.{ℕ, zero, suc, max, ◌+◌, ◌-◌, ◌≤◌, ◌<◌}
use mathlib.Core.Path.{◌≡◌, refl, sym, ap, ◌∙◌}
use mathlib.Core.List.{List}
use mathlib.Core.Bool.{Bool, true, false}
use native.Mathlib.Omega.{arith}
use lib.ListN.{length, get_or}
use Rattle.wire.specs.Pick.{pick}
use Rattle.wire.specs.Bytes.{part, u32_at}
use Rattle.wire.proofs.TestLaws.{sum_same}
use Rattle.record.specs.Record.{length_at, content_at}
use Rattle.record.proofs.FindLaws.{found_not}
use Rattle.header.specs.Fields.{checksum_enabled}
use Rattle.header.specs.Element.{entries_read}
use Rattle.geometry.specs.Sizes.{stored_size, element_bytes, plain_tile_length}
use Rattle.written_records.specs.Tile.{sections_of, plain_record}
use Rattle.tile_sizes.specs.TileSizes.{length_of_tile, with_sizes}
use Rattle.tile_sizes.proofs.SizeLaws.{sizes_read}
use Rattle.stores.specs.Writes.{whole_write}
use Rattle.stores.proofs.JoinLaws.{Ran, ran_then, ran_room}
use Rattle.pieces.specs.Edits.{room_for}
use Rattle.correct.specs.Front.{page_in, workable}
use Rattle.correct.specs.Storing.{tile_referred, stored_over, freed_of, stored_at, stored_length}
use Rattle.correct.specs.RecordWrites.{size_in, rest_writes, cell_writes, over_writes, refer_writes}
use Rattle.correct.specs.Writes.{new_writes, then_refer, store_writes}
use Rattle.correct.proofs.ListLaws.{part_page}
use Rattle.correct.proofs.TileLaws.{size_is}
use Rattle.edit_walks.specs.declared.Spot.{Spot}
use Rattle.edit_walks.specs.declared.Wanted.TheVariants.{Tile}
use Rattle.edit_walks.specs.Walks.{freed_from, spot_of, over_at}
use Rattle.edit_walks.proofs.StoredLaws.{tile_inside}
use Rattle.calls.specs.declared.Layout.{Layout}
use Rattle.calls.specs.declared.Plan.{Plan}
use Rattle.calls.specs.Layouts.{layout_of, plan_of, SizesIn, NewReady}
use Rattle.calls.proofs.ReadLaws.{worked_of, worked_small, tile_length_is}
use Rattle.calls.proofs.InnerLaws.{freeing_done, refer_done}

-- the sizes as they are handed on

pub sizes_told :
    (d : List ℕ) (n : ℕ) {s us : List ℕ} (zs : List ℕ) → s ≡ part d 0 n → us ≡ with_sizes s zs → workable (page_in d n) ≡ true → 16 ≤ length zs →
    SizesIn (page_in d n) us
sizes_told d n {s} {us} zs e f g h i k =
    let x = page_in d n in
    let z : us ≡ with_sizes x zs = f ∙ ap (λ (y : List ℕ). with_sizes y zs) (part_page d n e) in
    size_is us i ∙ ap (λ (y : List ℕ). get_or y i 0) z ∙ sizes_read x zs (worked_small x (worked_of x g)) h i k

-- of two such functions of the elements' numbers, each does for the other

module _ (u v : ℕ → ℕ) where
  abbrev Agree : ℕ → Type 0
  Agree n = (e : ℕ) → e < n → u e ≡ v e

  sections_same : (c : List ℕ) (n : ℕ) → Agree n → sections_of u n c ≡ sections_of v n c
  unfolding sections_of
  sections_same c zero h = refl
  sections_same c (suc n) h =
      let a = sections_same c n (λ e k. h e (omega arith)) in
      let b = sum_same n u v (λ e k. h e (omega arith)) in
      rw (a, b, h n (omega arith))

  cells_same : (x : ℕ) (c : List ℕ) (n : ℕ) → Agree n → cell_writes x u c n ≡ cell_writes x v c n
  unfolding cell_writes
  cells_same x c zero h = refl
  cells_same x c (suc n) h =
      let a = cells_same x c n (λ e k. h e (omega arith)) in
      let b = sum_same n u v (λ e k. h e (omega arith)) in
      let d = sum_same n (λ j. stored_size (u j)) (λ j. stored_size (v j)) (λ e k. ap stored_size (h e (omega arith))) in
      rw (a, b, d, h n (omega arith))

  plain_same : (flag i n : ℕ) (c : List ℕ) → Agree n → plain_record flag i u n c ≡ plain_record flag i v n c
  unfolding plain_record
  plain_same flag i n c h = rw (sections_same c n h)

  over_same : (flag x l n : ℕ) (c d : List ℕ) → Agree n → over_writes flag x l u n c d ≡ over_writes flag x l v n c d
  unfolding over_writes
  over_same flag x l n c d h = rw (cells_same x c n h)

-- over a plain record

pub over_done :
    {k : ℕ} {d : List ℕ} (n x : ℕ) {s : List ℕ} (us c : List ℕ) {flag long count r : ℕ} {o : List ℕ} → s ≡ part d 0 n → flag ≡ checksum_enabled s →
    long ≡ u32_at s x → count ≡ entries_read s → SizesIn (page_in d n) us → Ran k (over_writes flag x long (size_in us) count c d) d r o →
    Ran k (over_writes (checksum_enabled (page_in d n)) x (length_at (page_in d n) x) (element_bytes (page_in d n)) (entries_read (page_in d n)) c d) d r o
over_done {k} {d} n x us c {flag} {long} {count} {r} {o} e f g h w q =
    let z = part_page d n e in
    let y = page_in d n in
    rw (← over_same (size_in us) (element_bytes y) (checksum_enabled y) x (length_at y x) (entries_read y) c d w)
    (go y (f ∙ ap checksum_enabled z) (g ∙ ap (λ (s : List ℕ). u32_at s x) z) (h ∙ ap entries_read z) q)
  where
    go :
        (y : List ℕ) → flag ≡ checksum_enabled y → long ≡ length_at y x → count ≡ entries_read y → Ran k (over_writes flag x long (size_in us) count c d) d r o →
        Ran k (over_writes (checksum_enabled y) x (length_at y x) (size_in us) (entries_read y) c d) d r o
    go y f g h q = rw (← f, ← g, ← h) q

-- a new record

pub spot_is :
    (s : List ℕ) (i : ℕ) {spot : Spot} {long : ℕ} → long ≡ plain_tile_length s → spot ≡ spot_of s i long →
    (spot.at ≡ stored_at s i) × (spot.room ≡ room_for (plain_tile_length s) (freed_of s i))
unfolding spot_of stored_at
spot_is s i e f = (ap (λ (z : Spot). z.at) f ∙ rw e, ap (λ (z : Spot). z.room) f ∙ rw e)

flag_is : (s : List ℕ) {p : Layout} → p ≡ layout_of s → p.flag ≡ checksum_enabled s
unfolding layout_of
flag_is s e = ap (λ (z : Layout). z.flag) e

pub new_done :
    {k : ℕ} {d : List ℕ} (n i : ℕ) (us c : List ℕ) {p : Layout} {spot : Spot} {long count rest a b r : ℕ} {l m o : List ℕ} →
    NewReady (page_in d n) i p spot long us count →
    Ran k (freed_from (length d) p.flag (page_in d n) (Tile i) p.end p.end false) d a l →
    Ran a (whole_write (length l) spot.at (plain_record p.flag i (size_in us) count c)) l b m → rest ≡ spot.room - long →
    Ran b (rest_writes (length m) p.flag (spot.at + long) rest) m r o → Ran k (new_writes (length d) (page_in d n) i c) d r o
unfolding new_writes
new_done {k} {d} n i us c {p} {spot} {long} {count} {rest} {a} {b} {r} {l} {m} {o} w q1 q2 e q3 =
    let y = page_in d n in
    let f = flag_is y w.layout in
    let g = spot_is y i w.length_is w.place in
    let l1 : length l ≡ length d = ran_room q1 in
    let l2 : length m ≡ length d = ran_room q2 ∙ l1 in
    ran_then (ran_then (freeing_done n i refl' w.layout q1)
    (record_put y l1 f g.0 w.count_is (plain_same (size_in us) (element_bytes y) (checksum_enabled y) i (entries_read y) c w.sizes) q2))
    (rest_put y l2 f g.0 w.length_is (e ∙ rest_of g.1 w.length_is) q3)
  where
    refl' : page_in d n ≡ part d 0 n
    refl' = sym (part_page d n refl)

    rest_of : {x y z : ℕ} → x ≡ y → long ≡ z → x - long ≡ y - z
    rest_of e f = rw (e, f)

    record_put :
        (y : List ℕ) → length l ≡ length d → p.flag ≡ checksum_enabled y → spot.at ≡ stored_at y i → count ≡ entries_read y →
        plain_record (checksum_enabled y) i (size_in us) (entries_read y) c ≡ plain_record (checksum_enabled y) i (element_bytes y) (entries_read y) c →
        Ran a (whole_write (length l) spot.at (plain_record p.flag i (size_in us) count c)) l b m →
        Ran a (whole_write (length d) (stored_at y i) (plain_record (checksum_enabled y) i (element_bytes y) (entries_read y) c)) l b m
    record_put y e f g h j q = rw (← j, ← f, ← g, ← h, ← e) q

    rest_put :
        (y : List ℕ) → length m ≡ length d → p.flag ≡ checksum_enabled y → spot.at ≡ stored_at y i → long ≡ plain_tile_length y →
        rest ≡ room_for (plain_tile_length y) (freed_of y i) - plain_tile_length y → Ran b (rest_writes (length m) p.flag (spot.at + long) rest) m r o →
        Ran b (rest_writes (length d) (checksum_enabled y) (stored_at y i + plain_tile_length y) (room_for (plain_tile_length y) (freed_of y i) - plain_tile_length y)) m r o
    rest_put y e f g h j q = rw (← j, ← f, ← g, ← h, ← e) q

-- what is known for it

pub new_ready :
    (d : List ℕ) (n i : ℕ) {s us : List ℕ} {p : Layout} {spot : Spot} {long count : ℕ} → s ≡ part d 0 n → workable (page_in d n) ≡ true →
    SizesIn (page_in d n) us → p ≡ layout_of s → long ≡ length_of_tile s → spot ≡ spot_of (page_in d n) i (plain_tile_length (page_in d n)) →
    spot.at + plain_tile_length (page_in d n) ≤ 16777216 → count ≡ entries_read s → NewReady (page_in d n) i p spot long us count
new_ready d n i {s} {us} {p} {spot} {long} {count} e k w f g h j m =
    let z = part_page d n e in
    let y = page_in d n in
    let b : long ≡ plain_tile_length y = tile_length_is y (worked_of y k) long (g ∙ ap length_of_tile z) in
    record {
      layout = f ∙ ap layout_of z;
      length_is = b;
      place = h ∙ ap (spot_of y i) (sym b);
      sizes = w;
      count_is = m ∙ ap entries_read z;
      near = omega arith;
    }

pub new_content : (s : List ℕ) (i : ℕ) {p : Layout} {spot : Spot} {long : ℕ} {us : List ℕ} {count : ℕ} → NewReady s i p spot long us count → spot.at + 8 ≡ content_at (stored_at s i)
new_content s i w = ap (λ (x : ℕ). x + 8) (spot_is s i w.length_is w.place).0

pub new_referred :
    {k : ℕ} {d : List ℕ} (n i : ℕ) (c : List ℕ) {p : Layout} {spot : Spot} {long : ℕ} {us : List ℕ} {count a r : ℕ} {l o : List ℕ} →
    NewReady (page_in d n) i p spot long us count → Ran k (new_writes (length d) (page_in d n) i c) d a l →
    Ran a (refer_writes p.flag p.directory p.long (pick p.wide 8 4) i (spot.at + 8) l) l r o →
    Ran k (then_refer (page_in d n) i (content_at (stored_at (page_in d n) i)) (new_writes (length d) (page_in d n) i c) d) d r o
new_referred {d = d} n i c {spot = spot} w q q' =
    rw (← new_content (page_in d n) i w) (refer_done n i (spot.at + 8) (sym (part_page d n refl)) w.layout q q')

-- which of the two

module _ (s : List ℕ) (i : ℕ) where
  pub over_at_lem : {x : ℕ} → over_at s i ≡ Some x → (stored_over s i ≡ true) × (tile_referred s i ≡ Some x)
  unfolding over_at
  over_at_lem {x} e = go (stored_over s i) refl
    where
      go : (b : Bool) → stored_over s i ≡ b → (stored_over s i ≡ true) × (tile_referred s i ≡ Some x)
      go true f = (f, rw f at e)
      go false f = found_not (sym e) (rw f)

  over_absent : tile_referred s i ≡ None → stored_over s i ≡ false
  unfolding stored_over
  over_absent f = rw f

  pub over_none : over_at s i ≡ None → stored_over s i ≡ false
  unfolding over_at
  over_none e = go (stored_over s i) refl
    where
      go : (b : Bool) → stored_over s i ≡ b → stored_over s i ≡ false
      go true f = over_absent (rw f at e)
      go false f = f

  over_writes_lem :
      (d c : List ℕ) {x : ℕ} → over_at s i ≡ Some x → store_writes d s i c ≡ over_writes (checksum_enabled s) x (length_at s x) (element_bytes s) (entries_read s) c d
  unfolding store_writes
  over_writes_lem d c e = let f = over_at_lem e in rw (f.0, f.1)

  new_writes_lem :
      (d c : List ℕ) → over_at s i ≡ None → store_writes d s i c ≡ then_refer s i (content_at (stored_at s i)) (new_writes (length d) s i c) d
  unfolding store_writes
  new_writes_lem d c e = rw (over_none e)

-- as it was planned

over_is : (s : List ℕ) (i : ℕ) {p : Plan} → p ≡ plan_of s i → {f : Option ℕ} → p.over ≡ f → over_at s i ≡ f
unfolding plan_of
over_is s i e g = sym (ap (λ (x : Plan). x.over) e) ∙ g

pub storing_over :
    {k : ℕ} {d : List ℕ} (n i x : ℕ) (c : List ℕ) {p : Plan} {r : ℕ} {o : List ℕ} → p ≡ plan_of (page_in d n) i → p.over ≡ Some x →
    Ran k (over_writes (checksum_enabled (page_in d n)) x (length_at (page_in d n) x) (element_bytes (page_in d n)) (entries_read (page_in d n)) c d) d r o →
    Ran k (store_writes d (page_in d n) i c) d r o
storing_over {d = d} n i x c e g q = rw (over_writes_lem (page_in d n) i d c (over_is (page_in d n) i e g)) q

pub storing_new :
    {k : ℕ} {d : List ℕ} (n i : ℕ) (c : List ℕ) {p : Plan} {r : ℕ} {o : List ℕ} → p ≡ plan_of (page_in d n) i → p.over ≡ None →
    Ran k (then_refer (page_in d n) i (content_at (stored_at (page_in d n) i)) (new_writes (length d) (page_in d n) i c) d) d r o →
    Ran k (store_writes d (page_in d n) i c) d r o
storing_new {d = d} n i c e g q = rw (new_writes_lem (page_in d n) i d c (over_is (page_in d n) i e g)) q

-- the record stands in the page, which is not long; a new one ends within the length that was judged

module _ (d : List ℕ) (n i : ℕ) {p : Plan} (w : workable (page_in d n) ≡ true) (e : p ≡ plan_of (page_in d n) i) where
  pub over_place : (x : ℕ) → p.over ≡ Some x → x < 4294967296
  over_place x g =
      let a = over_at_lem (page_in d n) i (over_is (page_in d n) i e g) in
      omega (arith, tile_inside (page_in d n) i x a.1 refl, (worked_of (page_in d n) w).file)

  pub new_place :
      p.over ≡ None → stored_length (page_in d n) i ≤ 16777216 →
      (p.spot ≡ spot_of (page_in d n) i (plain_tile_length (page_in d n))) × (p.spot.at + plain_tile_length (page_in d n) ≤ 16777216)
  unfolding plan_of stored_length
  new_place g h =
      let z = over_none (page_in d n) i (over_is (page_in d n) i e g) in
      let y : p.spot ≡ spot_of (page_in d n) i (plain_tile_length (page_in d n)) = rw z at (ap (λ (x : Plan). x.spot) e) in
      let a = spot_is (page_in d n) i refl y in
      let l : max (length (page_in d n)) (stored_at (page_in d n) i + plain_tile_length (page_in d n)) ≤ 16777216 = rw z at h in
      (y, omega (arith, a.0))
