-- The byte stores of opening. Assumes nothing.
use Prim.Native.Nat.{ℕ, zero, suc, ◌+◌, ◌*◌, ◌/◌, ◌%◌, ◌-◌, ◌≤◌}
use mathlib.Core.Path.{◌≡◌, refl, sym, ap, ◌∙◌}
use mathlib.Core.List.{List, [], ◌∷◌, ◌++◌}
use mathlib.Core.Bool.{Bool, true, false, not, ◌||◌}
use mathlib.Core.Logic.{inl}
use native.Mathlib.Omega.{arith}
use lib.ListN.{length}
use lib.Dec.{leb}
use Rattle.wire.specs.Pick.{pick}
use Rattle.wire.specs.Bytes.{part, bytes_of, number_at, zeros}
use Rattle.wire.proofs.ByteLaws.{bytes_length, zeros_length}
use Rattle.wire.proofs.ListLaws.{Behind, behind_more}
use Rattle.record.specs.Record.{length_at}
use Rattle.record.specs.Chain.{header_end, records, starts}
use Rattle.record.proofs.ChainLaws.{starts_behind}
use Rattle.header.specs.Fields.{checksum_enabled}
use Rattle.geometry.specs.Tiles.{tiles_down, tiles_across, tile_count}
use Rattle.bodies.specs.TileDirectory.{tile_directory_at, in_rectangle, number_of, reference_at, reference_of, reference_from}
use Rattle.written_records.specs.Pieces.{record_of}
use Rattle.written_records.specs.Directory.{directory_form, references_of, directory_of}
use Rattle.writable.specs.Writable.{directory_full}
use Rattle.stores.specs.Stores.{Write, Apart}
use Rattle.stores.specs.Writes.{one_write, whole_write, seal_write}
use Rattle.stores.proofs.JoinLaws.{Ran, ran_none, ran_on, ran_then, ran_room}
use Rattle.correct.specs.Front.{page_in, workable}
use Rattle.correct.specs.Opening.{compact_of, full_directory, unwanted}
use Rattle.correct.specs.FieldWrites.{first_set, set_writes, opened_field_writes, refer_to}
use Rattle.correct.specs.RecordWrites.{join_writes}
use Rattle.correct.specs.Writes.{freeing_writes, directory_writes, open_body, open_writes}
use Rattle.correct.proofs.ListLaws.{part_page}
use Rattle.correct.proofs.FieldLaws.{first_most}
use Rattle.correct.proofs.TileLaws.{part_most}
use Rattle.correct.proofs.DirectoryLaws.{page_kept}
use Rattle.edit_walks.specs.declared.Wanted.{Wanted}
use Rattle.edit_walks.specs.declared.Wanted.TheVariants.{Unwanted}
use Rattle.edit_walks.specs.Walks.{wanted_by, freed_from}
use Rattle.edit_walks.proofs.AfterLaws.{After, after_more, after_trans, after_number, after_length, after_type, after_wanted, after_starts, after_page, after_run}
use Rattle.calls.specs.declared.Layout.{Layout}
use Rattle.calls.specs.declared.Grid.{Grid}
use Rattle.calls.specs.Layouts.{layout_of, grid_of}
use Rattle.calls.proofs.ReadLaws.{worked_of, page_own, page_in_lem}

pub grid_is :
    (s : List ℕ) {full : Bool} {down across count : ℕ} → full ≡ directory_full s → down ≡ tiles_down s → across ≡ tiles_across s → count ≡ tile_count s →
    record { full = full; down = down; across = across; count = count } ≡ grid_of s
unfolding grid_of
grid_is s e f g h = rw (e, f, g, h)

-- the fields are set before 64, the reference before 88

set_apart : (v : List ℕ) (p b : ℕ) → length v ≡ 8 → p ≤ 8 → Apart 64 b (set_writes 48 v p ++ one_write 56 (zeros 8))
unfolding set_writes one_write
set_apart v p b e h = (
  inl (omega (arith, part_most v p 1)),
  (inl (omega (arith, part_most v 0 p)), (inl (omega (arith, part_most v (p + 1) (length v - (p + 1)))), (inl (omega (arith, zeros_length 8)), tt))),
)

opened_apart : (t b : ℕ) → Apart 64 b (opened_field_writes t)
unfolding opened_field_writes
opened_apart t b =
    let v = bytes_of 8 t in
    set_apart v (first_set v) b (bytes_length 8 t) (omega (arith, first_most v, bytes_length 8 t))

refer_apart : (there : Bool) (n b : ℕ) → Apart 88 b (refer_to 80 there n)
unfolding refer_to one_write
refer_apart true n b = (inl (omega (arith, bytes_length 8 (n + 8))), tt)
refer_apart false n b = tt

after_ran : {k : ℕ} {ws : List Write} {d : List ℕ} {m : ℕ} {l : List ℕ} → Ran k ws d m l → (x : ℕ) → ((b : ℕ) → Apart x b ws) → After l d x
after_ran {k} {ws} {d} q x p = rw q.holds (after_run k ws d x p)

-- a directory of which the page is the same from 64 on gives the same references

module _ {x s : List ℕ} (a : After x s 64) (h : 64 ≤ tile_directory_at s) where
  directory_after : tile_directory_at x ≡ tile_directory_at s
  unfolding tile_directory_at
  directory_after = ap (λ (n : ℕ). n - 8) (after_number a 8 80 (omega arith))

  across_after : tiles_across x ≡ tiles_across s
  unfolding tiles_across
  across_after = rw (after_number a 4 108 (omega arith), after_number a 4 116 (omega arith))

  module _ (at : ℕ) (g : 64 ≤ at) where
    field_after : (w i : ℕ) → number_at w x (at + i) ≡ number_at w s (at + i)
    field_after w i = after_number a w (at + i) (omega arith)

    rectangle_after : (row column : ℕ) → in_rectangle x at row column ≡ in_rectangle s at row column
    unfolding in_rectangle
    rectangle_after row column = rw (field_after 4 16, field_after 4 24, field_after 4 20, field_after 4 28)

    number_after : (row column : ℕ) → number_of x at row column ≡ number_of s at row column
    unfolding number_of
    number_after row column = rw (field_after 4 16, field_after 4 20, field_after 4 28)

    reference_after : (k : ℕ) → reference_at x at k ≡ reference_at s at k
    unfolding reference_at
    reference_after k =
        rw (a.each (at + 9) (omega arith), after_number a 8 (at + 32 + 8 * k) (omega arith), after_number a 4 (at + 32 + 4 * k) (omega arith))

    given_after : (row column : ℕ) → reference_of x at row column ≡ reference_of s at row column
    unfolding reference_of
    given_after row column = rw (rectangle_after row column, number_after row column, reference_after (number_of s at row column))

  compact_after : (i : ℕ) → compact_of x i ≡ compact_of s i
  unfolding compact_of reference_from
  compact_after i = rw (directory_after, across_after, given_after (tile_directory_at s) h (i / tiles_across s) (i % tiles_across s))

  references_after : (n : ℕ) → references_of (compact_of x) n ≡ references_of (compact_of s) n
  unfolding references_of
  references_after zero = refl
  references_after (suc n) = rw (references_after n, compact_after n)

-- the walk finds the same

module _ {x s : List ℕ} {y : ℕ} (a : After x s y) (room flag : ℕ) (want : Wanted) where
  join_after :
      (from at : ℕ) (due : Bool) (xs : List ℕ) → Behind y xs →
      join_writes room flag x (wanted_by x want) from at due xs ≡ join_writes room flag s (wanted_by s want) from at due xs
  unfolding join_writes
  join_after from at due [] b = refl
  join_after from at due (z ∷ zs) b =
      let h = b.0 in
      let c = behind_more y (z + 1) zs (omega arith) b.1 in
      let n = z + length_at s z in
      rw
      (after_type a z h, after_wanted a want z h, after_length a z h, join_after from n (due || (wanted_by s want z || leb (from + 1) z)) zs c, join_after n n false zs c)

  freed_after : (at : ℕ) → y ≤ at → freed_from room flag x want at at false ≡ freed_from room flag s want at at false
  unfolding freed_from
  freed_after at h = rw (after_starts a at h) (join_after at at false (starts s at) (behind_more y at (starts s at) h (starts_behind s at)))

-- the directory behind the page leaves it as it is

module _ {k : ℕ} {d : List ℕ} (n : ℕ) (v : List ℕ) {m : ℕ} {l : List ℕ} where
  whole_page : n ≤ length d → (b : Bool) → Ran k (pick b (one_write n v) []) d m l → page_in l n ≡ page_in d n
  whole_page h true q = page_kept k n n v d q.holds (omega arith) h
  whole_page h false q = ap (λ (y : List ℕ). page_in y n) (q.holds ∙ sym (ran_none k d).holds)

  more_page : n ≤ length d → (full : Bool) → Ran k (pick full [] (whole_write (length d) n v)) d m l → page_in l n ≡ page_in d n
  unfolding whole_write
  more_page h true q = ap (λ (y : List ℕ). page_in y n) (q.holds ∙ sym (ran_none k d).holds)
  more_page h false q = whole_page h (leb (n + length v) (length d)) q

-- the writes as opening's definition has them

directory_is :
    (room : ℕ) (s : List ℕ) → pick (directory_full s) [] (whole_write room (length s) (record_of (checksum_enabled s) 5 (directory_form (tiles_down s) (tiles_across s) ++ references_of (compact_of s) (tile_count s))))
    ≡ directory_writes room s
unfolding directory_writes full_directory directory_of
directory_is room s = refl

freeing_is : (room : ℕ) (s : List ℕ) → freed_from room (checksum_enabled s) s (Unwanted (directory_full s)) (header_end s) (header_end s) false ≡ freeing_writes room s (unwanted s s)
unfolding freed_from freeing_writes wanted_by unwanted records
freeing_is room s = refl

-- the four parts

abbrev form_of : List ℕ → List ℕ → List ℕ
form_of s x = record_of (checksum_enabled s) 5 (directory_form (tiles_down s) (tiles_across s) ++ references_of (compact_of x) (tile_count s))

module _ {k : ℕ} {d : List ℕ} (n t : ℕ) (w : workable (page_in d n) ≡ true) where
  module _ {a : ℕ} {l1 : List ℕ} (q1 : Ran k (opened_field_writes t) d a l1) where
    page_1 : After (page_in l1 n) (page_in d n) 64
    page_1 = after_page (after_ran q1 64 (opened_apart t)) n

    form_1 : form_of (page_in d n) (page_in l1 n) ≡ form_of (page_in d n) (page_in d n)
    form_1 =
        let m = worked_of (page_in d n) w in
        ap (λ (y : List ℕ). record_of (checksum_enabled (page_in d n)) 5 (directory_form (tiles_down (page_in d n)) (tiles_across (page_in d n)) ++ y))
        (references_after page_1 (omega (arith, m.header, m.apart)) (tile_count (page_in d n)))

    module _ {b c : ℕ} {l2 l3 : List ℕ} (q2 : Ran a (pick (directory_full (page_in d n)) [] (whole_write (length l1) n (form_of (page_in d n) (page_in l1 n)))) l1 b l2) (q3 : Ran b (refer_to 80 (not (directory_full (page_in d n))) n) l2 c l3) where
      room_1 : length l1 ≡ length d
      room_1 = ran_room q1

      room_3 : length l3 ≡ length d
      room_3 = ran_room q3 ∙ ran_room q2 ∙ room_1

      page_3 : After (page_in l3 n) (page_in d n) 88
      page_3 =
          let g = page_in_lem d n w in
          let e : page_in l2 n ≡ page_in l1 n = more_page n (form_of (page_in d n) (page_in l1 n)) (omega (arith, room_1)) (directory_full (page_in d n)) q2 in
          let i : After (page_in l2 n) (page_in d n) 88 = rw e (after_more page_1 88 (omega arith)) in
          after_trans (after_page (after_ran q3 88 (refer_apart (not (directory_full (page_in d n))) n)) n) i

      second : Ran a (directory_writes (length d) (page_in d n)) l1 b l2
      second = rw (← directory_is (length d) (page_in d n)) (go room_1 form_1 (sym (page_own d n w)) q2)
        where
          go :
              {x y : ℕ} {u v : List ℕ} {z : ℕ} → x ≡ y → u ≡ v → n ≡ z → Ran a (pick (directory_full (page_in d n)) [] (whole_write x n u)) l1 b l2 →
              Ran a (pick (directory_full (page_in d n)) [] (whole_write y z v)) l1 b l2
          go e g h q = rw (← e, ← g, ← h) q

      third : Ran b (refer_to 80 (not (directory_full (page_in d n))) (length (page_in d n))) l2 c l3
      third = go (sym (page_own d n w)) q3
        where
          go : {z : ℕ} → n ≡ z → Ran b (refer_to 80 (not (directory_full (page_in d n))) n) l2 c l3 → Ran b (refer_to 80 (not (directory_full (page_in d n))) z) l2 c l3
          go e q = rw (← e) q

      fourth :
          {r : ℕ} {o : List ℕ} → Ran c (freed_from (length l3) (checksum_enabled (page_in d n)) (page_in l3 n) (Unwanted (directory_full (page_in d n))) (header_end (page_in d n)) (header_end (page_in d n)) false) l3 r o →
          Ran c (freeing_writes (length d) (page_in d n) (unwanted (page_in d n) (page_in d n))) l3 r o
      fourth {r} {o} q =
          let m = worked_of (page_in d n) w in
          let e = freed_after page_3 (length d) (checksum_enabled (page_in d n)) (Unwanted (directory_full (page_in d n))) (header_end (page_in d n)) m.header in
          let g : Ran c (freed_from (length d) (checksum_enabled (page_in d n)) (page_in l3 n) (Unwanted (directory_full (page_in d n))) (header_end (page_in d n)) (header_end (page_in d n)) false) l3 r o =
          go room_3 q in
          rw (← freeing_is (length d) (page_in d n)) (rw e at g)
        where
          go :
              {y : ℕ} → length l3 ≡ y →
              Ran c (freed_from (length l3) (checksum_enabled (page_in d n)) (page_in l3 n) (Unwanted (directory_full (page_in d n))) (header_end (page_in d n)) (header_end (page_in d n)) false) l3 r o →
              Ran c (freed_from y (checksum_enabled (page_in d n)) (page_in l3 n) (Unwanted (directory_full (page_in d n))) (header_end (page_in d n)) (header_end (page_in d n)) false) l3 r o
          go e q = rw (← e) q

      body_of :
          {r : ℕ} {o : List ℕ} → Ran c (freed_from (length l3) (checksum_enabled (page_in d n)) (page_in l3 n) (Unwanted (directory_full (page_in d n))) (header_end (page_in d n)) (header_end (page_in d n)) false) l3 r o →
          Ran k (open_body (length d) (page_in d n) t) d r o
      unfolding open_body
      body_of q = ran_then (ran_then (ran_then q1 second) third) (fourth q)

-- as the calls say it

pub body_done :
    {k : ℕ} {d : List ℕ} (n t : ℕ) {p : Layout} {g : Grid} {a b c r : ℕ} {l1 l2 l3 o : List ℕ} → workable (page_in d n) ≡ true →
    p ≡ layout_of (page_in d n) → g ≡ grid_of (page_in d n) → Ran k (opened_field_writes t) d a l1 →
    Ran a (pick g.full [] (whole_write (length l1) n (record_of p.flag 5 (directory_form g.down g.across ++ references_of (compact_of (page_in l1 n)) g.count)))) l1 b l2 →
    Ran b (refer_to 80 (not g.full) n) l2 c l3 →
    Ran c (freed_from (length l3) p.flag (page_in l3 n) (Unwanted g.full) p.end p.end false) l3 r o →
    Ran k (open_body (length d) (page_in d n) t) d r o
unfolding layout_of grid_of
body_done {k} {d} n t w e g q1 q2 q3 q4 = body_of n t w q1 (rw (e, g) at q2) (rw g at q3) (rw (e, g) at q4)

pub opening_done :
    {k : ℕ} {d : List ℕ} (n t : ℕ) {p : Layout} {s : List ℕ} {m a r : ℕ} {l o : List ℕ} → s ≡ part d 0 n → p ≡ layout_of s → m ≡ p.end - 16 →
    Ran k (open_body (length d) (page_in d n) t) d a l → Ran a (seal_write p.flag 16 m l) l r o → Ran k (open_writes d (page_in d n) t) d r o
unfolding open_writes layout_of
opening_done {k} {d} n t {p} {s} {m} {a} {r} {l} {o} e f g q q' =
    let z : p ≡ layout_of (page_in d n) = f ∙ ap layout_of (part_page d n e) in
    let u : Ran a (seal_write p.flag 16 (p.end - 16) l) l r o = rw g at q' in
    ran_on (seal_write (checksum_enabled (page_in d n)) 16 (header_end (page_in d n) - 16)) q (rw z at u)

-- what the parts of it ask for

pub grid_page : (d : List ℕ) (n : ℕ) {s : List ℕ} {g : Grid} → s ≡ part d 0 n → g ≡ grid_of s → g ≡ grid_of (page_in d n)
grid_page d n e f = f ∙ ap grid_of (part_page d n e)

pub layout_page : (d : List ℕ) (n : ℕ) {s : List ℕ} {p : Layout} → s ≡ part d 0 n → p ≡ layout_of s → p ≡ layout_of (page_in d n)
layout_page d n e f = f ∙ ap layout_of (part_page d n e)

pub more_full : (k : ℕ) (d : List ℕ) (full : Bool) (ws : List Write) → full ≡ true → Ran k (pick full [] ws) d k d
more_full k d full ws e = rw e (ran_none k d)

pub more_lacks : {k : ℕ} {d : List ℕ} (full : Bool) (ws : List Write) {r : ℕ} {o : List ℕ} → full ≡ false → Ran k ws d r o → Ran k (pick full [] ws) d r o
more_lacks full ws e q = rw e q
