-- A tile record as it is stored: its sections, one behind the other, and the whole. Assumes nothing.
use Prim.Native.Nat.{ℕ, zero, suc, ◌+◌, ◌*◌, ◌/◌, ◌%◌, ◌-◌, ◌≤◌, ◌<◌}
use mathlib.Core.Path.{◌≡◌, refl, sym, ap, ◌∙◌}
use mathlib.Core.List.{List, ◌++◌, append_assoc}
use mathlib.Core.Logic.{by_cases}
use native.Mathlib.Decide.{dec_le}
use native.Mathlib.Omega.{arith}
use native.Mathlib.Numerals.{add-one}
use lib.ListN.{length, get_or, length-append}
use Rattle.wire.specs.Pick.{round_up}
use Rattle.wire.specs.Tests.{sum_below}
use Rattle.wire.specs.Bytes.{part, bytes_of, zeros}
use Rattle.wire.proofs.TestLaws.{sum_none, sum_more}
use Rattle.wire.proofs.ByteLaws.{part_length, part_out, bytes_length, zeros_length}
use Rattle.wire.proofs.PutLaws.{bytes_mod}
use Rattle.geometry.specs.Sizes.{stored_size}
use Rattle.written_records.specs.Pieces.{record_head, record_length, section}
use Rattle.written_records.specs.Tile.{sections_of, plain_record}
use Rattle.written_records.proofs.PieceLaws.{head_length_lem, record_holds, section_length_lem}
use Rattle.stores.specs.Writes.{one_write, whole_write, seal_write}
use Rattle.stores.proofs.StoreLaws.{length_stopped}
use Rattle.stores.proofs.JoinLaws.{Ran, Stored, stored_none, stored_first, stored_then, stored_ran}
use Rattle.correct.specs.RecordWrites.{size_in}
use Rattle.correct.proofs.RecordLaws.{record_in, record_out}

-- a section

module _ (k : ℕ) (d : List ℕ) (at : ℕ) (bytes : List ℕ) where
  pub section_stored :
      (n pad v : ℕ) {a b r : ℕ} {l m o : List ℕ} → n ≡ length bytes → pad ≡ round_up 4 n - n → v ≡ n % 4294967296 → Ran k (one_write at (bytes_of 4 v)) d a l →
      Ran a (one_write (at + 4) bytes) l b m → Ran b (one_write (at + 4 + n) (zeros pad)) m r o → at + stored_size (length bytes) ≤ length d →
      Ran k (one_write at (section bytes)) d r o
  unfolding section stored_size
  section_stored n pad v {r = r} {o = o} e f g p q s h =
      let x : bytes_of 4 v ≡ bytes_of 4 (length bytes) = rw (g, ← e) (bytes_mod 4 n) in
      let w1 = stored_first {v = bytes_of 4 v} p (bytes_length 4 v) in
      let w2 = stored_then w1 bytes n (at + 4) q (sym e) refl (omega arith) in
      let w3 = stored_then w2 (zeros pad) pad (at + 4 + n) s (zeros_length pad) (omega arith) (omega arith) in
      let y : bytes_of 4 v ++ bytes ++ zeros pad ≡ bytes_of 4 (length bytes) ++ bytes ++ zeros (round_up 4 (length bytes) - length bytes) = rw (x, f, e) in
      let t : Ran k (one_write at (bytes_of 4 v ++ bytes ++ zeros pad)) d r o = (stored_ran w3) in
      rw y at t

pub section_room : (at n : ℕ) {d : ℕ} → at + stored_size n ≤ d → at + 4 + n ≤ d
unfolding stored_size
section_room at n h = omega arith

pub stored_length_is : (n : ℕ) → 4 + (n + 3) / 4 * 4 ≡ stored_size n
unfolding stored_size
stored_length_is n = refl

-- the sections of the first e elements: where the next one's bytes start, and how many bytes they take

pub part_most : (s : List ℕ) (at n : ℕ) → length (part s at n) ≤ n
part_most s at n =
    by_cases (dec_le (at + n) (length s)) (λ h. omega (arith, part_length s at n h)) (λ h. rw (part_out s at n (omega arith)) (omega arith))

-- of four bytes at most, a section's size
pub stored_most : (n : ℕ) → n ≤ 4294967295 → stored_size n ≤ 4294967312
unfolding stored_size
stored_most n h = omega arith

pub record Measured (us c : List ℕ) (e from sum : ℕ) : Type 0 where
  pub start : from ≡ sum_below e (size_in us)
  pub long : sum ≡ length (sections_of (size_in us) e c)
  pub start_small : from ≤ e * 4294967295
  pub long_small : sum ≤ e * 4294967312

pub measured_none : (us c : List ℕ) → Measured us c 0 0 0
unfolding sections_of
measured_none us c = record { start = sym (sum_none (size_in us)); long = refl; start_small = omega arith; long_small = omega arith }

pub size_is : (us : List ℕ) (e : ℕ) → size_in us e ≡ get_or us e 0
unfolding size_in
size_is us e = refl

module _
    {us c : List ℕ} {e from sum : ℕ} (w : Measured us c e from sum) (u : ℕ) {y : List ℕ} (q : u ≡ get_or us e 0) (p : y ≡ part c from u)
    (s : u < 4294967296)
  where
    pub next_small : length y ≤ 4294967295
    next_small = omega (arith, part_most c from u, ap length p)

    next_is : y ≡ part c (sum_below e (size_in us)) (size_in us e)
    next_is = p ∙ rw (w.start, q ∙ sym (size_is us e))

    pub measured_more : (j : ℕ) → j ≡ stored_size (length y) → Measured us c (e + 1) (from + u) (sum + j)
    unfolding sections_of
    measured_more j h =
        let x = section (part c (sum_below e (size_in us)) (size_in us e)) in
        let a = length-append (sections_of (size_in us) e c) x in
        let b = ap (λ (z : List ℕ). length (section z)) next_is in
        let g = stored_most (length y) next_small in
        record {
          start = omega (arith, w.start, sum_more e (size_in us), size_is us e);
          long = rw (add-one e) (omega (arith, w.long, section_length_lem y));
          start_small = omega (arith, w.start_small);
          long_small = omega (arith, w.long_small);
        }

pub measured_all :
    {us c : List ℕ} {e from sum : ℕ} → Measured us c e from sum → (m : ℕ) → e ≤ m → m ≤ e → m ≤ 255 →
    (sum ≡ length (sections_of (size_in us) m c)) × (sum ≤ 1095216664560)
measured_all {e = e} w m h i k = let q : e ≡ m = omega arith in (rw (← q) w.long, omega (arith, w.long_small))

-- the sections as they are stored

pub record Putting (k : ℕ) (d : List ℕ) (at : ℕ) (us c : List ℕ) (e p from m : ℕ) (l : List ℕ) : Type 0 where
  pub far : ℕ
  pub place : p ≡ at + far
  pub measured : Measured us c e from far
  pub stored : Stored k d at (sections_of (size_in us) e c) far m l

pub putting_none : (k : ℕ) (d : List ℕ) (at : ℕ) (us c : List ℕ) → Putting k d at us c 0 at 0 k d
unfolding sections_of
putting_none k d at us c = record { far = 0; place = omega arith; measured = measured_none us c; stored = stored_none k d at }

-- they take the more, the more elements there are
sections_one : (u : ℕ → ℕ) (c : List ℕ) (e : ℕ) → length (sections_of u e c) ≤ length (sections_of u (suc e) c)
unfolding sections_of
sections_one u c e = omega (arith, length-append (sections_of u e c) (section (part c (sum_below e u) (u e))))

pub sections_grow : (u : ℕ → ℕ) (c : List ℕ) (e m : ℕ) → e ≤ m → length (sections_of u e c) ≤ length (sections_of u m c)
sections_grow u c e zero h = let z : e ≡ 0 = omega arith in rw z (omega arith)
sections_grow u c e (suc m) h =
    by_cases (dec_le e m) (λ i. let a = sections_grow u c e m i in let b = sections_one u c m in omega arith)
    (λ i. let z : e ≡ suc m = omega arith in rw z (omega arith))

module _
    {k : ℕ} {d : List ℕ} {at : ℕ} {us c : List ℕ} {e p from m : ℕ} {l : List ℕ} (w : Putting k d at us c e p from m l) (u n : ℕ) {y : List ℕ}
    (q : u ≡ get_or us e 0) (x : y ≡ part c from u) (s : u < 4294967296) (i : e < n) (h : at + length (sections_of (size_in us) n c) ≤ length d)
  where
    after : Measured us c (e + 1) (from + u) (w.far + stored_size (length y))
    after = measured_more w.measured u q x s (stored_size (length y)) refl

    pub putting_fits : p + stored_size (length y) ≤ length d
    putting_fits = omega (arith, w.place, after.long, sections_grow (size_in us) c (e + 1) n (omega arith))

    pub putting_fits_now : p + stored_size (length y) ≤ length l
    putting_fits_now = omega (arith, putting_fits, ap length w.stored.holds, length_stopped k (one_write at (sections_of (size_in us) e c)) d)

    pub putting_more :
        (j : ℕ) {r : ℕ} {o : List ℕ} → j ≡ stored_size (length y) → Ran m (one_write p (section y)) l r o → Putting k d at us c (e + 1) (p + j) (from + u) r o
    unfolding sections_of
    putting_more j z f =
        let b : section y ≡ section (part c (sum_below e (size_in us)) (size_in us e)) = ap section (next_is w.measured u q x s) in
        let o = putting_fits in
        let t = stored_then w.stored (section y) (stored_size (length y)) p f (section_length_lem y) w.place (omega (arith, w.place)) in
        record {
          far = w.far + stored_size (length y);
          place = omega (arith, w.place);
          measured = after;
          stored = rw (add-one e, ← b) t;
        }

pub putting_all :
    {k : ℕ} {d : List ℕ} {at : ℕ} {us c : List ℕ} {e p from m n : ℕ} {l : List ℕ} → Putting k d at us c e p from m l → e ≤ n → n ≤ e →
    Ran k (one_write at (sections_of (size_in us) n c)) d m l
putting_all {e = e} {n = n} w h i = let q : e ≡ n = omega arith in rw (← q) (stored_ran w.stored)

-- the whole record

pub tile_head_stored :
    {k : ℕ} {d : List ℕ} (at n i : ℕ) {a r : ℕ} {l o : List ℕ} → Ran k (one_write at (record_head n 2)) d a l → Ran a (one_write (at + 8) (bytes_of 4 i)) l r o →
    at + 12 ≤ length d → Ran k (one_write at (record_head n 2 ++ bytes_of 4 i)) d r o
tile_head_stored at n i p q h = stored_ran (stored_then (stored_first p (head_length_lem n 2)) (bytes_of 4 i) 4 (at + 8) q (bytes_length 4 i) refl (omega arith))

module _ (k : ℕ) (d : List ℕ) (at flag i : ℕ) (u : ℕ → ℕ) (m : ℕ) (c : List ℕ) (body n : ℕ) (f : n ≡ record_length body) (e : body ≡ 4 + length (sections_of u m c)) where
  body_length : length (bytes_of 4 i ++ sections_of u m c) ≡ body
  body_length = length-append (bytes_of 4 i) (sections_of u m c) ∙ omega (arith, bytes_length 4 i)

  pub tile_out : length d < at + n → Ran k (whole_write (length d) at (plain_record flag i u m c)) d k d
  unfolding plain_record
  tile_out h = record_out k d at flag 2 n (bytes_of 4 i ++ sections_of u m c) (f ∙ ap record_length (sym body_length)) h

  pub tile_in_lem :
      {a b j r : ℕ} {l1 l2 l3 l4 : List ℕ} → Ran k (one_write at (record_head n 2 ++ bytes_of 4 i)) d a l1 → Ran a (one_write (at + 12) (sections_of u m c)) l1 b l2 →
      Ran b (one_write (at + 8 + body) (zeros (n - 4 - (8 + body)))) l2 j l3 → Ran j (seal_write flag at n l3) l3 r l4 → at + n ≤ length d →
      Ran k (whole_write (length d) at (plain_record flag i u m c)) d r l4
  unfolding plain_record
  tile_in_lem p q s t h =
      let y = sections_of u m c in
      let o = record_holds body in
      let lv : length (record_head n 2 ++ bytes_of 4 i) ≡ 12 = length-append (record_head n 2) (bytes_of 4 i) ∙ omega (arith, head_length_lem n 2, bytes_length 4 i) in
      let w1 = stored_first p lv in
      let w2 = stored_then w1 y (length y) (at + 12) q refl refl (omega arith) in
      let g = body_length in
      let z : 12 + length y ≡ 8 + length (bytes_of 4 i ++ y) = omega arith in
      record_in k d at flag 2 n (bytes_of 4 i ++ y) (f ∙ ap record_length (sym g)) (at + 8 + body) (n - 4 - (8 + body)) (rw (append_assoc (record_head n 2) (bytes_of 4 i) y, z) at w2) (omega arith) (omega arith) s t h
