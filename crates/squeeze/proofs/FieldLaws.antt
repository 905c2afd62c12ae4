-- The references of a directory, put anew while it moves down. Assumes nothing.
use Prim.Native.Nat.{ℕ, ◌+◌, ◌*◌, ◌/◌, ◌%◌, ◌-◌, ◌≤◌, ◌<◌}
use mathlib.Core.Path.{◌≡◌, refl, sym, ap, ◌∙◌}
use mathlib.Core.Logic.{◌⊎◌, inl, inr}
use mathlib.Core.List.{List}
use mathlib.Core.Bool.{Bool, true, false}
use native.Mathlib.Omega.{arith}
use lib.ListN.{length}
use borrow.Author.Tests.{eq-eqb, ne_eqb, le-leb}
use Rattle.wire.specs.Bytes.{u32_at, u64_at, part, bytes_of}
use Rattle.wire.specs.Items.{advance}
use Rattle.wire.proofs.ByteLaws.{part_length, bytes_length}
use Rattle.wire.proofs.PutLaws.{bytes_mod}
use Rattle.wire.proofs.ItemLaws.{advance_none, advance_more, advance_mono}
use Rattle.header.specs.Element.{string_size}
use Rattle.bodies.specs.ListDirectories.{metadata_entry_size}
use Rattle.pieces.specs.Edits.{reference_bytes}
use Rattle.stores.specs.Writes.{one_write}
use Rattle.stores.proofs.JoinLaws.{Ran, stored_ran}
use Rattle.edit_walks.proofs.AfterLaws.{After, after_number}
use Rattle.squeeze.specs.Fields.{reference_read, field_size, field_end, field_at, field_in, field_then, fields_put, unsealed, FieldsFit}
use Rattle.squeeze.proofs.FillLaws.{Filling, fill_none, fill_after, fill_room, fill_move, fill_put}

-- one reference

pub read_eight : (w : ℕ) (d : List ℕ) (at : ℕ) {r : ℕ} → w ≡ 8 → r ≡ u64_at d at → r ≡ reference_read w d at
unfolding reference_read
read_eight w d at e f = f ∙ rw (eq-eqb w 8 e)

pub read_four : (w : ℕ) (d : List ℕ) (at : ℕ) {r : ℕ} → (w ≡ 8 → ⊥) → r ≡ u32_at d at → r * 8 ≡ reference_read w d at
unfolding reference_read
read_four w d at e f = ap (λ (x : ℕ). x * 8) f ∙ rw (ne_eqb w 8 e)

pub size_strings : (d : List ℕ) (strings : Bool) (w at : ℕ) {r : ℕ} → strings ≡ true → r ≡ metadata_entry_size d at → r ≡ field_size d strings w at
unfolding field_size
size_strings d strings w at e f = f ∙ rw e

pub size_plain : (d : List ℕ) (strings : Bool) (w at : ℕ) → strings ≡ false → w ≡ field_size d strings w at
unfolding field_size
size_plain d strings w at e = rw e

pub reference_eight :
    {k : ℕ} {d : List ℕ} (at w content : ℕ) {r : ℕ} {o : List ℕ} → w ≡ 8 → Ran k (one_write at (bytes_of 8 content)) d r o →
    Ran k (one_write at (reference_bytes w content)) d r o
unfolding reference_bytes
reference_eight at w content e q = rw e q

pub reference_four :
    {k : ℕ} {d : List ℕ} (at w content : ℕ) {r : ℕ} {o : List ℕ} → (w ≡ 8 → ⊥) → (w ≡ 8) ⊎ (w ≡ 4) →
    Ran k (one_write at (bytes_of 4 (content / 8 % 4294967296))) d r o → Ran k (one_write at (reference_bytes w content)) d r o
unfolding reference_bytes
reference_four at w content z (inl e) q = absurd (z e)
reference_four at w content z (inr e) q = rw e (rw (bytes_mod 4 (content / 8)) at q)

then_long : (w content : ℕ) → length (reference_bytes w content) ≡ w
unfolding reference_bytes
then_long w content = bytes_length w _

-- what is ahead reads as it did

module _ {l d : List ℕ} {x : ℕ} (a : After l d x) where
  read_after : (w at : ℕ) → x ≤ at → reference_read w l at ≡ reference_read w d at
  unfolding reference_read
  read_after w at h = rw (after_number a 8 at h, after_number a 4 at h)

  size_after : (strings : Bool) (w at : ℕ) → x ≤ at → field_size l strings w at ≡ field_size d strings w at
  unfolding field_size metadata_entry_size string_size
  size_after strings w at h = rw (after_number a 2 (at + 8) (omega arith))

-- where they stand

pub size_least : (d : List ℕ) (strings : Bool) (w at : ℕ) → (w ≡ 8) ⊎ (w ≡ 4) → w ≤ field_size d strings w at
unfolding field_size metadata_entry_size
size_least d true w at (inl e) = omega arith
size_least d true w at (inr e) = omega arith
size_least d false w at e = omega arith

pub end_grows : (d : List ℕ) (strings : Bool) (w at : ℕ) → at ≤ field_end d strings w at
unfolding field_end
end_grows d strings w at = omega arith

module _ {d : List ℕ} {x n first : ℕ} {strings : Bool} {w count : ℕ} (f : FieldsFit d x n first strings w count) where
  abbrev A : ℕ → ℕ
  A i = field_at d x n first strings w i

  pub at_first : A 0 ≡ x + first
  unfolding field_at
  at_first = advance_none (field_end d strings w) (x + (n - 4)) (x + first)

  pub at_mono : (i j : ℕ) → i ≤ j → A i ≤ A j
  unfolding field_at
  at_mono i j l =
      let z : i + (j - i) ≡ j = omega arith in
      rw z at (advance_mono (field_end d strings w) (x + (n - 4)) (end_grows d strings w) i (j - i) (x + first))

  pub at_inside : (i : ℕ) → i ≤ count → A i ≤ x + (n - 4)
  at_inside i l = omega (arith, at_mono i count l, f.ends)

  pub at_next : (i : ℕ) → i ≤ count → A (i + 1) ≡ A i + field_size d strings w (A i)
  unfolding field_at field_end
  at_next i l =
      let h : advance (field_end d strings w) (x + (n - 4)) i (x + first) ≤ x + (n - 4) = at_inside i l in
      advance_more (field_end d strings w) (x + (n - 4)) i (x + first) ∙ rw (le-leb _ _ h)

-- the loop: i of them are put, p bytes are stored, the next stands at q
pub record Putting
    (k : ℕ) (d : List ℕ) (to : ℕ) (named : ℕ → ℕ) (x n first : ℕ) (strings : Bool) (w count i p q m : ℕ) (l : List ℕ)
    : Type 0 where
  pub filling : Filling k d to (part d x n) (field_in d x n first strings w) (field_then named d x n first strings w) i p m l
  pub place : x + q ≡ field_at d x n first strings w i
  pub order : p ≤ q
  pub most : i ≤ count

pub putting_none :
    (k : ℕ) (d : List ℕ) (to : ℕ) (named : ℕ → ℕ) {x n first : ℕ} {strings : Bool} {w count : ℕ} → FieldsFit d x n first strings w count →
    Putting k d to named x n first strings w count 0 0 first k d
putting_none k d to named {x} {n} {first} {strings} {w} f =
    record {
      filling = fill_none k d to (part d x n) (field_in d x n first strings w) (field_then named d x n first strings w);
      place = sym (at_first f);
      order = omega arith;
      most = omega arith;
    }

-- that the next one lies before the checksum, and what stands behind it
pub record Ahead (d : List ℕ) (to x n w q p size : ℕ) (l : List ℕ) : Type 0 where
  pub room : length l ≡ length d
  pub whole : x + n ≤ length d
  pub within : q + size + 4 ≤ n
  pub wide : w ≤ size
  pub order : p ≤ q

module _
    {k : ℕ} {d : List ℕ} {to : ℕ} {named : ℕ → ℕ} {x n first : ℕ} {strings : Bool} {w count i p q m : ℕ} {l : List ℕ}
    (t : Putting k d to named x n first strings w count i p q m l) (f : FieldsFit d x n first strings w count) (below : to ≤ x)
  where
    pub putting_room : length l ≡ length d
    putting_room = fill_room t.filling

    pub putting_inside : q + 4 ≤ n
    putting_inside = omega (arith, t.place, at_inside f i t.most, f.least)

    r_long : length (part d x n) ≡ n
    r_long = part_length d x n f.inside

    after_q : After l d (to + p)
    after_q = fill_after t.filling

    module _ (more : i < count) {size : ℕ} (e : size ≡ field_size l strings w (x + q)) where
      size_is : size ≡ field_size d strings w (field_at d x n first strings w i)
      size_is = e ∙ size_after after_q strings w (x + q) (omega (arith, t.order)) ∙ ap (field_size d strings w) t.place

      next_is : x + (q + size) ≡ field_at d x n first strings w (i + 1)
      next_is = omega (arith, t.place, size_is, at_next f i t.most)

      pub putting_ahead : Ahead d to x n w q p size l
      putting_ahead =
          record {
            room = putting_room;
            whole = f.inside;
            within = omega (arith, next_is, at_inside f (i + 1) (omega arith), f.least);
            wide = omega (arith, size_is, size_least d strings w (field_at d x n first strings w i) f.width);
            order = t.order;
          }

      pub putting_more :
          {content v m1 m2 : ℕ} {l1 l2 : List ℕ} → content ≡ named v → v ≡ reference_read w l (x + q) → Ran m (one_write (to + p) (part l (x + p) (q - p))) l m1 l1 →
          Ran m1 (one_write (to + q) (reference_bytes w content)) l1 m2 l2 → Putting k d to named x n first strings w count (i + 1) (q + w) (q + size) m2 l2
      unfolding field_in field_then
      putting_more {content} g j a b =
          let h = putting_ahead in
          let c : content ≡ named (reference_read w d (field_at d x n first strings w i)) =
          g ∙ ap named (j ∙ read_after after_q w (x + q) (omega (arith, t.order)) ∙ ap (reference_read w d) t.place) in
          let y : field_at d x n first strings w i - x ≡ q = omega (arith, t.place) in
          let s = fill_move t.filling x n q a refl f.inside below t.order (omega (arith, h.within)) in
          record {
            filling =
                fill_put s (reference_bytes w content) w b y (ap (reference_bytes w) (sym c)) (then_long w content)
                (omega (arith, r_long, h.within, h.wide)) (omega (arith, r_long, f.inside));
            place = next_is;
            order = omega (arith, h.wide);
            most = omega arith;
          }

    pub putting_all :
        {m1 : ℕ} {l1 : List ℕ} → count ≤ i → Ran m (one_write (to + p) (part l (x + p) (n - 4 - p))) l m1 l1 →
        Ran k (one_write to (unsealed (fields_put named d x n first strings w count) n)) d m1 l1
    unfolding unsealed fields_put
    putting_all g a =
        let j : i ≡ count = omega (arith, t.most) in
        let s = fill_move t.filling x n (n - 4) a refl f.inside below (omega (arith, t.order, putting_inside)) (omega arith) in
        rw (← j) (stored_ran s.stored)
