-- Bytes that stand at two places: what is read there, at the same offset. Assumes nothing.
use Prim.Native.Nat.{ℕ, ◌+◌, ◌-◌, ◌≤◌, ◌<◌}
use mathlib.Core.Path.{◌≡◌, refl, sym, ap, ◌∙◌}
use mathlib.Core.List.{List}
use mathlib.Core.Bool.{true}
use native.Mathlib.Omega.{arith}
use lib.ListN.{length}
use Rattle.wire.specs.Bytes.{byte_at, part, number, number_at}
use Rattle.wire.proofs.TestLaws.{means, yes}
use Rattle.wire.proofs.ByteLaws.{part_length, number_one}
use Rattle.wire.proofs.PlaceLaws.{Placed, part_placed, placed_part, placed_inside}
use Rattle.record.specs.Record.{length_at, type_at, record_ok, record_limit}
use Rattle.record.proofs.ChainLaws.{ok_means, means_ok}
use Rattle.utf8.specs.Utf8.{utf8}
use Rattle.header.specs.Element.{string_size, string_end}
use Rattle.header.specs.Texts.{string_text, text_right}
use Rattle.check_records.specs.Frame.{end_right}
use Rattle.pieces.proofs.MoveLaws.{Offset}
use Rattle.alone.specs.Alone.{Moved, SameRecord}

-- offsets

pub offset_of : (a b i : ℕ) → Offset (a + i) (b + i) a b
offset_of a b i = record { far = i; first = refl; second = refl }

pub offset_add : {p q a b : ℕ} → Offset p q a b → {d e : ℕ} → d ≡ e → Offset (p + d) (q + e) a b
offset_add o {d} {e} h = record { far = o.far + d; first = omega (arith, o.first); second = omega (arith, o.second) }

pub offset_self : (a p : ℕ) → a ≤ p → Offset p p a a
offset_self a p h = record { far = p - a; first = omega arith; second = omega arith }

pub offset_far : {p q a b : ℕ} → Offset p q a b → a + q ≡ b + p
offset_far o = omega (arith, o.first, o.second)

module _ {s : List ℕ} {x : ℕ} {t : List ℕ} {y n : ℕ} (m : Moved s x t y n) where
  pub moved_sym : Moved t y s x n
  moved_sym = record { in_first = m.in_second; in_second = m.in_first; bytes = sym m.bytes }

  pub moved_part : (i k : ℕ) → i + k ≤ n → part s (x + i) k ≡ part t (y + i) k
  moved_part i k h =
      let a = part_length s x n m.in_first in
      let b = part_length t y n m.in_second in
      placed_part (part_placed s x n m.in_first) i k (omega arith)
      ∙ ap (λ (l : List ℕ). part l i k) m.bytes
      ∙ sym (placed_part (part_placed t y n m.in_second) i k (omega arith))

  -- at places that are as far behind x and y
  module _ {p q : ℕ} (o : Offset p q x y) where
    pub offset_part : (k : ℕ) → p + k ≤ x + n → part s p k ≡ part t q k
    offset_part k h =
        ap (λ (i : ℕ). part s i k) o.first ∙ moved_part o.far k (omega (arith, o.first)) ∙ ap (λ (i : ℕ). part t i k) (sym o.second)

    offset_part_behind : (d k : ℕ) → p + d + k ≤ x + n → part s (p + d) k ≡ part t (q + d) k
    offset_part_behind d k h =
        let e : p + d ≡ x + (o.far + d) = omega (arith, o.first) in
        let f : q + d ≡ y + (o.far + d) = omega (arith, o.second) in
        rw (e, f) (moved_part (o.far + d) k (omega (arith, o.first)))

    pub offset_number : (w : ℕ) → p + w ≤ x + n → number_at w s p ≡ number_at w t q
    unfolding number_at
    offset_number w h = ap number (offset_part w h)

    pub offset_byte : p < x + n → byte_at s p ≡ byte_at t q
    offset_byte h = number_one s p ∙ offset_number 1 (omega arith) ∙ sym (number_one t q)

    pub offset_string : p + 2 ≤ x + n → Offset (string_end s p) (string_end t q) x y
    unfolding string_end string_size
    offset_string h = offset_add o (ap (λ (i : ℕ). 2 + i) (offset_number 2 h))

    pub offset_text : string_end s p ≤ x + n → text_right s p ≡ text_right t q
    unfolding text_right string_text string_end string_size
    offset_text h =
        let e : number_at 2 s p ≡ number_at 2 t q = offset_number 2 (omega arith) in
        ap utf8 (offset_part_behind 2 (number_at 2 s p) (omega arith) ∙ ap (part t (q + 2)) e)

    -- some of them
    pub moved_inner : (k : ℕ) → p + k ≤ x + n → Moved s p t q k
    moved_inner k h =
        record { in_first = omega (arith, m.in_first); in_second = omega (arith, m.in_second, o.first, o.second); bytes = offset_part k h }

-- the same bytes, placed twice
pub moved_placed : {s t r : List ℕ} {x y : ℕ} → Placed s x r → Placed t y r → Moved s x t y (length r)
moved_placed {s} {t} {r} {x} {y} p q =
    let e : x + 0 ≡ x = omega arith in
    let f : y + 0 ≡ y = omega arith in
    record {
      in_first = placed_inside p;
      in_second = placed_inside q;
      bytes = (rw e at (placed_part p 0 (length r) (omega arith))) ∙ sym (rw f at (placed_part q 0 (length r) (omega arith)));
    }

-- a record

module _ {s : List ℕ} {x : ℕ} {t : List ℕ} {y : ℕ} (r : SameRecord s x t y) where
  pub here : (i : ℕ) → Offset (x + i) (y + i) x y
  here i = offset_of x y i

  start : Offset x y x y
  start = record { far = 0; first = omega arith; second = omega arith }

  pub length_same : length_at s x ≡ length_at t y
  length_same = offset_number r.moved start 4 (omega (arith, r.long))

  pub type_same : type_at s x ≡ type_at t y
  type_same = offset_byte r.moved (here 4) (omega (arith, r.long))

  pub record_sym : SameRecord t y s x
  record_sym = record { long = omega (arith, r.long, length_same); moved = rw (← length_same) (moved_sym r.moved) }

  pub limit_first : record_limit s x ≡ x + (length_at s x - 4)
  unfolding record_limit
  limit_first = omega (arith, r.long, r.moved.in_first)

  pub limit_second : record_limit t y ≡ y + (length_at s x - 4)
  unfolding record_limit
  limit_second = omega (arith, r.long, r.moved.in_second, length_same)

  pub ok_to : record_ok s x ≡ true → record_ok t y ≡ true
  ok_to e =
      let o = ok_means s x e in
      let n = length_same in
      let k = type_same in
      means_ok t y
      (record { long = rw (← n) o.long; plain = rw (← n) o.plain; eights = rw (← n) o.eights; inside = rw (← n) r.moved.in_second; known = rw (← k) o.known })

  pub end_to : {p q : ℕ} → Offset p q x y → end_right s x p ≡ true → end_right t y q ≡ true
  unfolding end_right
  end_to {p} {q} o e =
      let a = means _ e in
      let f : p - x ≡ q - y = omega (arith, o.first, o.second) in
      sym (yes _ (omega (arith, a.0, o.first, o.second, limit_first, limit_second), (sym length_same ∙ a.1.0 ∙ rw f, tt)))
