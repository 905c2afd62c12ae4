-- The front as it is written: put, its fields set, its checksum made anew. Assumes nothing.
use Prim.Native.Nat.{ℕ, ◌+◌, ◌-◌, ◌≤◌}
use mathlib.Core.Path.{◌≡◌, refl, ◌∙◌}
use mathlib.Core.List.{List}
use native.Mathlib.Omega.{arith}
use lib.ListN.{length}
use Rattle.wire.specs.Bytes.{part, bytes_of, put, zeros}
use Rattle.wire.proofs.ByteLaws.{bytes_length, zeros_length}
use Rattle.wire.proofs.PutLaws.{length_put}
use Rattle.wire.proofs.PlaceLaws.{placed_part, put_placed, put_inside}
use Rattle.header.specs.Fields.{checksum_enabled}
use Rattle.written_records.specs.Pieces.{checksum_for, sealed}
use Rattle.lay_down.specs.Page.{fields_set, laid_front}
use Rattle.lay_down.proofs.PageLaws.{fields_length}

pub fields_are :
    (d a b c e l : List ℕ) (t r : ℕ) → a ≡ put d 40 (bytes_of 8 t) → b ≡ put a 48 (zeros 8) → c ≡ put b 56 (zeros 8) → e ≡ put c 64 (zeros 8) →
    l ≡ put e 80 (bytes_of 8 r) → l ≡ fields_set d t r
unfolding fields_set
fields_are d a b c e l t r p q s u v = rw (← p, ← q, ← s, ← u) v

-- what is done in a front that was put at the start is done in the front

module _ (d r : List ℕ) (h : length r ≤ length d) (i : ℕ) where
  from_start : 0 + i ≡ i
  from_start = omega arith

  put_start : (v : List ℕ) → i + length v ≤ length r → put (put d 0 r) i v ≡ put d 0 (put r i v)
  put_start v k = rw from_start at (put_inside d r 0 i v (omega arith) k)

  part_start : (n : ℕ) → i + n ≤ length r → part (put d 0 r) i n ≡ part r i n
  part_start n k = rw from_start at (placed_part (put_placed d 0 r (omega arith)) i n k)

fields_inside : (d f : List ℕ) (t r : ℕ) → 88 ≤ length f → length f ≤ length d → fields_set (put d 0 f) t r ≡ put d 0 (fields_set f t r)
unfolding fields_set
fields_inside d f t r h k =
    let f1 = put f 40 (bytes_of 8 t) in
    let f2 = put f1 48 (zeros 8) in
    let f3 = put f2 56 (zeros 8) in
    let f4 = put f3 64 (zeros 8) in
    let z = zeros_length 8 in
    rw (
      in_start f 40 (bytes_of 8 t) refl (bytes_length 8 t) (omega arith),
      in_start f1 48 (zeros 8) (simp length_put) z (omega arith),
      in_start f2 56 (zeros 8) (simp length_put) z (omega arith),
      in_start f3 64 (zeros 8) (simp length_put) z (omega arith),
      in_start f4 80 (bytes_of 8 r) (simp length_put) (bytes_length 8 r) (omega arith),
    )
  where
    in_start : (u : List ℕ) (i : ℕ) (v : List ℕ) → length u ≡ length f → length v ≡ 8 → i ≤ 80 → put (put d 0 u) i v ≡ put d 0 (put u i v)
    in_start u i v e l m = put_start d u (omega arith) i v (omega arith)

sealed_inside :
    (flag : ℕ) (d r : List ℕ) (p n : ℕ) → length r ≤ length d → p + n ≤ length r → 4 ≤ n → sealed flag (put d 0 r) p n ≡ put d 0 (sealed flag r p n)
unfolding sealed
sealed_inside flag d r p n h k l =
    let s = checksum_for flag (part r p (n - 4)) in
    rw (part_start d r h p (n - 4) (omega arith)) (put_start d r h (p + (n - 4)) (bytes_of 4 s) (omega (arith, bytes_length 4 s)))

pub front_put :
    (d f a b l : List ℕ) (t r flag n : ℕ) → a ≡ put d 0 f → b ≡ fields_set a t r → l ≡ sealed flag b 16 n → flag ≡ checksum_enabled f → n ≡ length f - 16 →
    288 ≤ length f → length f ≤ length d → l ≡ put d 0 (laid_front f t r)
unfolding laid_front
front_put d f a b l t r flag n p q s e g h k =
    let w : b ≡ put d 0 (fields_set f t r) = q ∙ rw p (fields_inside d f t r (omega arith) k) in
    let o = fields_length f t r in
    s ∙ rw (w, e, g) (sealed_inside (checksum_enabled f) d (fields_set f t r) 16 (length f - 16) (omega arith) (omega arith) (omega arith))
