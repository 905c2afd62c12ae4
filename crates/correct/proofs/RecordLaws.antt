-- Free records, and the head of any record, as they are stored. Assumes nothing.
use Prim.Native.Nat.{ℕ, ◌+◌, ◌*◌, ◌/◌, ◌%◌, ◌-◌, ◌≤◌, ◌<◌}
use mathlib.Core.Path.{◌≡◌, refl, sym, ap, ◌∙◌}
use mathlib.Core.List.{List, [], ◌∷◌, ◌++◌}
use native.Mathlib.Omega.{arith}
use lib.ListN.{length, length-append}
use borrow.Author.Tests.{ne_eqb}
use Rattle.wire.specs.Bytes.{part, bytes_of, put, zeros}
use Rattle.wire.proofs.ByteLaws.{part_whole, bytes_length, zeros_length}
use Rattle.wire.proofs.PutLaws.{bytes_mod}
use Rattle.geometry.specs.Sizes.{least_length}
use Rattle.written_records.specs.Pieces.{checksum_for, record_head, record_length, unclosed, record_of}
use Rattle.written_records.proofs.PieceLaws.{head_length_lem, record_holds, record_length_lem}
use Rattle.pieces.specs.Pieces.{free_record}
use Rattle.stores.specs.Writes.{one_write, whole_write, seal_write}
use Rattle.stores.proofs.WriteLaws.{apart_all}
use Rattle.stores.proofs.JoinLaws.{Ran, ran_none, Stored, stored_first, stored_then, stored_seal, whole_in, whole_out}
use Rattle.correct.specs.RecordWrites.{rest_writes}

pub record_length_is : (n : ℕ) → (n + 8 + 4 + 7) / 8 * 8 ≡ record_length n
unfolding record_length least_length
record_length_is n = let e : n + 8 + 4 + 7 ≡ 8 + n + 4 + (8 - 1) = omega arith in rw e

pub record_room : (n body : ℕ) → n ≡ record_length body → 12 + body ≤ n
record_room n body e = omega (arith, record_holds body)

-- a head written apart, its length four bytes of a number

pub head_apart :
    (n v kind : ℕ) (z : List ℕ) {l : List ℕ} → length z ≡ 8 → v ≡ n % 4294967296 → l ≡ put z 0 (record_head v kind) → l ≡ record_head n kind
unfolding record_head
head_apart n v kind z e f g =
    let h = head_length_lem v kind in
    apart_all (record_head v kind) z (omega arith) g
    ∙ rw f (ap (λ (b : List ℕ). b ++ (kind ∷ []) ++ zeros 3) (bytes_mod 4 n))

pub free_sum : (flag n : ℕ) (l : List ℕ) (r : ℕ) → l ≡ record_head n 0 → r ≡ checksum_for flag (part l 0 8) → r ≡ checksum_for flag (record_head n 0)
free_sum flag n l r e f =
    let h = head_length_lem n 0 in
    let p : part (record_head n 0) 0 8 ≡ record_head n 0 = ap (part (record_head n 0) 0) (sym h) ∙ part_whole (record_head n 0) in
    f ∙ ap (λ (x : List ℕ). checksum_for flag (part x 0 8)) e ∙ ap (checksum_for flag) p

-- a free record

pub free_length : (flag n : ℕ) → length (free_record flag n) ≡ 12 + (n - 12)
unfolding free_record
free_length flag n =
    let h = record_head n 0 in
    let s = bytes_of 4 (checksum_for flag h) in
    length-append (h ++ zeros (n - 12)) s
    ∙ omega (arith, length-append h (zeros (n - 12)), head_length_lem n 0, zeros_length (n - 12), bytes_length 4 (checksum_for flag h))

module _ (k : ℕ) (d : List ℕ) (at n flag : ℕ) where
  pub free_out :
      (z : ℕ) → z ≡ n - 12 → length d < at + (12 + z) → Ran k (whole_write (length d) at (free_record flag n)) d k d
  free_out z e h = whole_out k at (free_record flag n) d (free_length flag n) (omega arith)

  pub free_in :
      (z sum : ℕ) {a b r : ℕ} {l m o : List ℕ} → z ≡ n - 12 → sum ≡ checksum_for flag (record_head n 0) → Ran k (one_write at (record_head n 0)) d a l →
      Ran a (one_write (at + 8) (zeros z)) l b m → Ran b (one_write (at + 8 + z) (bytes_of 4 sum)) m r o → at + (12 + z) ≤ length d →
      Ran k (whole_write (length d) at (free_record flag n)) d r o
  unfolding free_record
  free_in z sum e s p q t h =
      let w1 = stored_first p (head_length_lem n 0) in
      let w2 = stored_then w1 (zeros z) z (at + 8) q (zeros_length z) refl (omega arith) in
      let w3 = stored_then w2 (bytes_of 4 sum) 4 (at + 8 + z) t (bytes_length 4 sum) (omega arith) (omega arith) in
      rw (← e, ← s) (whole_in w3 (omega arith))

-- what is left over of one

pub rest_none : (k : ℕ) (d : List ℕ) (flag at n : ℕ) → n ≡ 0 → Ran k (rest_writes (length d) flag at n) d k d
unfolding rest_writes
rest_none k d flag at n e = rw e (ran_none k d)

pub rest_some :
    {k : ℕ} {d : List ℕ} (flag at n : ℕ) {r : ℕ} {l : List ℕ} → (n ≡ 0 → ⊥) → Ran k (whole_write (length d) at (free_record flag n)) d r l →
    Ran k (rest_writes (length d) flag at n) d r l
unfolding rest_writes
rest_some flag at n e q = rw (ne_eqb n 0 e) q

-- a record whose head and body are stored, then padded and sealed

module _ (k : ℕ) (d : List ℕ) (at flag kind n : ℕ) (body : List ℕ) (e : n ≡ record_length (length body)) where
  pub record_out : length d < at + n → Ran k (whole_write (length d) at (record_of flag kind body)) d k d
  record_out h = whole_out k at (record_of flag kind body) d (record_length_lem flag kind body) (omega arith)

  pub record_in :
      (end z : ℕ) {m j r : ℕ} {l s o : List ℕ} → Stored k d at (record_head n kind ++ body) (8 + length body) m l → end ≡ at + (8 + length body) →
      z ≡ n - 4 - (8 + length body) → Ran m (one_write end (zeros z)) l j s → Ran j (seal_write flag at n s) s r o → at + n ≤ length d →
      Ran k (whole_write (length d) at (record_of flag kind body)) d r o
  unfolding record_of unclosed
  record_in end z w f g p q h =
      let b = record_holds (length body) in
      let w1 = stored_then w (zeros z) z end p (zeros_length z) f (omega arith) in
      let w2 = stored_seal w1 flag n q (omega arith) (omega arith) in
      rw (← e, ← g) (whole_in w2 (omega arith))
