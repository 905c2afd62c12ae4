-- One write, and what the calls that make it say. Assumes nothing.
use Prim.Native.Nat.{ℕ, ◌+◌, ◌-◌, ◌≤◌, ◌<◌}
use mathlib.Core.Path.{◌≡◌, sym, refl, ap, ◌∙◌}
use mathlib.Core.List.{List}
use native.Mathlib.Omega.{arith}
use lib.ListN.{length, take}
use lib.Seq.{take_at}
use Rattle.wire.specs.Bytes.{part, bytes_of, put, zeros}
use Rattle.wire.proofs.ByteLaws.{part_in, part_whole, bytes_length, zeros_length, zeros_joined}
use Rattle.wire.proofs.PutLaws.{put_not, put_part, length_put}
use Rattle.written_records.specs.Pieces.{checksum_for}
use Rattle.stores.specs.Stores.{run, store_count, first_bytes, cut, stopped}
use Rattle.stores.specs.Writes.{one_write, seal_write}
use Rattle.stores.proofs.StoreLaws.{take_more}

-- the first bytes, as a part of the slice

pub first_all : (k n : ℕ) (s : List ℕ) {l : List ℕ} → l ≡ part s 0 n → n ≡ length s → n < k → l ≡ first_bytes k s
unfolding first_bytes
first_all k n s e f h = e ∙ ap (part s 0) f ∙ part_whole s ∙ sym (take_more k s (omega arith))

pub first_some : (k : ℕ) (s : List ℕ) {l : List ℕ} → l ≡ part s 0 k → k ≤ length s → l ≡ first_bytes k s
unfolding first_bytes
first_some k s e h = e ∙ part_in s 0 k (omega arith)

-- one write: how many stores, and what is held

pub one_count : (at : ℕ) (v : List ℕ) → store_count (one_write at v) ≡ length v
unfolding store_count one_write
one_count at v = omega arith

pub one_stopped : (k at : ℕ) (v d : List ℕ) → stopped k (one_write at v) d ≡ put d at (first_bytes k v)
unfolding stopped run cut one_write
one_stopped k at v d = refl

pub one_left : (k at n r : ℕ) (v : List ℕ) → length v ≡ n → r ≡ k - n → r ≡ k - store_count (one_write at v)
one_left k at n r v e h = let f = one_count at v in omega arith

pub one_holds : (k at : ℕ) (v d : List ℕ) {u l : List ℕ} → u ≡ first_bytes k v → l ≡ put d at u → l ≡ stopped k (one_write at v) d
one_holds k at v d e f = f ∙ ap (put d at) e ∙ sym (one_stopped k at v d)

-- zeros

pub zeros_some : (k n : ℕ) → k ≤ n → zeros k ≡ first_bytes k (zeros n)
unfolding first_bytes
zeros_some k n h =
    let e : n ≡ k + (n - k) = omega arith in
    sym (ap (take k) (ap zeros e ∙ zeros_joined k (n - k)) ∙ take_at (zeros k) (zeros (n - k)) k (zeros_length k))

pub zeros_whole : (k n : ℕ) → n ≤ k → zeros n ≡ first_bytes k (zeros n)
unfolding first_bytes
zeros_whole k n h = sym (take_more k (zeros n) (omega (arith, zeros_length n)))

-- bytes written apart, then stored

pub apart_all : (v z : List ℕ) {l : List ℕ} → length z ≡ length v → l ≡ put z 0 v → l ≡ v
apart_all v z e f =
    let p = put z 0 v in
    let g : length p ≡ length v = omega (arith, length_put z 0 v) in
    f ∙ sym (part_whole p) ∙ ap (part p 0) g ∙ put_part z 0 v (omega arith)

pub apart_is : (w v : ℕ) (z : List ℕ) {l : List ℕ} → length z ≡ w → l ≡ put z 0 (bytes_of w v) → l ≡ bytes_of w v
apart_is w v z e f = apart_all (bytes_of w v) z (omega (arith, bytes_length w v)) f

pub same_left : (k at r : ℕ) {u v : List ℕ} → u ≡ v → r ≡ k - store_count (one_write at u) → r ≡ k - store_count (one_write at v)
same_left k at r e h = rw e at h

pub same_holds : (k at : ℕ) (d l : List ℕ) {u v : List ℕ} → u ≡ v → l ≡ stopped k (one_write at u) d → l ≡ stopped k (one_write at v) d
same_holds k at d l e h = rw e at h

-- a checksum over the buffer's own bytes

module _ (k flag at n : ℕ) (d : List ℕ) where
  pub seal_left :
      (m sum r : ℕ) → m ≡ n - 4 → sum ≡ checksum_for flag (part d at m) → r ≡ k - store_count (one_write (at + m) (bytes_of 4 sum)) →
      r ≡ k - store_count (seal_write flag at n d)
  unfolding seal_write
  seal_left m sum r e f h = h ∙ rw (f, e)

  pub seal_holds :
      (m sum : ℕ) (l : List ℕ) → m ≡ n - 4 → sum ≡ checksum_for flag (part d at m) → l ≡ stopped k (one_write (at + m) (bytes_of 4 sum)) d →
      l ≡ stopped k (seal_write flag at n d) d
  unfolding seal_write
  seal_holds m sum l e f h = h ∙ rw (f, e)

  -- where it starts past the end, nothing is written

  pub seal_out_left : (r : ℕ) → r ≡ k - 4 → r ≡ k - store_count (seal_write flag at n d)
  unfolding seal_write
  seal_out_left r h = one_left k (at + (n - 4)) 4 r (bytes_of 4 (checksum_for flag (part d at (n - 4)))) (bytes_length 4 _) h

  pub seal_out_holds : (m : ℕ) → m ≡ n - 4 → length d < at + m → d ≡ stopped k (seal_write flag at n d) d
  unfolding seal_write
  seal_out_holds m e h =
      sym (one_stopped k (at + (n - 4)) (bytes_of 4 (checksum_for flag (part d at (n - 4)))) d ∙ put_not d (at + (n - 4)) _ (omega arith))
