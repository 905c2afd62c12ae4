-- Bytes that stand whole in others: what is read there, and what is put there. Assumes nothing.
use Prim.Native.Nat.{ℕ, ◌+◌, ◌^◌, ◌≤◌, ◌<◌}
use mathlib.Core.Path.{◌≡◌, refl, sym, ap, ap₂, ◌∙◌}
use mathlib.Core.List.{List, [], ◌++◌, append_assoc, append-nil}
use native.Mathlib.Omega.{arith}
use lib.ListN.{length, take, drop, length-append, take-append-drop}
use lib.Seq.{take_at, drop_at, length-take-le}
use Rattle.wire.specs.Bytes.{byte_at, part, number, number_at, bytes_of, put}
use Rattle.wire.proofs.ByteLaws.{part_in, part_length, part_behind, part_before, number_one, bytes_length, number_of}
use Rattle.wire.proofs.PutLaws.{put_fits, length_put}

-- the bytes r stand in s from `at` on
pub record Placed (s : List ℕ) (at : ℕ) (r : List ℕ) : Type 0 where
  pub before : List ℕ
  pub behind : List ℕ
  pub whole : s ≡ before ++ (r ++ behind)
  pub start : length before ≡ at

pub placed_self : (r : List ℕ) → Placed r 0 r
placed_self r = record { before = []; behind = []; whole = sym (append-nil r); start = refl }

pub placed_last : (a r : List ℕ) {at : ℕ} → length a ≡ at → Placed (a ++ r) at r
placed_last a r e = record { before = a; behind = []; whole = rw append-nil; start = e }

pub placed_before : {s r : List ℕ} {at : ℕ} → Placed s at r → (b : List ℕ) → Placed (s ++ b) at r
placed_before {s} {r} p b =
    record {
      before = p.before;
      behind = p.behind ++ b;
      whole = ap (λ (l : List ℕ). l ++ b) p.whole ∙ simp append_assoc;
      start = p.start;
    }

-- what stands in bytes that are placed
pub placed_inner : {s r q : List ℕ} {at i : ℕ} → Placed s at r → Placed r i q → Placed s (at + i) q
placed_inner p q =
    record {
      before = p.before ++ q.before;
      behind = q.behind ++ p.behind;
      whole = p.whole ∙ ap (λ (l : List ℕ). p.before ++ (l ++ p.behind)) q.whole ∙ simp append_assoc;
      start = length-append p.before q.before ∙ omega (arith, p.start, q.start);
    }

pub placed_at : {s r : List ℕ} {a b : ℕ} → Placed s a r → a ≡ b → Placed s b r
placed_at p e = record { before = p.before; behind = p.behind; whole = p.whole; start = p.start ∙ e }

-- the first and the second of two in a row

pub placed_first : (u v : List ℕ) {s : List ℕ} {at : ℕ} → Placed s at (u ++ v) → Placed s at u
placed_first u v p =
    record {
      before = p.before;
      behind = v ++ p.behind;
      whole = p.whole ∙ simp append_assoc;
      start = p.start;
    }

pub placed_next : (u v : List ℕ) {n : ℕ} → length u ≡ n → {s : List ℕ} {at : ℕ} → Placed s at (u ++ v) → Placed s (at + n) v
placed_next u v e p = placed_inner p (placed_last u v e)

-- a part stands where it was taken from
pub part_placed : (s : List ℕ) (at n : ℕ) → at + n ≤ length s → Placed s at (part s at n)
part_placed s at n h =
    record {
      before = take at s;
      behind = drop n (drop at s);
      whole = rw (part_in s at n h, take-append-drop, take-append-drop);
      start = length-take-le at s (omega arith);
    }

-- what is read in them

module _ {s r : List ℕ} {at : ℕ} (p : Placed s at r) where
  pub placed_inside : at + length r ≤ length s
  placed_inside =
      let a = ap length p.whole ∙ length-append p.before (r ++ p.behind) in
      omega (arith, a, length-append r p.behind, p.start)

  pub placed_part : (i n : ℕ) → i + n ≤ length r → part s (at + i) n ≡ part r i n
  placed_part i n h =
      rw (p.whole, ← p.start) (part_behind p.before (r ++ p.behind) i n ∙ part_before r p.behind i n h)

  pub placed_number : (w i : ℕ) → i + w ≤ length r → number_at w s (at + i) ≡ number_at w r i
  unfolding number_at
  placed_number w i h = ap number (placed_part i w h)

  pub placed_byte : (i : ℕ) → i < length r → byte_at s (at + i) ≡ byte_at r i
  placed_byte i h = number_one s (at + i) ∙ placed_number 1 i (omega arith) ∙ sym (number_one r i)

-- a number that is placed is read
pub placed_value : {s : List ℕ} {at : ℕ} (w v : ℕ) → Placed s at (bytes_of w v) → v < 256 ^ w → number_at w s at ≡ v
placed_value {at} w v p h =
    let n = bytes_length w v in
    let z : at + 0 ≡ at = omega arith in
    rw z at (placed_number p w 0 (omega arith) ∙ number_of w v h)

-- bytes that are put stand there
pub put_placed : (d : List ℕ) (at : ℕ) (v : List ℕ) → at + length v ≤ length d → Placed (put d at v) at v
put_placed d at v h =
    record {
      before = take at d;
      behind = drop (at + length v) d;
      whole = put_fits d at v h ∙ append_assoc (take at d) v (drop (at + length v) d);
      start = length-take-le at d (omega arith);
    }

-- v in place of bytes that stand there, which are as many
pub put_there : {s m : List ℕ} {at : ℕ} (p : Placed s at m) (v : List ℕ) → length m ≡ length v → put s at v ≡ p.before ++ (v ++ p.behind)
put_there {s} {m} {at} p v e =
    let a = p.before in
    let b = p.behind in
    let l : length (a ++ m) ≡ at + length v = length-append a m ∙ omega (arith, p.start) in
    put_fits s at v (omega (arith, placed_inside p))
    ∙ ap₂ (λ (x y : List ℕ). x ++ v ++ y) (ap (take at) p.whole ∙ take_at a (m ++ b) at p.start)
    (ap (drop (at + length v)) (p.whole ∙ sym (append_assoc a m b)) ∙ drop_at (a ++ m) b (at + length v) l)
    ∙ append_assoc a v b

-- in the first of two lists, in place of the second, inside what was put, and over it

pub put_before : (d b : List ℕ) (at : ℕ) (v : List ℕ) → at + length v ≤ length d → put (d ++ b) at v ≡ put d at v ++ b
unfolding placed_before
put_before d b at v h =
    let p = part_placed d at (length v) h in
    let e = part_length d at (length v) h in
    put_there (placed_before p b) v e ∙ sym (rw (put_there p v e) (simp append_assoc))

pub put_last : (a m v : List ℕ) {at : ℕ} → length a ≡ at → length m ≡ length v → put (a ++ m) at v ≡ a ++ v
unfolding placed_last
put_last a m v e h = put_there (placed_last a m e) v h ∙ rw append-nil

pub put_inside : (d r : List ℕ) (at i : ℕ) (v : List ℕ) → at + length r ≤ length d → i + length v ≤ length r → put (put d at r) (at + i) v ≡ put d at (put r i v)
unfolding put_placed placed_inner
put_inside d r at i v h k =
    let p = part_placed r i (length v) k in
    let e = part_length r i (length v) k in
    let l = length_put r i v in
    put_there (placed_inner (put_placed d at r h) p) v e
    ∙ sym (put_fits d at (put r i v) (omega arith) ∙ rw (l, put_there p v e) (simp append_assoc))

pub put_over : (d : List ℕ) (at : ℕ) (v w : List ℕ) → length v ≡ length w → at + length v ≤ length d → put (put d at v) at w ≡ put d at w
unfolding put_placed
put_over d at v w e h =
    put_there (put_placed d at v h) w e ∙ sym (put_fits d at w (omega arith) ∙ rw (← e) (append_assoc (take at d) w (drop (at + length v) d)))
