-- What the writers of an entry's pieces put. Assumes nothing.
use Prim.Native.Nat.{ℕ, min, ◌+◌, ◌*◌, ◌/◌, ◌%◌, ◌-◌, ◌≤◌, ◌<◌}
use mathlib.Core.Path.{◌≡◌, refl, sym, ap, ◌∙◌}
use mathlib.Core.List.{List, [], ◌∷◌}
use mathlib.Core.Bool.{Bool, true, false}
use native.Mathlib.Omega.{arith}
use native.Mathlib.Numerals.{add-one}
use lib.ListN.{length, get_or}
use lib.Dec.{eqb}
use borrow.Author.Tests.{ne_eqb}
use Rattle.wire.specs.Pick.{pick, round_up}
use Rattle.wire.specs.Bytes.{bytes_of, put, zeros}
use Rattle.wire.proofs.ByteLaws.{bytes_length, zeros_length}
use Rattle.wire.proofs.PutLaws.{length_put, put_nil, put_out, first, then}
use Rattle.header.specs.Element.{block_size}
use Rattle.fronts.specs.Front.{strung, string_of, range_count, range_number}
use Rattle.fronts.specs.Writing.{range_bytes, head_length, head_bytes, tail_length, tail_bytes, numbers_at}
use Rattle.fronts.specs.declared.entries.Numbers.{Numbers}
use Rattle.fronts.specs.Given.{number_of}
use Rattle.fronts.proofs.EntryLaws.{string_length, fours_length}

-- a string

pub string_out : (d : List ℕ) (at : ℕ) (t : List ℕ) (n : ℕ) → n ≡ length t → length d < at + (2 + n) → d ≡ put d at (string_of t)
string_out d at t n e h = put_out d at (string_of t) (string_length t) (omega arith)

pub string_put :
    (d a b l : List ℕ) (at : ℕ) (t : List ℕ) (n : ℕ) → n ≡ length t → a ≡ put d at (n % 256 ∷ []) → b ≡ put a (at + 1) (n / 256 % 256 ∷ []) →
    l ≡ put b (at + 2) t → at + (2 + n) ≤ length d → l ≡ put d at (string_of t)
unfolding string_of bytes_of
string_put d a b l at t n e p q r h =
    let w = first p refl in
    let x = then w (n / 256 % 256 ∷ []) 1 (at + 1) q refl refl (omega arith) in
    let y = then x t n (at + 2) r (sym e) refl (omega arith) in
    y.is ∙ rw e

-- the numbers of a type code

pub count_coded : (k : ℕ) → k ≡ 1 → 8 ≡ range_count k
unfolding range_count
count_coded k e = rw e

pub count_other : (k : ℕ) → (k ≡ 1 → ⊥) → 3 ≡ range_count k
unfolding range_count
count_other k n = rw (ne_eqb k 1 n)

pub number_short : (k v : ℕ) → k ≡ 3 → v % 65536 ≡ range_number k v
unfolding range_number
number_short k v e = rw e

pub number_other : (k v : ℕ) → (k ≡ 3 → ⊥) → v ≡ range_number k v
unfolding range_number
number_other k v n = rw (ne_eqb k 3 n)

pub count_size : (k : ℕ) → 4 * range_count k ≡ block_size k
unfolding range_count block_size
count_size k = go (eqb k 1)
  where
    go : (b : Bool) → 4 * pick b 8 3 ≡ pick b 32 12
    go true = refl
    go false = refl

-- the block, a number at a time

pub record Blocked (d : List ℕ) (at kind : ℕ) (range : List ℕ) (from : ℕ) (l : List ℕ) (i : ℕ) : Type 0 where
  pub kept : length l ≡ length d
  pub is : l ≡ put d at (range_bytes kind i range from)

pub range_length : (kind n : ℕ) (range : List ℕ) (from : ℕ) → length (range_bytes kind n range from) ≡ 4 * n
unfolding range_bytes
range_length kind n range from = fours_length n (λ i. range_number kind (get_or range (from + i) 0))

pub blocked_none : (d : List ℕ) (at kind : ℕ) (range : List ℕ) (from : ℕ) → Blocked d at kind range from d 0
unfolding range_bytes strung
blocked_none d at kind range from = record { kept = refl; is = sym (put_nil d at) }

pub blocked_more :
    (d : List ℕ) (at kind : ℕ) (range : List ℕ) (from : ℕ) (l m : List ℕ) (i v x : ℕ) → Blocked d at kind range from l i → x ≡ get_or range (from + i) 0 →
    v ≡ range_number kind x → m ≡ put l (at + 4 * i) (bytes_of 4 v) → at + 4 * i + 4 ≤ length d → Blocked d at kind range from m (i + 1)
unfolding range_bytes strung
blocked_more d at kind range from l m i v x w p q r h =
    let b = bytes_of 4 (range_number kind (get_or range (from + i) 0)) in
    let n = then (first w.is (range_length kind i range from)) b 4 (at + 4 * i) (r ∙ rw (q, p)) (bytes_length 4 _) refl (omega arith) in
    record { kept = ap length r ∙ length_put l (at + 4 * i) (bytes_of 4 v) ∙ w.kept; is = rw (add-one i) n.is }

pub blocked_all :
    (d : List ℕ) (at kind : ℕ) (range : List ℕ) (from : ℕ) (l : List ℕ) (i n : ℕ) → Blocked d at kind range from l i → i ≤ n → n ≤ i →
    l ≡ put d at (range_bytes kind n range from)
blocked_all d at kind range from l i n w h k = let q : i ≡ n = omega arith in rw (← q) w.is

-- up to the label

pub head_size : (kind count n end pad : ℕ) → count ≡ range_count kind → end ≡ 10 + n + 4 * count → pad ≡ round_up 4 end - end → end + pad ≡ head_length kind n
unfolding head_length
head_size kind count n end pad e f p = let z = count_size kind in rw (← z, ← e) (omega arith)

pub head_put :
    (d a b c e g l : List ℕ) (at kind continuous count n end pad : ℕ) (name range : List ℕ) (from : ℕ) → n ≡ length name → count ≡ range_count kind →
    end ≡ 10 + n + 4 * count → pad ≡ round_up 4 end - end → a ≡ put d at (kind ∷ []) → b ≡ put a (at + 1) (continuous ∷ []) → c ≡ put b (at + 2) (zeros 6) →
    e ≡ put c (at + 8) (string_of name) → g ≡ put e (at + (10 + n)) (range_bytes kind count range from) → l ≡ put g (at + end) (zeros pad) →
    at + head_length kind n ≤ length d → l ≡ put d at (head_bytes kind continuous name range from)
unfolding head_bytes
head_put d a b c e g l at kind continuous count n end pad name range from i j k m p q r s t u h =
    let z = head_size kind count n end pad j k m in
    let y = count_size kind in
    let w1 = first p refl in
    let w2 = then w1 (continuous ∷ []) 1 (at + 1) q refl refl (omega arith) in
    let w3 = then w2 (zeros 6) 6 (at + 2) r (zeros_length 6) refl (omega arith) in
    let w4 = then w3 (string_of name) (2 + n) (at + 8) s (string_length name ∙ omega arith) refl (omega arith) in
    let w5 = then w4 (range_bytes kind count range from) (4 * count) (at + (10 + n)) t (range_length kind count range from) (omega arith) (omega arith) in
    let w6 = then w5 (zeros pad) pad (at + end) u (zeros_length pad) (omega arith) (omega arith) in
    let v : pad ≡ head_length kind (length name) - (10 + length name + block_size kind) = rw (← i, ← y, ← j) (omega arith) in
    w6.is ∙ rw (v, j)

-- from the label on

pub tail_size : (n pad a b c : ℕ) → n ≡ 6 + a + b + c → pad ≡ round_up 4 n - n → n + pad ≡ tail_length a b c
unfolding tail_length
tail_size n pad a b c e f = rw (← e) (omega arith)

pub tail_put :
    (d e g h l : List ℕ) (at : ℕ) (a b c : List ℕ) (n pad : ℕ) → n ≡ 6 + length a + length b + length c → pad ≡ round_up 4 n - n → e ≡ put d at (string_of a) →
    g ≡ put e (at + (2 + length a)) (string_of b) → h ≡ put g (at + (4 + length a + length b)) (string_of c) → l ≡ put h (at + n) (zeros pad) →
    at + tail_length (length a) (length b) (length c) ≤ length d → l ≡ put d at (tail_bytes a b c)
unfolding tail_bytes
tail_put d e g h l at a b c n pad i j p q r s k =
    let z = tail_size n pad (length a) (length b) (length c) i j in
    let w1 = first p (string_length a) in
    let w2 = then w1 (string_of b) (2 + length b) (at + (2 + length a)) q (string_length b) refl (omega arith) in
    let w3 = then w2 (string_of c) (2 + length c) (at + (4 + length a + length b)) r (string_length c) (omega arith) (omega arith) in
    let w4 = then w3 (zeros pad) pad (at + n) s (zeros_length pad) (omega arith) (omega arith) in
    let v : pad ≡ tail_length (length a) (length b) (length c) - (6 + length a + length b + length c) = omega arith in
    w4.is ∙ rw v

-- an element's numbers

pub truth_zero : (x : ℕ) → x ≡ 0 → ◌≡◌ {A = ℕ} 0 (pick (eqb x 0) 0 1)
truth_zero x e = rw e

pub truth_other : (x : ℕ) → (x ≡ 0 → ⊥) → ◌≡◌ {A = ℕ} 1 (pick (eqb x 0) 0 1)
truth_other x n = rw (ne_eqb x 0 n)

pub numbers_are :
    (es : List ℕ) (e k c n l d u x y : ℕ) → x ≡ get_or es (e * 14) 0 → k ≡ min x 255 → y ≡ get_or es (e * 14 + 1) 0 → c ≡ pick (eqb y 0) 0 1 → n ≡ get_or es (e * 14 + 2) 0 →
    l ≡ get_or es (e * 14 + 3) 0 → d ≡ get_or es (e * 14 + 4) 0 → u ≡ get_or es (e * 14 + 5) 0 →
    ◌≡◌ {A = Numbers} (record { kind = k; continuous = c; name = n; label = l; description = d; unit = u }) (numbers_at es e)
unfolding numbers_at number_of
numbers_are es e k c n l d u x y o p q r s t v w = let z : e * 14 + 0 ≡ e * 14 = omega arith in rw (p, o, r, q, s, t, v, w, z)
