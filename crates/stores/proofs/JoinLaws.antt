-- Writes one behind the other are as one, wherever they stop. Assumes nothing.
use Prim.Native.Nat.{ℕ, zero, suc, ◌+◌, ◌-◌, ◌≤◌, ◌<◌}
use mathlib.Core.Path.{◌≡◌, sym, refl, ap, ◌∙◌}
use mathlib.Core.List.{List, [], ◌∷◌, ◌++◌}
use mathlib.Core.Bool.{true, false}
use mathlib.Core.Logic.{by_cases}
use native.Mathlib.Decide.{dec_le}
use native.Mathlib.Omega.{arith}
use lib.ListN.{length, take, length-append}
use lib.Seq.{take-append-le}
use lib.Dec.{leb}
use borrow.Author.Tests.{le-leb, lt-leb}
use Rattle.wire.specs.Bytes.{part, bytes_of, put}
use Rattle.wire.proofs.ByteLaws.{bytes_length}
use Rattle.wire.proofs.PutLaws.{put_nil, put_put, put_part}
use Rattle.written_records.specs.Pieces.{checksum_for}
use Rattle.stores.specs.Stores.{Write, run, store_count, first_bytes, cut, stopped}
use Rattle.stores.specs.Writes.{one_write, whole_write, seal_write}
use Rattle.stores.proofs.StoreLaws.{take_more, first_length, stopped_none, then_left, then_holds, length_stopped}
use Rattle.stores.proofs.WriteLaws.{one_count, one_stopped}

-- what a call says: of k byte stores it made those of xs, m are left, and d became l
pub record Ran (k : ℕ) (xs : List Write) (d : List ℕ) (m : ℕ) (l : List ℕ) : Type 0 where
  pub left : m ≡ k - store_count xs
  pub holds : l ≡ stopped k xs d

module _ {k : ℕ} {xs : List Write} {d : List ℕ} {m : ℕ} {l : List ℕ} where
  pub ran : (m ≡ k - store_count xs) × (l ≡ stopped k xs d) → Ran k xs d m l
  ran p = record { left = p.0; holds = p.1 }

  pub told : Ran k xs d m l → (m ≡ k - store_count xs) × (l ≡ stopped k xs d)
  told p = (p.left, p.holds)

  -- two calls, one behind the other; the second may depend on what the first leaves
  pub ran_on : (more : List ℕ → List Write) {r : ℕ} {o : List ℕ} → Ran k xs d m l → Ran m (more l) l r o → Ran k (xs ++ more (run xs d)) d r o
  ran_on more {r} {o} p q =
      record {
        left = then_left k xs more d m r p.left p.holds q.left;
        holds = then_holds k xs more d m o p.left p.holds q.holds;
      }

  pub ran_then : {ys : List Write} {r : ℕ} {o : List ℕ} → Ran k xs d m l → Ran m ys l r o → Ran k (xs ++ ys) d r o
  ran_then {ys} p q = ran_on (λ z. ys) p q

  -- the buffer keeps its length
  pub ran_room : Ran k xs d m l → length l ≡ length d
  ran_room p = ap length p.holds ∙ length_stopped k xs d

pub ran_none : (k : ℕ) (d : List ℕ) → Ran k [] d k d
unfolding store_count stopped run cut
ran_none k d = record { left = omega arith; holds = refl }

-- the first bytes of two lists in a row

take_past : (k : ℕ) (v w : List ℕ) → length v ≤ k → take k (v ++ w) ≡ v ++ take (k - length v) w
take_past k [] w h = let e : k ≡ k - 0 = omega arith in ap (λ (j : ℕ). take j w) e
take_past zero (x ∷ v) w h = absurd (omega arith)
take_past (suc k) (x ∷ v) w h =
    let e : suc k - suc (length v) ≡ k - length v = omega arith in
    ap (λ (l : List ℕ). x ∷ l) (take_past k v w (omega arith) ∙ ap (λ (j : ℕ). v ++ take j w) (sym e))

first_past : (k : ℕ) (v w : List ℕ) → length v ≤ k → first_bytes k (v ++ w) ≡ v ++ first_bytes (k - length v) w
unfolding first_bytes
first_past k v w h = take_past k v w h

first_within : (k : ℕ) (v w : List ℕ) → k ≤ length v → first_bytes k (v ++ w) ≡ first_bytes k v
unfolding first_bytes
first_within k v w h = take-append-le k v w h

first_whole : (k : ℕ) (v : List ℕ) → length v ≤ k → first_bytes k v ≡ v
unfolding first_bytes
first_whole k v h = take_more k v h

first_none : (w : List ℕ) → first_bytes 0 w ≡ []
unfolding first_bytes
first_none [] = refl
first_none (x ∷ w) = refl

-- two writes, the second where the first ends
module _ (k at : ℕ) (v w d : List ℕ) (h : at + length v + length w ≤ length d) where
  pub one_then : stopped (k - length v) (one_write (at + length v) w) (stopped k (one_write at v) d) ≡ stopped k (one_write at (v ++ w)) d
  one_then =
      let x = first_bytes (k - length v) w in
      one_stopped (k - length v) (at + length v) w (stopped k (one_write at v) d)
      ∙ ap (λ (l : List ℕ). put l (at + length v) x) (one_stopped k at v d)
      ∙ by_cases (dec_le (length v) k)
      (λ g.
      let s : length x ≤ length w = first_length (k - length v) w in
      ap (λ (u : List ℕ). put (put d at u) (at + length v) x) (first_whole k v g) ∙ put_put d at v x (omega arith)
      ∙ ap (put d at) (sym (first_past k v w g)))
      (λ g.
      let z : k - length v ≡ 0 = omega arith in
      ap (put (put d at (first_bytes k v)) (at + length v)) (ap (λ (j : ℕ). first_bytes j w) z ∙ first_none w)
      ∙ put_nil (put d at (first_bytes k v)) (at + length v) ∙ ap (put d at) (sym (first_within k v w (omega arith))))
      ∙ sym (one_stopped k at (v ++ w) d)

-- k byte stores were there, and m of them are left behind v, n bytes, at a position of d
pub record Stored (k : ℕ) (d : List ℕ) (at : ℕ) (v : List ℕ) (n m : ℕ) (l : List ℕ) : Type 0 where
  pub long : length v ≡ n
  pub left : m ≡ k - n
  pub holds : l ≡ stopped k (one_write at v) d

pub stored_none : (k : ℕ) (d : List ℕ) (at : ℕ) → Stored k d at [] 0 k d
unfolding first_bytes
stored_none k d at = record { long = refl; left = omega arith; holds = sym (one_stopped k at [] d ∙ nothing k) }
  where
    nothing : (k : ℕ) → put d at (first_bytes k []) ≡ d
    nothing zero = put_nil d at
    nothing (suc k) = put_nil d at

pub stored_first :
    {k : ℕ} {d : List ℕ} {at : ℕ} {v : List ℕ} {n m : ℕ} {l : List ℕ} → Ran k (one_write at v) d m l → length v ≡ n → Stored k d at v n m l
stored_first {k} {d} {at} {v} p g = record { long = g; left = omega (arith, p.left, one_count at v); holds = p.holds }

module _ {k : ℕ} {d : List ℕ} {at : ℕ} {v : List ℕ} {n m : ℕ} {l : List ℕ} (s : Stored k d at v n m l) where
  -- as a call says it
  pub stored_ran : Ran k (one_write at v) d m l
  stored_ran = record { left = omega (arith, s.left, s.long, one_count at v); holds = s.holds }

  -- one write more, of w, j bytes, where the last one ended
  pub stored_then :
      (w : List ℕ) (j at' : ℕ) {m' : ℕ} {l' : List ℕ} → Ran m (one_write at' w) l m' l' → length w ≡ j → at' ≡ at + n → at + n + j ≤ length d →
      Stored k d at (v ++ w) (n + j) m' l'
  stored_then w j at' p g a h =
      let c = one_count at' w in
      let q : at' ≡ at + length v = omega (arith, s.long) in
      let x : m ≡ k - length v = omega (arith, s.long, s.left) in
      let o : at + length v + length w ≤ length d = omega (arith, s.long) in
      record {
        long = length-append v w ∙ omega (arith, s.long);
        left = omega (arith, s.left, p.left);
        holds = rw (x, q, s.holds) at p.holds ∙ one_then k at v w d o;
      }

  -- the checksum of it, over the buffer's own bytes; where v is cut short nothing is left to write it
  seal_same :
      (flag n' : ℕ) → n' ≡ n + 4 → at + n ≤ length d →
      stopped m (seal_write flag at n' l) l ≡ stopped m (one_write (at + n) (bytes_of 4 (checksum_for flag v))) l
  unfolding seal_write
  seal_same flag n' g h =
      let a : n' - 4 ≡ n = omega arith in
      by_cases (dec_le n k)
      (λ i.
      let p : l ≡ put d at v = s.holds ∙ one_stopped k at v d ∙ ap (put d at) (first_whole k v (omega (arith, s.long))) in
      let q : part (put d at v) at (length v) ≡ v = put_part d at v (omega (arith, s.long)) in
      let e : part l at n ≡ v = ap (λ (x : List ℕ). part x at n) p ∙ ap (part (put d at v) at) (sym s.long) ∙ q in
      ap (λ (j : ℕ). stopped m (one_write (at + j) (bytes_of 4 (checksum_for flag (part l at j)))) l) a
      ∙ ap (λ (x : List ℕ). stopped m (one_write (at + n) (bytes_of 4 (checksum_for flag x))) l) e)
      (λ i.
      let z : m ≡ 0 = omega (arith, s.left) in
      ap (λ (j : ℕ). stopped j (one_write (at + (n' - 4)) (bytes_of 4 (checksum_for flag (part l at (n' - 4))))) l) z
      ∙ stopped_none (one_write (at + (n' - 4)) (bytes_of 4 (checksum_for flag (part l at (n' - 4))))) l
      ∙ sym (stopped_none (one_write (at + n) (bytes_of 4 (checksum_for flag v))) l)
      ∙ ap (λ (j : ℕ). stopped j (one_write (at + n) (bytes_of 4 (checksum_for flag v))) l) (sym z))

  seal_count : (flag n' : ℕ) → store_count (seal_write flag at n' l) ≡ 4
  unfolding seal_write
  seal_count flag n' =
      let x = checksum_for flag (part l at (n' - 4)) in
      one_count (at + (n' - 4)) (bytes_of 4 x) ∙ bytes_length 4 x

  pub stored_seal :
      (flag n' : ℕ) {m' : ℕ} {l' : List ℕ} → Ran m (seal_write flag at n' l) l m' l' → n' ≡ n + 4 → at + n + 4 ≤ length d →
      Stored k d at (v ++ bytes_of 4 (checksum_for flag v)) (n + 4) m' l'
  stored_seal flag n' {m'} {l'} p g h =
      let w = bytes_of 4 (checksum_for flag v) in
      let b = bytes_length 4 (checksum_for flag v) in
      let q : Ran m (one_write (at + n) w) l m' l' =
      record {
        left = omega (arith, p.left, seal_count flag n', one_count (at + n) w);
        holds = p.holds ∙ seal_same flag n' g (omega arith);
      } in
      stored_then w 4 (at + n) q b refl h

  -- as a write of the whole, which fits
  pub whole_in : at + n ≤ length d → Ran k (whole_write (length d) at v) d m l
  unfolding whole_write
  whole_in h =
      let f : at + length v ≤ length d = omega (arith, s.long) in
      let e : leb (at + length v) (length d) ≡ true = le-leb (at + length v) (length d) f in
      rw e stored_ran

-- or does not
pub whole_out : (k at : ℕ) (v d : List ℕ) {n : ℕ} → length v ≡ n → length d < at + n → Ran k (whole_write (length d) at v) d k d
unfolding whole_write
whole_out k at v d e h =
    let g : length d < at + length v = omega arith in
    let f : leb (at + length v) (length d) ≡ false = lt-leb (at + length v) (length d) g in
    rw f (ran_none k d)
