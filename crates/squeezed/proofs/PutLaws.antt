-- Fields put into a record, one behind the other. Assumes nothing.
use Prim.Native.Nat.{ℕ, zero, suc, ◌+◌, ◌≤◌, ◌<◌}
use mathlib.Core.Path.{◌≡◌, refl, sym, ap, ◌∙◌}
use mathlib.Core.Logic.{◌⊎◌, inl, by_cases}
use mathlib.Core.List.{List}
use native.Mathlib.Decide.{dec_le}
use native.Mathlib.Omega.{arith}
use lib.ListN.{length}
use Rattle.wire.specs.Bytes.{Bytes, part, put, Same}
use Rattle.wire.proofs.ByteLaws.{part_same, same_trans}
use Rattle.wire.proofs.PutLaws.{length_put, put_part, put_same, bytes_put}
use Rattle.written_records.proofs.SealLaws.{sealed_same}
use Rattle.pieces.specs.Edits.{resealed}
use Rattle.written_records.specs.Pieces.{sealed}
use Rattle.correct.specs.Renamed.{put_each}

module _ (at : ℕ → ℕ) (v : ℕ → List ℕ) (r : List ℕ) where
  pub each_length : (n : ℕ) → length (put_each at v n r) ≡ length r
  unfolding put_each
  each_length zero = refl
  each_length (suc n) = length_put (put_each at v n r) (at n) (v n) ∙ each_length n

  pub each_bytes : Bytes r → ((i : ℕ) → Bytes (v i)) → (n : ℕ) → Bytes (put_each at v n r)
  unfolding put_each
  each_bytes b f zero = b
  each_bytes b f (suc n) = bytes_put (at n) (each_bytes b f n) (f n)

  -- beside all of them the record is as it was
  pub each_beside : (n a b : ℕ) → b ≤ length r → ((i : ℕ) → i < n → (b ≤ at i) ⊎ (at i + length (v i) ≤ a)) → Same r (put_each at v n r) a b
  unfolding put_each
  each_beside zero a b h o = record { in_first = h; in_second = h; each = λ i l m. refl }
  each_beside (suc n) a b h o =
      same_trans (each_beside n a b h (λ i l. o i (omega arith)))
      (put_same (put_each at v n r) (at n) (v n) a b (omega (arith, each_length n)) (o n (omega arith)))

  -- each reads back, where none behind it reaches into it
  pub each_there :
      (n k : ℕ) → k < n → at k + length (v k) ≤ length r → ((i : ℕ) → k < i → i < n → at k + length (v k) ≤ at i) →
      part (put_each at v n r) (at k) (length (v k)) ≡ v k
  unfolding put_each
  each_there zero k l h o = absurd (omega arith)
  each_there (suc n) k l h o =
      by_cases (dec_le n k)
      (λ g.
      let e : k ≡ n = omega arith in
      let y : at n + length (v n) ≤ length (put_each at v n r) = omega (arith, each_length n, ap at e, ap (λ (i : ℕ). length (v i)) e) in
      rw e (put_part (put_each at v n r) (at n) (v n) y))
      (λ g.
      let q : Same (put_each at v n r) (put (put_each at v n r) (at n) (v n)) (at k) (at k + length (v k)) =
      put_same (put_each at v n r) (at n) (v n) (at k) (at k + length (v k)) (omega (arith, each_length n)) (inl (o n (omega arith) (omega arith))) in
      sym (part_same q (at k) (length (v k)) (omega arith) (omega arith)) ∙ each_there n k (omega arith) h (λ i a b. o i a (omega arith)))

-- sealing changes the last four bytes alone
pub resealed_same : (flag : ℕ) (r : List ℕ) → 16 ≤ length r → (a b : ℕ) → b + 4 ≤ length r → Same r (resealed flag r) a b
unfolding resealed
resealed_same flag r h a b l = sealed_same flag r 0 (length r) (omega arith) (omega arith) a b (omega arith)

pub resealed_length : (flag : ℕ) (r : List ℕ) → length (resealed flag r) ≡ length r
unfolding resealed sealed
resealed_length flag r = length_put r _ _
