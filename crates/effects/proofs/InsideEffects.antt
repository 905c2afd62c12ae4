-- Writes inside a record that stands in a buffer: they make the record with those bytes put into it. Assumes nothing.
use Prim.Native.Nat.{ℕ, zero, suc, ◌+◌, ◌*◌, ◌-◌, ◌≤◌, ◌<◌}
use mathlib.Core.Path.{◌≡◌, refl, sym, ap, ◌∙◌}
use mathlib.Core.List.{List}
use native.Mathlib.Omega.{arith}
use lib.ListN.{length}
use borrow.Author.Tests.{le-leb}
use Rattle.wire.specs.Tests.{sum_below}
use Rattle.wire.specs.Bytes.{part, bytes_of, put}
use Rattle.wire.proofs.ByteLaws.{bytes_length}
use Rattle.wire.proofs.PutLaws.{length_put}
use Rattle.wire.proofs.PlaceLaws.{Placed, placed_inside, placed_part, put_there, put_placed, put_inside}
use Rattle.geometry.specs.Sizes.{stored_size, element_bytes}
use Rattle.bodies.specs.TileRecord.{element_content_at}
use Rattle.written_records.specs.Pieces.{checksum_for, sealed}
use Rattle.stores.specs.Stores.{run}
use Rattle.stores.specs.Writes.{one_write, whole_write, seal_write}
use Rattle.pieces.specs.Edits.{resealed, reference_bytes}
use Rattle.correct.specs.Storing.{cells_put}
use Rattle.correct.specs.RecordWrites.{cell_writes, over_writes, reference_write, refer_writes}
use Rattle.effects.proofs.MadeLaws.{run_append}

pub whole_one : (room at : ℕ) (v : List ℕ) → at + length v ≤ room → whole_write room at v ≡ one_write at v
unfolding whole_write
whole_one room at v h = rw (le-leb (at + length v) room h)

pub one_run : (at : ℕ) (v d : List ℕ) → run (one_write at v) d ≡ put d at v
unfolding run one_write
one_run at v d = refl

-- what stands there, put there
put_self : {d r : List ℕ} {x : ℕ} → Placed d x r → put d x r ≡ d
put_self {r} p = put_there p r refl ∙ sym p.whole

-- the checksum made anew
module _ (d : List ℕ) (x flag : ℕ) (r : List ℕ) (h : x + length r ≤ length d) (l : 4 ≤ length r) where
  pub seal_run : (n : ℕ) → n ≡ length r → run (seal_write flag x n (put d x r)) (put d x r) ≡ put d x (resealed flag r)
  unfolding seal_write resealed sealed
  seal_run n e =
      let m : List ℕ = part r 0 (length r - 4) in
      let z : x + 0 ≡ x = omega arith in
      let o : 0 + (length r - 4) ≡ length r - 4 = omega arith in
      let a : part (put d x r) x (length r - 4) ≡ m = rw z at (placed_part (put_placed d x r h) 0 (length r - 4) (omega arith)) in
      let b = bytes_length 4 (checksum_for flag m) in
      ap (λ (k : ℕ). run (one_write (x + (k - 4)) (bytes_of 4 (checksum_for flag (part (put d x r) x (k - 4))))) (put d x r)) e
      ∙ one_run _ _ (put d x r)
      ∙ ap (λ (y : List ℕ). put (put d x r) (x + (length r - 4)) (bytes_of 4 (checksum_for flag y))) a
      ∙ put_inside d r x (length r - 4) (bytes_of 4 (checksum_for flag m)) h (omega arith)
      ∙ ap (λ (k : ℕ). put d x (put r k (bytes_of 4 (checksum_for flag m)))) (sym o)

module _ {d r : List ℕ} {x : ℕ} (p : Placed d x r) where
  -- a reference, and the checksum
  pub refer_run :
      (flag w i content n : ℕ) → n ≡ length r → length (reference_bytes w content) ≡ w → 32 + w * i + w ≤ length r →
      run (refer_writes flag x n w i content d) d ≡ put d x (resealed flag (put r (32 + w * i) (reference_bytes w content)))
  unfolding refer_writes reference_write
  refer_run flag w i content n e k h =
      let v = reference_bytes w content in
      let at = 32 + w * i in
      let q = put r at v in
      let f : x + length r ≤ length d = placed_inside p in
      let l : length q ≡ length r = length_put r at v in
      let a : run (whole_write (length d) (x + at) v) d ≡ put d x q =
      ap (λ (ws : _). run ws d) (whole_one (length d) (x + at) v (omega arith)) ∙ one_run (x + at) v d
      ∙ ap (λ (y : List ℕ). put y (x + at) v) (sym (put_self p)) ∙ put_inside d r x at v f (omega arith) in
      run_append (whole_write (length d) (x + at) v) (seal_write flag x n (run (whole_write (length d) (x + at) v) d)) d
      ∙ ap (λ (y : List ℕ). run (seal_write flag x n y) y) a ∙ seal_run d x flag q (omega arith) (omega arith) n (e ∙ sym l)

  -- the cell bytes of a plain tile record of page s, and the checksum
  module _ (s c : List ℕ) where
    pub cells_long : (n : ℕ) → length (cells_put s c n r) ≡ length r
    unfolding cells_put
    cells_long zero = refl
    cells_long (suc e) = length_put (cells_put s c e r) (element_content_at r 0 e) (part c (sum_below e (element_bytes s)) (element_bytes s e)) ∙ cells_long e

    cells_run :
        (n : ℕ) →
        ((e : ℕ) → e < n →
        (element_content_at r 0 e ≡ 16 + sum_below e (λ j. stored_size (element_bytes s j)))
        × (element_content_at r 0 e + length (part c (sum_below e (element_bytes s)) (element_bytes s e)) ≤ length r)) →
        run (cell_writes x (element_bytes s) c n) d ≡ put d x (cells_put s c n r)
    unfolding cell_writes cells_put run
    cells_run zero h = sym (put_self p)
    cells_run (suc e) h =
        let v = part c (sum_below e (element_bytes s)) (element_bytes s e) in
        let at = element_content_at r 0 e in
        let q = cells_put s c e r in
        let g : (at ≡ 16 + sum_below e (λ j. stored_size (element_bytes s j))) × (at + length v ≤ length r) = h e (omega arith) in
        let a : x + 16 + sum_below e (λ j. stored_size (element_bytes s j)) ≡ x + at = omega (arith, g.0) in
        let l : length q ≡ length r = cells_long e in
        let f : x + length r ≤ length d = placed_inside p in
        run_append (cell_writes x (element_bytes s) c e) (one_write (x + 16 + sum_below e (λ j. stored_size (element_bytes s j))) v) d
        ∙ one_run _ v (run (cell_writes x (element_bytes s) c e) d)
        ∙ ap (λ (k : ℕ). put (run (cell_writes x (element_bytes s) c e) d) k v) a
        ∙ ap (λ (y : List ℕ). put y (x + at) v) (cells_run e (λ j i. h j (omega arith)))
        ∙ put_inside d q x at v (omega arith) (omega (arith, g.1))

    pub over_run :
        (flag n m : ℕ) → n ≡ length r → 4 ≤ length r →
        ((e : ℕ) → e < m →
        (element_content_at r 0 e ≡ 16 + sum_below e (λ j. stored_size (element_bytes s j)))
        × (element_content_at r 0 e + length (part c (sum_below e (element_bytes s)) (element_bytes s e)) ≤ length r)) →
        run (over_writes flag x n (element_bytes s) m c d) d ≡ put d x (resealed flag (cells_put s c m r))
    unfolding over_writes
    over_run flag n m e k h =
        let l = cells_long m in
        run_append (cell_writes x (element_bytes s) c m) (seal_write flag x n (run (cell_writes x (element_bytes s) c m) d)) d
        ∙ ap (λ (y : List ℕ). run (seal_write flag x n y) y) (cells_run m h)
        ∙ seal_run d x flag (cells_put s c m r) (omega (arith, placed_inside p)) (omega arith) n (e ∙ sym l)
