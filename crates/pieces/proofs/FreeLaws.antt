-- Free records, and adjoining ones made one. Assumes nothing.
use Prim.Native.Nat.{ℕ, ◌+◌, ◌-◌, ◌≤◌, ◌%◌}
use mathlib.Core.Path.{◌≡◌, refl, sym, ◌∙◌}
use mathlib.Core.List.{List, [], ◌∷◌, ◌++◌}
use mathlib.Core.Bool.{Bool, true, false, ◌&&◌}
use native.Mathlib.Omega.{arith}
use lib.ListN.{length, length-append}
use Rattle.wire.specs.Pick.{pick}
use Rattle.wire.specs.Bytes.{bytes_of, zeros, largest_integer}
use Rattle.wire.proofs.ByteLaws.{bytes_length, zeros_length}
use Rattle.wire.proofs.PlaceLaws.{Placed, placed_self, placed_first}
use Rattle.record.specs.Record.{length_at, type_at, record_ok}
use Rattle.record.specs.Chain.{joined, WellFormed}
use Rattle.record.proofs.ChainLaws.{ok_means, means_ok}
use Rattle.written_records.specs.Pieces.{record_head, checksum_for}
use Rattle.written_records.proofs.PieceLaws.{head_length_lem, head_stated, head_kind}
use Rattle.pieces.specs.Pieces.{free_record, is_free, attach, join_free, nothing_to_join, JoinFree}

module _ (flag n : ℕ) (h : 16 ≤ n) where
  pub free_length : length (free_record flag n) ≡ n
  unfolding free_record
  free_length =
      let k = checksum_for flag (record_head n 0) in
      let a = length-append (record_head n 0 ++ zeros (n - 12)) (bytes_of 4 k) in
      let b = length-append (record_head n 0) (zeros (n - 12)) in
      omega (arith, a, b, head_length_lem n 0, zeros_length (n - 12), bytes_length 4 k)

  pub free_head : Placed (free_record flag n) 0 (record_head n 0)
  unfolding free_record
  free_head =
      placed_first (record_head n 0) (zeros (n - 12))
      (placed_first (record_head n 0 ++ zeros (n - 12)) (bytes_of 4 (checksum_for flag (record_head n 0))) (placed_self _))

  pub free_stated : n ≤ largest_integer → length_at (free_record flag n) 0 ≡ n
  free_stated k = head_stated n 0 free_head (omega arith)

  pub free_type_lem : type_at (free_record flag n) 0 ≡ 0
  free_type_lem = head_kind n 0 free_head

  pub free_ok : n ≤ largest_integer → n % 8 ≡ 0 → record_ok (free_record flag n) 0 ≡ true
  free_ok k m =
      let l = free_stated k in let e = free_length in let t = free_type_lem in
      means_ok (free_record flag n) 0 (record { long = omega arith; plain = omega arith; eights = rw l m; inside = omega arith; known = omega arith })

-- the records keep their length in all, and stay records
attach_length : (flag : ℕ) (r : List ℕ) (qs : List (List ℕ)) → 16 ≤ length r → length (joined (attach flag r qs)) ≡ length r + length (joined qs)
unfolding attach
attach_length flag r [] h = length-append r []
attach_length flag r (q ∷ qs) h = go (is_free r && is_free q)
  where
    go : (b : Bool) → length (joined (pick b (free_record flag (length r + length q) ∷ qs) (r ∷ q ∷ qs))) ≡ length r + length (joined (q ∷ qs))
    go true =
        let a = length-append (free_record flag (length r + length q)) (joined qs) in let b = length-append q (joined qs) in
        omega (arith, free_length flag (length r + length q) (omega arith), a, b)
    go false = let a = length-append r (q ++ joined qs) in a

pub join_length : (flag : ℕ) (rs : List (List ℕ)) → WellFormed rs → length (joined (join_free flag rs)) ≡ length (joined rs)
unfolding join_free
join_length flag [] w = refl
join_length flag (r ∷ rs) w =
    let i = ok_means r 0 w.0.0 in
    let l : 16 ≤ length r = let e = w.0.1 in let m = i.long in omega arith in
    let a = attach_length flag r (join_free flag rs) l in let b = join_length flag rs w.1 in let c = length-append r (joined rs) in
    omega arith

attach_well :
    (flag : ℕ) (r : List ℕ) (qs : List (List ℕ)) → WellFormed (r ∷ qs) → length (joined (r ∷ qs)) ≤ largest_integer → WellFormed (attach flag r qs)
unfolding attach
attach_well flag r [] w h = w
attach_well flag r (q ∷ qs) w h = go (is_free r && is_free q)
  where
    go : (b : Bool) → WellFormed (pick b (free_record flag (length r + length q) ∷ qs) (r ∷ q ∷ qs))
    go true =
        let i = ok_means r 0 w.0.0 in let j = ok_means q 0 w.1.0.0 in
        let a : length_at r 0 ≡ length r = w.0.1 in let b : length_at q 0 ≡ length q = w.1.0.1 in
        let c = length-append r (q ++ joined qs) in let d = length-append q (joined qs) in
        let x = i.long in let y = i.eights in let z = j.eights in
        let k : 16 ≤ length r + length q = omega arith in
        let m : length r + length q ≤ largest_integer = omega arith in
        ((free_ok flag (length r + length q) k m (omega arith), free_stated flag (length r + length q) k m ∙ sym (free_length flag (length r + length q) k)), w.1.1)
    go false = w

pub join_well : (flag : ℕ) (rs : List (List ℕ)) → WellFormed rs → length (joined rs) ≤ largest_integer → WellFormed (join_free flag rs)
unfolding join_free
join_well flag [] w h = _
join_well flag (r ∷ rs) w h =
    let a = length-append r (joined rs) in let b = join_length flag rs w.1 in let c = length-append r (joined (join_free flag rs)) in
    attach_well flag r (join_free flag rs) (w.0, join_well flag rs w.1 (omega arith)) (omega arith)

-- and nothing is left to join
pub free_is : (flag : ℕ) (n : ℕ) → 16 ≤ n → is_free (free_record flag n) ≡ true
unfolding is_free
free_is flag n h = rw (free_type_lem flag n h)

attach_none :
    (flag : ℕ) (r : List ℕ) (qs : List (List ℕ)) → 16 ≤ length r → nothing_to_join qs ≡ true → nothing_to_join (attach flag r qs) ≡ true
unfolding attach nothing_to_join
attach_none flag r [] h e = refl
attach_none flag r (q ∷ qs) h e = go (is_free r) (is_free q) refl refl
  where
    head_free_lem : (zs : List (List ℕ)) (f : List ℕ) → is_free q ≡ true → is_free f ≡ true → nothing_to_join (q ∷ zs) ≡ true → nothing_to_join (f ∷ zs) ≡ true
    head_free_lem [] f i j k = refl
    head_free_lem (z ∷ zs) f i j k = let m = rw i at k in rw j m

    kept : (a b : Bool) → is_free r ≡ a → is_free q ≡ b → (a && b) ≡ false → nothing_to_join (r ∷ q ∷ qs) ≡ true
    kept a b i j k = rw (i, j, k) e

    go : (a b : Bool) → is_free r ≡ a → is_free q ≡ b → nothing_to_join (pick (is_free r && is_free q) (free_record flag (length r + length q) ∷ qs) (r ∷ q ∷ qs)) ≡ true
    go true true i j = rw (i, j) (head_free_lem qs (free_record flag (length r + length q)) j (free_is flag (length r + length q) (omega arith)) e)
    go true false i j = rw (i, j) (kept true false i j refl)
    go false b i j = rw i (kept false b i j refl)

pub join_none : (flag : ℕ) (rs : List (List ℕ)) → WellFormed rs → nothing_to_join (join_free flag rs) ≡ true
unfolding join_free nothing_to_join
join_none flag [] w = refl
join_none flag (r ∷ rs) w =
    let i = ok_means r 0 w.0.0 in
    let l : 16 ≤ length r = let e = w.0.1 in let m = i.long in omega arith in
    attach_none flag r (join_free flag rs) l (join_none flag rs w.1)

pub join_free_lem : JoinFree
join_free_lem flag rs w h = record { long = join_length flag rs w; formed = join_well flag rs w h; none = join_none flag rs w }
