-- A record moved down with fields put into it, lowest byte first: what is stored is the first bytes of the record with the fields so far.
-- Assumes nothing.
use Prim.Native.Nat.{ℕ, suc, ◌+◌, ◌-◌, ◌≤◌}
use mathlib.Core.Path.{◌≡◌, refl, sym, ap, ap₂, ◌∙◌}
use mathlib.Core.Logic.{inl, inr}
use mathlib.Core.List.{List, ◌++◌}
use native.Mathlib.Omega.{arith}
use native.Mathlib.Numerals.{add-one}
use lib.ListN.{length}
use Rattle.wire.specs.Bytes.{part, put, bytes_of, Same}
use Rattle.wire.proofs.ByteLaws.{part_length, part_split, part_same, part_whole, same_part, same_trans, bytes_length}
use Rattle.wire.proofs.PutLaws.{length_put, put_part, put_same}
use Rattle.wire.proofs.PlaceLaws.{part_placed, placed_part, put_last}
use Rattle.written_records.specs.Pieces.{checksum_for, sealed}
use Rattle.pieces.specs.Edits.{resealed}
use Rattle.stores.specs.Writes.{one_write, seal_write}
use Rattle.stores.proofs.JoinLaws.{Ran, Stored, stored_none, stored_first, stored_then, stored_seal, stored_ran}
use Rattle.correct.specs.Renamed.{put_each}
use Rattle.edit_walks.proofs.AfterLaws.{After, after_run}
use Rattle.squeezed.proofs.PutLaws.{each_length}
use Rattle.squeeze.specs.Fields.{unsealed}
use Rattle.squeeze.proofs.MoveLaws.{part_none}

-- the first bytes, and those behind them
first_split : (r : List ℕ) (a b : ℕ) → a + b ≤ length r → part r 0 (a + b) ≡ part r 0 a ++ part r a b
first_split r a b h = let z : 0 + a ≡ a = omega arith in part_split r 0 a b (omega arith) ∙ ap (λ (c : ℕ). part r 0 a ++ part r c b) z

-- what is stored before a position leaves the buffer from there on
pub stored_after : {k : ℕ} {d : List ℕ} {at : ℕ} {v : List ℕ} {n m : ℕ} {l : List ℕ} → Stored k d at v n m l → After l d (at + n)
unfolding one_write
stored_after {k} {d} {at} {v} {n} s = rw s.holds (after_run k (one_write at v) d (at + n) (λ b. (inl (omega (arith, s.long)), tt)))

-- the first p bytes of r with i fields are stored at `to`
pub record Filling (k : ℕ) (d : List ℕ) (to : ℕ) (r : List ℕ) (at : ℕ → ℕ) (v : ℕ → List ℕ) (i p m : ℕ) (l : List ℕ) : Type 0 where
  pub stored : Stored k d to (part (put_each at v i r) 0 p) p m l
  pub ahead : Same r (put_each at v i r) p (length r)
  pub inside : p ≤ length r

pub fill_none : (k : ℕ) (d : List ℕ) (to : ℕ) (r : List ℕ) (at : ℕ → ℕ) (v : ℕ → List ℕ) → Filling k d to r at v 0 0 k d
unfolding put_each
fill_none k d to r at v =
    let e = part_none r 0 (omega arith) in
    record {
      stored = rw e (stored_none k d to);
      ahead = record { in_first = omega arith; in_second = omega arith; each = λ i a b. refl };
      inside = omega arith;
    }

module _ {k : ℕ} {d : List ℕ} {to : ℕ} {r : List ℕ} {at : ℕ → ℕ} {v : ℕ → List ℕ} {i p m : ℕ} {l : List ℕ} (f : Filling k d to r at v i p m l) where
  abbrev E : List ℕ
  E = put_each at v i r

  E-long : length E ≡ length r
  E-long = each_length at v r i

  pub fill_after : After l d (to + p)
  fill_after = stored_after f.stored

  pub fill_room : length l ≡ length d
  fill_room = fill_after.long

  -- what stands up to q, moved
  pub fill_move :
      (from n q : ℕ) {m' : ℕ} {l' : List ℕ} → Ran m (one_write (to + p) (part l (from + p) (q - p))) l m' l' → r ≡ part d from n → from + n ≤ length d →
      to ≤ from → p ≤ q → q ≤ n → Filling k d to r at v i q m' l'
  fill_move from n q {m'} {l'} w e h t a b =
      let g : length r ≡ n = ap length e ∙ part_length d from n h in
      let a2 : Same l d (from + p) (from + q) =
      record { in_first = omega (arith, fill_room); in_second = omega arith; each = λ j x y. fill_after.each j (omega arith) } in
      let c : part l (from + p) (q - p) ≡ part d (from + p) (q - p) = part_same a2 (from + p) (q - p) (omega arith) (omega arith) in
      let o : part d (from + p) (q - p) ≡ part r p (q - p) =
      placed_part (part_placed d from n h) p (q - p) (omega (arith, part_length d from n h)) ∙ ap (λ (x : List ℕ). part x p (q - p)) (sym e) in
      let u : part r p (q - p) ≡ part E p (q - p) = part_same f.ahead p (q - p) (omega arith) (omega arith) in
      let y : part l (from + p) (q - p) ≡ part E p (q - p) = c ∙ o ∙ u in
      let z : p + (q - p) ≡ q = omega arith in
      let w2 : Ran m (one_write (to + p) (part E p (q - p))) l m' l' = rw y at w in
      let j : length (part E p (q - p)) ≡ q - p = part_length E p (q - p) (omega (arith, E-long)) in
      let st : Stored k d to (part E 0 p ++ part E p (q - p)) (p + (q - p)) m' l' = stored_then f.stored (part E p (q - p)) (q - p) (to + p) w2 j refl (omega arith) in
      let sp : part E 0 (p + (q - p)) ≡ part E 0 p ++ part E p (q - p) = first_split E p (q - p) (omega (arith, E-long)) in
      let st2 : Stored k d to (part E 0 (p + (q - p))) (p + (q - p)) m' l' = rw (← sp) at st in
      record { stored = rw z at st2; ahead = same_part f.ahead q (length r) a (omega arith); inside = omega arith }

  -- field number i
  pub fill_put :
      (u : List ℕ) (w : ℕ) {m' : ℕ} {l' : List ℕ} → Ran m (one_write (to + p) u) l m' l' → at i ≡ p → v i ≡ u → length u ≡ w → p + w ≤ length r →
      to + length r ≤ length d → Filling k d to r at v (i + 1) (p + w) m' l'
  unfolding put_each
  fill_put u w {m'} {l'} q a b c h g =
      let F = put E p u in
      let F-is : put_each at v (suc i) r ≡ F = ap₂ (put E) a b in
      let el = E-long in
      let fl : length F ≡ length r = length_put E p u ∙ E-long in
      let s1 : Same E F 0 p = put_same E p u 0 p (omega arith) (inl (omega arith)) in
      let first : part E 0 p ≡ part F 0 p = part_same s1 0 p (omega arith) (omega arith) in
      let mid : part F p w ≡ u = ap (part F p) (sym c) ∙ put_part E p u (omega arith) in
      let sp : part F 0 (p + w) ≡ part F 0 p ++ part F p w = first_split F p w (omega arith) in
      let is : part F 0 (p + w) ≡ part E 0 p ++ u = sp ∙ ap₂ (λ (x y : List ℕ). x ++ y) (sym first) mid in
      let st : Stored k d to (part E 0 p ++ u) (p + w) m' l' = stored_then f.stored u w (to + p) q c refl (omega arith) in
      let st2 : Stored k d to (part F 0 (p + w)) (p + w) m' l' = rw (← is) at st in
      let s2 : Same E F (p + w) (length r) = put_same E p u (p + w) (length r) (omega arith) (inr (omega arith)) in
      let s3 : Same r F (p + w) (length r) = same_trans (same_part f.ahead (p + w) (length r) (omega arith) (omega arith)) s2 in
      rw (add-one i)
      (record { stored = rw F-is st2; ahead = rw F-is s3; inside = h })

-- the checksum behind it
pub fill_seal :
    {k : ℕ} {d : List ℕ} (to flag n : ℕ) (R : List ℕ) {a r : ℕ} {l o : List ℕ} → Ran k (one_write to (unsealed R n)) d a l → Ran a (seal_write flag to n l) l r o →
    length R ≡ n → 4 ≤ n → to + n ≤ length d → Ran k (one_write to (resealed flag R)) d r o
unfolding unsealed resealed sealed
fill_seal {k} {d} to flag n R {a} {r} {l} {o} p q e h g =
    let v = part R 0 (n - 4) in
    let j : length v ≡ n - 4 = part_length R 0 (n - 4) (omega arith) in
    let s : Stored k d to v (n - 4) a l = stored_first p j in
    let t = stored_seal s flag n q (omega arith) (omega arith) in
    let c = bytes_of 4 (checksum_for flag v) in
    let cl = bytes_length 4 (checksum_for flag v) in
    let z : n - 4 + 4 ≡ n = omega arith in
    let sp : part R 0 (n - 4 + 4) ≡ v ++ part R (n - 4) 4 = first_split R (n - 4) 4 (omega arith) in
    let y : R ≡ v ++ part R (n - 4) 4 = sym (part_whole R) ∙ ap (part R 0) (e ∙ sym z) ∙ sp in
    let pl = part_length R (n - 4) 4 (omega arith) in
    let x : put R (n - 4) c ≡ v ++ c = ap (λ (b : List ℕ). put b (n - 4) c) y ∙ put_last v (part R (n - 4) 4) c j (omega arith) in
    let zz : 0 + (n - 4) ≡ n - 4 = omega arith in
    let x2 : put R (0 + (length R - 4)) (bytes_of 4 (checksum_for flag (part R 0 (length R - 4)))) ≡ v ++ c =
    ap (λ (b : ℕ). put R (0 + (b - 4)) (bytes_of 4 (checksum_for flag (part R 0 (b - 4))))) e ∙ ap (λ (b : ℕ). put R b c) zz ∙ x in
    rw x2 (stored_ran t)
