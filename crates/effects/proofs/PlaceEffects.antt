-- A new record stored into the lowest free one that takes it, or behind the last: the bytes that the buffer holds then. Assumes nothing.
use Prim.Native.Nat.{ℕ, ◌+◌, ◌-◌, ◌≤◌}
use mathlib.Core.Path.{◌≡◌, refl, sym, ap, ap₂, ◌∙◌}
use mathlib.Core.List.{List, [], ◌∷◌, ◌++◌, append_assoc, append-nil}
use mathlib.Core.Bool.{Bool, true, false}
use native.Mathlib.Omega.{arith}
use lib.ListN.{length, take, drop, length-append}
use lib.Seq.{take-append_seam, drop_at}
use lib.Dec.{eqb}
use borrow.Author.Tests.{eqb-true, eqb-false}
use Rattle.wire.specs.Pick.{pick}
use Rattle.wire.specs.Bytes.{put}
use Rattle.wire.proofs.PutLaws.{put_fits, put_nil, put_put}
use Rattle.wire.proofs.PlaceLaws.{Placed, put_there}
use Rattle.record.specs.Chain.{joined}
use Rattle.stores.specs.Stores.{Write, run}
use Rattle.stores.specs.Writes.{whole_write}
use Rattle.pieces.specs.Pieces.{free_record}
use Rattle.pieces.specs.Edits.{takes, left_over, place_for, room_for, placed}
use Rattle.pieces.proofs.FreeLaws.{free_length}
use Rattle.pieces.proofs.PlacedLaws.{Taken, takes_means}
use Rattle.correct.specs.RecordWrites.{rest_writes}
use Rattle.page_laws.proofs.MoreLaws.{joined_append}
use Rattle.effects.proofs.MadeLaws.{MadeBehind, run_append}
use Rattle.effects.proofs.InsideEffects.{whole_one, one_run}
use Rattle.effects.proofs.LieLaws.{Lie, lie_none, lie_whole, lie_append}

-- a write of the whole

pub whole_run : (room at : ℕ) (v d : List ℕ) → at + length v ≤ room → run (whole_write room at v) d ≡ put d at v
whole_run room at v d h = ap (λ (ws : List Write). run ws d) (whole_one room at v h) ∙ one_run at v d

-- what is left over: k bytes, none or a free record

module _ (flag k : ℕ) (h : (k ≡ 0 → ⊥) → 16 ≤ k) where
  left_long : length (joined (left_over flag k)) ≡ k
  unfolding left_over
  left_long = go (eqb k 0) refl
    where
      go : (b : Bool) → eqb k 0 ≡ b → length (joined (pick b [] (free_record flag k ∷ []))) ≡ k
      go true e = sym (eqb-true k 0 e)
      go false e = length-append (free_record flag k) [] ∙ omega (arith, free_length flag k (h (eqb-false k 0 e)))

  module _ (room at : ℕ) where
    rest_run : (d : List ℕ) → at + k ≤ room → run (rest_writes room flag at k) d ≡ put d at (joined (left_over flag k))
    unfolding left_over rest_writes run
    rest_run d l = go (eqb k 0) refl
      where
        go : (b : Bool) → eqb k 0 ≡ b → run (pick b [] (whole_write room at (free_record flag k))) d ≡ put d at (joined (pick b [] (free_record flag k ∷ [])))
        go true e = sym (put_nil d at)
        go false e =
            let n = free_length flag k (h (eqb-false k 0 e)) in
            whole_run room at (free_record flag k) d (omega arith) ∙ ap (put d at) (sym (append-nil (free_record flag k)))

    rest_lies : (a m : ℕ) → a ≤ at → at + k ≤ m → Lie a m 1 (rest_writes room flag at k)
    unfolding rest_writes
    rest_lies a m i l = go (eqb k 0) refl
      where
        go : (b : Bool) → eqb k 0 ≡ b → Lie a m 1 (pick b [] (whole_write room at (free_record flag k)))
        go true e = lie_none a m 1
        go false e =
            let n = free_length flag k (h (eqb-false k 0 e)) in
            lie_whole room a m 1 at (free_record flag k) i (omega arith) (omega arith)

left_none : (flag : ℕ) → left_over flag 0 ≡ []
unfolding left_over
left_none flag = refl

module _ (a flag room : ℕ) (v : List ℕ) where
  -- the record, and what is left over of `long` bytes from `at` on
  abbrev place_writes : ℕ → ℕ → List Write
  place_writes at long = whole_write room at v ++ rest_writes room flag (at + length v) (long - length v)

  place_run :
      (at long : ℕ) (d : List ℕ) → length v ≤ long → ((long - length v ≡ 0 → ⊥) → 16 ≤ long - length v) → at + long ≤ room → room ≡ length d →
      run (place_writes at long) d ≡ put d at (v ++ joined (left_over flag (long - length v)))
  place_run at long d w h l e =
      let k = long - length v in
      let u = joined (left_over flag k) in
      let n : length u ≡ k = left_long flag k h in
      run_append (whole_write room at v) (rest_writes room flag (at + length v) k) d
      ∙ ap (run (rest_writes room flag (at + length v) k)) (whole_run room at v d (omega arith))
      ∙ rest_run flag k h room (at + length v) (put d at v) (omega arith)
      ∙ put_put d at v u (omega arith)

  place_lies :
      (at long m : ℕ) → a ≤ at → length v ≤ long → ((long - length v ≡ 0 → ⊥) → 16 ≤ long - length v) → at + long ≤ m → Lie a m 2 (place_writes at long)
  place_lies at long m i w h l =
      lie_append (lie_whole room a m 1 at v i (omega arith) (omega arith))
      (rest_lies flag (long - length v) h room (at + length v) a m (omega arith) (omega arith))

  -- behind the last piece
  place_last :
      (f z : List ℕ) → a ≤ length f → room ≡ length (f ++ [] ++ z) → length f + length v ≤ room →
      MadeBehind a (f ++ [] ++ z) (place_writes (length f) (length v)) (f ++ (v ++ [])) (length (f ++ (v ++ []))) 2
  place_last f z b e h =
      let d = f ++ [] ++ z in
      let o : length v - length v ≡ 0 = omega arith in
      let no : (length v - length v ≡ 0 → ⊥) → 16 ≤ length v - length v = λ i. absurd (i o) in
      let m : length f + length (v ++ []) ≡ length (f ++ (v ++ [])) = sym (length-append f (v ++ [])) in
      let n = length-append v [] in
      let p = place_lies (length f) (length v) (length (f ++ (v ++ []))) b (omega arith) no (omega arith) in
      let g : take (length f) d ≡ f = ap (λ (l : List ℕ). take (length f) (l ++ z)) (append-nil f) ∙ take-append_seam f z in
      let q =
      place_run (length f) (length v) d (omega arith) no h e
      ∙ ap (λ (k : ℕ). put d (length f) (v ++ joined (left_over flag k))) o
      ∙ ap (λ (l : List (List ℕ)). put d (length f) (v ++ joined l)) (left_none flag)
      ∙ put_fits d (length f) (v ++ []) (omega arith)
      ∙ ap₂ (λ (a : List ℕ) (k : ℕ). a ++ (v ++ []) ++ drop k d) g m in
      record { made = record { holds = q; inside = omega arith; fits = p.fits; few = p.few }; apart = p.apart }

  -- in a free record
  place_in :
      (f z r : List ℕ) (rs : List (List ℕ)) → a ≤ length f → room ≡ length (f ++ (r ++ joined rs) ++ z) → Taken (length v) r →
      MadeBehind a (f ++ (r ++ joined rs) ++ z) (place_writes (length f) (length r)) (f ++ (v ++ joined (left_over flag (length r - length v) ++ rs)))
      (length (f ++ (v ++ joined (left_over flag (length r - length v) ++ rs)))) 2
  place_in f z r rs c e t =
      let d = f ++ (r ++ joined rs) ++ z in
      let k = length r - length v in
      let u = joined (left_over flag k) in
      let n : length u ≡ k = left_long flag k t.left in
      let p : Placed d (length f) r = record { before = f; behind = joined rs ++ z; whole = simp append_assoc; start = refl } in
      let n' = length-append v u in
      let b : length (v ++ u) ≡ length r = omega (arith, t.within) in
      let q : f ++ (v ++ joined (left_over flag k ++ rs)) ≡ f ++ (v ++ u) ++ joined rs = rw (joined_append (left_over flag k) rs) (simp append_assoc) in
      let m : length (f ++ (v ++ joined (left_over flag k ++ rs))) ≡ length f + length r + length (joined rs) =
      ap length q ∙ length-append (f ++ (v ++ u)) (joined rs) ∙ omega (arith, length-append f (v ++ u)) in
      let g : length (f ++ (r ++ joined rs)) ≡ length f + length r + length (joined rs) =
      length-append f (r ++ joined rs) ∙ omega (arith, length-append r (joined rs)) in
      let i = length-append (f ++ (r ++ joined rs)) z in
      let y = place_lies (length f) (length r) (length (f ++ (v ++ joined (left_over flag k ++ rs)))) c t.within t.left (omega arith) in
      let w =
      place_run (length f) (length r) d t.within t.left (omega arith) e
      ∙ put_there p (v ++ u) (sym b)
      ∙ sym (ap₂ (λ (x y : List ℕ). x ++ y) q (drop_at (f ++ (r ++ joined rs)) z _ (g ∙ sym m)) ∙ simp append_assoc) in
      record { made = record { holds = w; inside = omega arith; fits = y.fits; few = y.few }; apart = y.apart }

  pub place_made :
      (f z : List ℕ) (rs : List (List ℕ)) → a ≤ length f → room ≡ length (f ++ joined rs ++ z) → place_for (length f) (length v) rs + length v ≤ room →
      MadeBehind a (f ++ joined rs ++ z) (place_writes (place_for (length f) (length v) rs) (room_for (length v) rs)) (f ++ joined (placed flag v rs))
      (length (f ++ joined (placed flag v rs))) 2
  unfolding place_for room_for placed
  place_made f z [] c e h = place_last f z c e h
  place_made f z (r ∷ rs) c e h = go (takes (length v) r) refl (place_made (f ++ r) z rs (omega (arith, length-append f r)))
    where
      go :
          (b : Bool) → takes (length v) r ≡ b →
          (room ≡ length (f ++ r ++ joined rs ++ z) → place_for (length (f ++ r)) (length v) rs + length v ≤ room →
          MadeBehind a (f ++ r ++ joined rs ++ z) (place_writes (place_for (length (f ++ r)) (length v) rs) (room_for (length v) rs)) (f ++ r ++ joined (placed flag v rs))
          (length (f ++ r ++ joined (placed flag v rs))) 2) →
          MadeBehind a (f ++ joined (r ∷ rs) ++ z)
          (place_writes (pick (takes (length v) r) (length f) (place_for (length f + length r) (length v) rs)) (pick (takes (length v) r) (length r) (room_for (length v) rs)))
          (f ++ joined (pick (takes (length v) r) (v ∷ (left_over flag (length r - length v) ++ rs)) (r ∷ placed flag v rs)))
          (length (f ++ joined (pick (takes (length v) r) (v ∷ (left_over flag (length r - length v) ++ rs)) (r ∷ placed flag v rs)))) 2
      go true i n = rw i (place_in f z r rs c e (takes_means (length v) r i))
      go false i n =
          rw i
          (rw (append_assoc f r (joined rs), append_assoc f r (joined (placed flag v rs)), length-append f r) at n e (rw i at h))
