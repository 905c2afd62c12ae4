-- A new piece in the lowest free one that takes it, or at the end. Assumes nothing.
use Prim.Native.Nat.{ℕ, ◌+◌, ◌-◌, ◌≤◌, max}
use mathlib.Core.Path.{◌≡◌, refl, sym, ap, ◌∙◌}
use mathlib.Core.List.{List, [], ◌∷◌, ◌++◌}
use mathlib.Core.Bool.{Bool, true, false, ◌&&◌, ◌||◌}
use native.Mathlib.Omega.{arith}
use lib.ListN.{length, length-append}
use lib.Dec.{eqb}
use borrow.Author.Tests.{eqb-true, eqb-false, eq-eqb, leb-true}
use Rattle.wire.specs.Pick.{pick}
use Rattle.wire.specs.Bytes.{largest_integer}
use Rattle.wire.proofs.TestLaws.{not_both, no_true}
use Rattle.record.specs.Record.{length_at, type_at, record_ok}
use Rattle.record.specs.Chain.{joined, WellFormed}
use Rattle.pieces.specs.Pieces.{free_record, is_free, nothing_to_join}
use Rattle.pieces.specs.Edits.{takes, left_over, place_for, placed}
use Rattle.pieces.specs.Standing.{AllOf, standing, Inserted}
use Rattle.pieces.proofs.FreeLaws.{free_length}
use Rattle.pieces.proofs.FreeingLaws.{Long, long_of, free_well, standing_other, standing_free, standing_tail, is_free_lem, and_both}

either : {C : Type 0} (a b : Bool) → (a || b) ≡ true → (a ≡ true → C) → (b ≡ true → C) → C
either true b e f g = f refl
either false b e f g = g e

-- what is left over: nothing, or a record's least length
pub record Taken (n : ℕ) (r : List ℕ) : Type 0 where
  pub free : type_at r 0 ≡ 0
  pub within : n ≤ length r
  pub left : (length r - n ≡ 0 → ⊥) → 16 ≤ length r - n

pub takes_means : (n : ℕ) (r : List ℕ) → takes n r ≡ true → Taken n r
unfolding takes
takes_means n r e =
    let a = and_both (is_free r) _ e in
    let free = is_free_lem r a.0 in
    either (eqb (length r) n) _ a.1
    (λ i. record { free = free; within = omega (arith, eqb-true (length r) n i); left = λ z. absurd (z (omega (arith, eqb-true (length r) n i))) })
    (λ i. record { free = free; within = omega (arith, leb-true); left = λ z. omega (arith, leb-true) })

module _ (flag : ℕ) (v r : List ℕ) (qs : List (List ℕ)) (lv : Long v) (lr : Long r) (t : Taken (length v) r) where
  left_well : WellFormed qs → WellFormed (left_over flag (length r - length v) ++ qs)
  unfolding left_over
  left_well w = go (eqb (length r - length v) 0) refl
    where
      go : (b : Bool) → eqb (length r - length v) 0 ≡ b → WellFormed (pick b [] (free_record flag (length r - length v) ∷ []) ++ qs)
      go true e = w
      go false e =
          let k = t.left (eqb-false _ _ e) in
          (free_well flag (length r - length v) k (omega (arith, lr.most)) (omega (arith, lr.eights, lv.eights, t.within)), w)

  left_length : length (joined (left_over flag (length r - length v) ++ qs)) ≡ length r - length v + length (joined qs)
  unfolding left_over
  left_length = go (eqb (length r - length v) 0) refl
    where
      go : (b : Bool) → eqb (length r - length v) 0 ≡ b → length (joined (pick b [] (free_record flag (length r - length v) ∷ []) ++ qs)) ≡ length r - length v + length (joined qs)
      go true e = let z : length r - length v ≡ 0 = eqb-true _ _ e in rw z (omega arith)
      go false e =
          let k = t.left (eqb-false _ _ e) in
          length-append (free_record flag (length r - length v)) (joined qs) ∙ ap (λ (n : ℕ). n + length (joined qs)) (free_length flag (length r - length v) k)

  left_standing : (kind : ℕ) → (kind ≡ 0 → ⊥) → (at : ℕ) → standing kind (at + length v) (left_over flag (length r - length v) ++ qs) ≡ standing kind (at + length r) qs
  unfolding left_over
  left_standing kind z at = go (eqb (length r - length v) 0) refl
    where
      m : at + length v + (length r - length v) ≡ at + length r
      m = omega (arith, t.within)

      go :
          (b : Bool) → eqb (length r - length v) 0 ≡ b →
          standing kind (at + length v) (pick b [] (free_record flag (length r - length v) ∷ []) ++ qs) ≡ standing kind (at + length r) qs
      go true e = let d : length r - length v ≡ 0 = eqb-true _ _ e in let n : at + length v ≡ at + length r = omega (arith, t.within) in ap (λ (l : ℕ). standing kind l qs) n
      go false e =
          let k = t.left (eqb-false _ _ e) in
          standing_free flag (length r - length v) kind (at + length v) qs k z ∙ ap (λ (l : ℕ). standing kind l qs) m

  left_all :
      (P : List ℕ → Type 0) → ((n : ℕ) → 16 ≤ n → n ≤ largest_integer → P (free_record flag n)) → AllOf P qs →
      AllOf P (left_over flag (length r - length v) ++ qs)
  unfolding left_over
  left_all P keep a = go (eqb (length r - length v) 0) refl
    where
      go : (b : Bool) → eqb (length r - length v) 0 ≡ b → AllOf P (pick b [] (free_record flag (length r - length v) ∷ []) ++ qs)
      go true e = a
      go false e = (keep (length r - length v) (t.left (eqb-false _ _ e)) (omega (arith, lr.most)), a)

-- what stands, a piece at a time

standing_none : (kind at : ℕ) → standing kind at [] ≡ []
unfolding standing
standing_none kind at = refl

standing_own : (kind at : ℕ) (r : List ℕ) (rs : List (List ℕ)) → type_at r 0 ≡ kind → standing kind at (r ∷ rs) ≡ (at, r) ∷ standing kind (at + length r) rs
unfolding standing
standing_own kind at r rs h = rw (eq-eqb (type_at r 0) kind h)

inserted_behind :
    (kind at : ℕ) (r : List ℕ) (rs qs : List (List ℕ)) {q : ℕ × List ℕ} →
    Inserted (standing kind (at + length r) rs) q (standing kind (at + length r) qs) → Inserted (standing kind at (r ∷ rs)) q (standing kind at (r ∷ qs))
unfolding standing
inserted_behind kind at r rs qs {q} i = go (eqb (type_at r 0) kind)
  where
    go :
        (b : Bool) →
        Inserted (pick b ((at, r) ∷ standing kind (at + length r) rs) (standing kind (at + length r) rs)) q
        (pick b ((at, r) ∷ standing kind (at + length r) qs) (standing kind (at + length r) qs))
    go true =
        record {
          before = (at, r) ∷ i.before;
          behind = i.behind;
          first = ap (λ (l : List (ℕ × List ℕ)). (at, r) ∷ l) i.first;
          second = ap (λ (l : List (ℕ × List ℕ)). (at, r) ∷ l) i.second;
        }
    go false = i

-- the new piece v

module _ (flag : ℕ) (v : List ℕ) (ok : record_ok v 0 ≡ true) (stated : length_at v 0 ≡ length v) where
  new : Long v
  new = long_of v ok stated

  pub placed_well : (rs : List (List ℕ)) → WellFormed rs → WellFormed (placed flag v rs)
  unfolding placed
  placed_well [] w = ((ok, stated), tt)
  placed_well (r ∷ rs) w = go (takes (length v) r) refl (placed_well rs w.1)
    where
      go : (b : Bool) → takes (length v) r ≡ b → WellFormed (placed flag v rs) → WellFormed (pick b (v ∷ (left_over flag (length r - length v) ++ rs)) (r ∷ placed flag v rs))
      go true e i = ((ok, stated), left_well flag v r rs new (long_of r w.0.0 w.0.1) (takes_means _ r e) w.1)
      go false e i = (w.0, i)

  pub placed_length :
      (at : ℕ) (rs : List (List ℕ)) → WellFormed rs → at + length (joined (placed flag v rs)) ≡ max (at + length (joined rs)) (place_for at (length v) rs + length v)
  unfolding placed place_for
  placed_length at [] w = let a = length-append v [] in omega arith
  placed_length at (r ∷ rs) w = go (takes (length v) r) refl (placed_length (at + length r) rs w.1)
    where
      go :
          (b : Bool) → takes (length v) r ≡ b →
          at + length r + length (joined (placed flag v rs)) ≡ max (at + length r + length (joined rs)) (place_for (at + length r) (length v) rs + length v) →
          at + length (joined (pick b (v ∷ (left_over flag (length r - length v) ++ rs)) (r ∷ placed flag v rs)))
          ≡ max (at + length (joined (r ∷ rs))) (pick b at (place_for (at + length r) (length v) rs) + length v)
      go true e i =
          let k = takes_means _ r e in
          let a = length-append v (joined (left_over flag (length r - length v) ++ rs)) in
          let b = left_length flag v r rs new (long_of r w.0.0 w.0.1) k in
          let c = length-append r (joined rs) in
          omega (arith, k.within)
      go false e i =
          let a = length-append r (joined (placed flag v rs)) in
          let c = length-append r (joined rs) in
          omega arith

  pub placed_all :
      (P : List ℕ → Type 0) → ((n : ℕ) → 16 ≤ n → n ≤ largest_integer → P (free_record flag n)) → P v →
      (rs : List (List ℕ)) → WellFormed rs → AllOf P rs → AllOf P (placed flag v rs)
  unfolding placed
  placed_all P keep e [] w a = (e, tt)
  placed_all P keep e (r ∷ rs) w a = go (takes (length v) r) refl (placed_all P keep e rs w.1 a.1)
    where
      go : (b : Bool) → takes (length v) r ≡ b → AllOf P (placed flag v rs) → AllOf P (pick b (v ∷ (left_over flag (length r - length v) ++ rs)) (r ∷ placed flag v rs))
      go true i j = (e, left_all flag v r rs new (long_of r w.0.0 w.0.1) (takes_means _ r i) P keep a.1)
      go false i j = (a.0, j)

  -- records of other types stay
  pub placed_others :
      (kind : ℕ) → (kind ≡ 0 → ⊥) → (type_at v 0 ≡ kind → ⊥) → (at : ℕ) (rs : List (List ℕ)) → WellFormed rs → standing kind at (placed flag v rs) ≡ standing kind at rs
  unfolding placed
  placed_others kind z n at [] w = standing_other kind at v [] n ∙ nothing (at + length v)
    where
      nothing : (l : ℕ) → standing kind l [] ≡ standing kind at []
      nothing l = standing_none kind l ∙ sym (standing_none kind at)
  placed_others kind z n at (r ∷ rs) w = go (takes (length v) r) refl (placed_others kind z n (at + length r) rs w.1)
    where
      go :
          (b : Bool) → takes (length v) r ≡ b → standing kind (at + length r) (placed flag v rs) ≡ standing kind (at + length r) rs →
          standing kind at (pick b (v ∷ (left_over flag (length r - length v) ++ rs)) (r ∷ placed flag v rs)) ≡ standing kind at (r ∷ rs)
      go true e i =
          let k = takes_means _ r e in
          standing_other kind at v (left_over flag (length r - length v) ++ rs) n
          ∙ left_standing flag v r rs new (long_of r w.0.0 w.0.1) k kind z at
          ∙ sym (standing_other kind at r rs (λ j. z (sym j ∙ k.free)))
      go false e i = standing_tail kind at r (placed flag v rs) rs i

  -- of its own type one more stands, at its place
  pub placed_new :
      (kind : ℕ) → (kind ≡ 0 → ⊥) → type_at v 0 ≡ kind → (at : ℕ) (rs : List (List ℕ)) → WellFormed rs →
      Inserted (standing kind at rs) (place_for at (length v) rs, v) (standing kind at (placed flag v rs))
  unfolding placed place_for
  placed_new kind z n at [] w =
      record { before = []; behind = []; first = standing_none kind at; second = standing_own kind at v [] n ∙ ap (λ (l : List (ℕ × List ℕ)). (at, v) ∷ l) (standing_none kind (at + length v)) }
  placed_new kind z n at (r ∷ rs) w = go (takes (length v) r) refl (placed_new kind z n (at + length r) rs w.1)
    where
      go :
          (b : Bool) → takes (length v) r ≡ b →
          Inserted (standing kind (at + length r) rs) (place_for (at + length r) (length v) rs, v) (standing kind (at + length r) (placed flag v rs)) →
          Inserted (standing kind at (r ∷ rs)) (pick b at (place_for (at + length r) (length v) rs), v)
          (standing kind at (pick b (v ∷ (left_over flag (length r - length v) ++ rs)) (r ∷ placed flag v rs)))
      go true e i =
          let k = takes_means _ r e in
          record {
            before = [];
            behind = standing kind (at + length r) rs;
            first = standing_other kind at r rs (λ j. z (sym j ∙ k.free));
            second =
                standing_own kind at v (left_over flag (length r - length v) ++ rs) n
                ∙ ap (λ (l : List (ℕ × List ℕ)). (at, v) ∷ l) (left_standing flag v r rs new (long_of r w.0.0 w.0.1) k kind z at);
          }
      go false e i = inserted_behind kind at r rs (placed flag v rs) i

-- nothing to join

unfoldable head_free : List (List ℕ) → Bool
head_free [] = false
head_free (q ∷ qs) = is_free q

join_cons : (r : List ℕ) (qs : List (List ℕ)) → nothing_to_join (r ∷ qs) ≡ pick (is_free r && head_free qs) false (nothing_to_join qs)
unfolding nothing_to_join head_free
join_cons r [] = go (is_free r)
  where
    go : (b : Bool) → true ≡ pick (b && false) false true
    go true = refl
    go false = refl
join_cons r (q ∷ qs) = refl

join_means : (r : List ℕ) (qs : List (List ℕ)) → nothing_to_join (r ∷ qs) ≡ true → ((is_free r && head_free qs) ≡ false) × (nothing_to_join qs ≡ true)
join_means r qs e = go (is_free r && head_free qs) refl
  where
    go : (b : Bool) → (is_free r && head_free qs) ≡ b → ((is_free r && head_free qs) ≡ false) × (nothing_to_join qs ≡ true)
    go true i = not_both (rw i at (sym (join_cons r qs) ∙ e)) refl
    go false i = (i, rw i at (sym (join_cons r qs) ∙ e))

means_join : (r : List ℕ) (qs : List (List ℕ)) → (is_free r && head_free qs) ≡ false → nothing_to_join qs ≡ true → nothing_to_join (r ∷ qs) ≡ true
means_join r qs i e = join_cons r qs ∙ rw i e

free_of : (r : List ℕ) → type_at r 0 ≡ 0 → is_free r ≡ true
unfolding is_free
free_of r e = eq-eqb _ _ e

and_false : (a b : Bool) → (a ≡ true → b ≡ true → ⊥) → (a && b) ≡ false
and_false true true f = absurd (f refl refl)
and_false true false f = refl
and_false false b f = refl

false_and : (a b : Bool) → (a && b) ≡ false → a ≡ true → b ≡ true → ⊥
false_and true true e p q = not_both (sym e) refl
false_and true false e p q = not_both q refl
false_and false b e p q = not_both p refl

module _ (flag : ℕ) (v : List ℕ) (other : is_free v ≡ false) where
  head_placed : (rs : List (List ℕ)) → head_free (placed flag v rs) ≡ true → head_free rs ≡ true
  unfolding placed head_free
  head_placed [] e = not_both e other
  head_placed (r ∷ rs) e = go (takes (length v) r) e
    where
      go : (b : Bool) → head_free (pick b (v ∷ (left_over flag (length r - length v) ++ rs)) (r ∷ placed flag v rs)) ≡ true → is_free r ≡ true
      go true i = not_both i other
      go false i = i

  left_none : (d : ℕ) (rs : List (List ℕ)) → head_free rs ≡ false → nothing_to_join rs ≡ true → nothing_to_join (left_over flag d ++ rs) ≡ true
  unfolding left_over
  left_none d rs h e = go (eqb d 0)
    where
      go : (b : Bool) → nothing_to_join (pick b [] (free_record flag d ∷ []) ++ rs) ≡ true
      go true = e
      go false = means_join (free_record flag d) rs (and_false (is_free (free_record flag d)) (head_free rs) (λ i j. not_both j h)) e

  pub placed_none : (rs : List (List ℕ)) → nothing_to_join rs ≡ true → nothing_to_join (placed flag v rs) ≡ true
  unfolding placed
  placed_none [] e = means_join v [] (and_false _ _ (λ i j. not_both i other)) e
  placed_none (r ∷ rs) e = go (takes (length v) r) refl (placed_none rs (join_means r rs e).1) (join_means r rs e)
    where
      go :
          (b : Bool) → takes (length v) r ≡ b → nothing_to_join (placed flag v rs) ≡ true → ((is_free r && head_free rs) ≡ false) × (nothing_to_join rs ≡ true) →
          nothing_to_join (pick b (v ∷ (left_over flag (length r - length v) ++ rs)) (r ∷ placed flag v rs)) ≡ true
      go true i j k =
          let free : is_free r ≡ true = free_of r (takes_means _ r i).free in
          let h : head_free rs ≡ false = sym (no_true (head_free rs) (false_and (is_free r) (head_free rs) k.0 free)) in
          means_join v (left_over flag (length r - length v) ++ rs) (and_false (is_free v) (head_free (left_over flag (length r - length v) ++ rs)) (λ a b. not_both a other)) (left_none (length r - length v) rs h k.1)
      go false i j k = means_join r (placed flag v rs) (and_false (is_free r) (head_free (placed flag v rs)) (λ a b. false_and (is_free r) (head_free rs) k.0 a (head_placed rs b))) j
