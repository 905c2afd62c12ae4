-- Both starts in one number: a plan takes the old ones in and lets them go. Assumes nothing.
use Rattle.std.specs.Prelude.{None, Option, Some}
use Prim.Native.Nat.{ℕ, zero, suc, ◌+◌, ◌≤◌, ◌<◌}
use mathlib.Core.Path.{◌≡◌, refl, sym, ap, ap₂, ◌∙◌}
use mathlib.Core.List.{List, [], ◌∷◌, ◌++◌, append-nil, Memᴰ}
use mathlib.Core.Bool.{Bool, true, false}
use native.Mathlib.Omega.{arith}
use lib.ListN.{length, get_or, set, take, drop, take-append-drop, drop_of_length-le}
use lib.Seq.{take_all, take-suc-set, drop-cons, drop-set-lt, append_snoc}
use Rattle.wire.specs.Pick.{pick}
use Rattle.wire.proofs.ListLaws.{Behind, behind_select, select_member}
use Rattle.wire.proofs.TestLaws.{not_both}
use Rattle.record.specs.Record.{length_at}
use Rattle.record.specs.Chain.{header_end, records, first_record}
use Rattle.record.proofs.ChainLaws.{ok_means, starts_behind, starts_ok}
use Rattle.correct.specs.Plan.{is_kept, kept_starts, start_right, plan_from, plan_right}
use Rattle.correct.specs.Renamed.{named_by}
use Rattle.correct.specs.Squeezing.{moved_to}
use Rattle.plans.specs.Moved.{both_in, old_in, new_in, both_starts, new_starts, named_in, PlanPacks}
use Rattle.plans.proofs.KeptLaws.{kept_from, kept_all, next_is, next_none}
use Rattle.plans.proofs.CheckLaws.{start_most}

-- a list of which the first k numbers are done, and the others become `rest`

done_more : (l : List ℕ) (k v : ℕ) (rest : List ℕ) → k < length l → take (k + 1) (set l k v) ++ rest ≡ take k l ++ (v ∷ rest)
done_more l k v rest h =
    let i : k + 1 ≡ suc k = omega arith in
    rw (i, take-suc-set l k v h) (append_snoc (take k l) v rest)

ahead_same : (l : List ℕ) (k v : ℕ) → drop (k + 1) (set l k v) ≡ drop (suc k) l
ahead_same l k v =
    let i : k + 1 ≡ suc k = omega arith in
    rw i (drop-set-lt (suc k) l k v (omega arith))

done_all : (l : List ℕ) (k : ℕ) → length l ≤ k → take k l ++ [] ≡ l
done_all l k h = append-nil (take k l) ∙ take_all k l h

-- taking in

packed_none : (ps : List ℕ) → both_starts [] ps ≡ ps
unfolding both_starts
packed_none [] = refl
packed_none (p ∷ ps) = refl

packed_end : (xs : List ℕ) → both_starts xs [] ≡ []
unfolding both_starts
packed_end xs = refl

packed_cons : (x p : ℕ) (xs ps : List ℕ) → both_starts (x ∷ xs) (p ∷ ps) ≡ both_in x p ∷ both_starts xs ps
unfolding both_starts
packed_cons x p xs ps = refl

pub record TakingIn (s old now : List ℕ) (at k : ℕ) : Type 0 where
  pub same : take k now ++ both_starts (kept_from s at) (drop k now) ≡ both_starts (kept_starts s) old

pub packing_begin : (s old : List ℕ) (at : ℕ) → at ≡ header_end s → TakingIn s old old at 0
packing_begin s old at e = record { same = rw (e, kept_all s) }

pub packing_end : {s old now : List ℕ} {at k : ℕ} → TakingIn s old now at k → length now ≤ k → now ≡ both_starts (kept_starts s) old
packing_end {s} {old} {now} {at} {k} t h =
    sym (done_all now k h) ∙ ap (λ (l : List ℕ). take k now ++ l) (sym (ap (both_starts (kept_from s at)) (drop_of_length-le now h) ∙ packed_end _)) ∙ t.same

module _ {s old now : List ℕ} {at k : ℕ} {r : Option ℕ} (t : TakingIn s old now at k) (u : r ≡ first_record s at (is_kept s)) where
  pub packing_none : r ≡ None → now ≡ both_starts (kept_starts s) old
  packing_none v =
      sym (take-append-drop k now) ∙ ap (λ (l : List ℕ). take k now ++ l) (sym (ap (λ (xs : List ℕ). both_starts xs (drop k now)) (next_none s at u v) ∙ packed_none (drop k now)))
      ∙ t.same

  pub packing_more :
      {x n z : ℕ} → r ≡ Some x → k < length now → z ≡ both_in x (get_or now k 0) → n ≡ length_at s x → TakingIn s old (set now k z) (x + n) (k + 1)
  packing_more {x} {n} {z} v h e m =
      let y = kept_from s (x + length_at s x) in
      let a : both_starts (kept_from s at) (drop k now) ≡ z ∷ both_starts y (drop (suc k) now) =
      ap₂ both_starts (next_is s at x u v).here (drop-cons now k 0 h) ∙ packed_cons x (get_or now k 0) y (drop (suc k) now)
      ∙ ap (λ (i : ℕ). i ∷ both_starts y (drop (suc k) now)) (sym e) in
      record {
        same =
            rw (m, ahead_same now k z)
            (done_more now k z (both_starts y (drop (suc k) now)) h ∙ ap (λ (l : List ℕ). take k now ++ l) (sym a) ∙ t.same);
      }

-- letting go

unpacked_cons : (z : ℕ) (zs : List ℕ) → new_starts (z ∷ zs) ≡ new_in z ∷ new_starts zs
unfolding new_starts
unpacked_cons z zs = refl

unpacked_end : new_starts [] ≡ []
unfolding new_starts
unpacked_end = refl

pub record LettingGo (old now : List ℕ) (k : ℕ) : Type 0 where
  pub same : take k now ++ new_starts (drop k now) ≡ new_starts old

pub unpacking_begin : (old : List ℕ) → LettingGo old old 0
unpacking_begin old = record { same = refl }

pub unpacking_end : {old now : List ℕ} {k : ℕ} → LettingGo old now k → length now ≤ k → now ≡ new_starts old
unpacking_end {old} {now} {k} t h =
    sym (done_all now k h) ∙ ap (λ (l : List ℕ). take k now ++ l) (sym (ap new_starts (drop_of_length-le now h) ∙ unpacked_end)) ∙ t.same

pub unpacking_more : {old now : List ℕ} {k p : ℕ} → LettingGo old now k → k < length now → p ≡ new_in (get_or now k 0) → LettingGo old (set now k p) (k + 1)
unpacking_more {old} {now} {k} {p} t h e =
    let a : new_starts (drop k now) ≡ p ∷ new_starts (drop (suc k) now) =
    ap new_starts (drop-cons now k 0 h) ∙ unpacked_cons (get_or now k 0) (drop (suc k) now) ∙ ap (λ (i : ℕ). i ∷ new_starts (drop (suc k) now)) (sym e) in
    record {
      same =
          rw (ahead_same now k p)
          (done_more now k p (new_starts (drop (suc k) now)) h ∙ ap (λ (l : List ℕ). take k now ++ l) (sym a) ∙ t.same);
    }

-- one number holds both

pub old_is : (x p : ℕ) → x < 4294967296 → old_in (both_in x p) ≡ x
unfolding old_in both_in
old_is x p h = omega arith

pub new_is : (x p : ℕ) → p < 4294967296 → new_in (both_in x p) ≡ p
unfolding new_in both_in
new_is x p h = omega arith

-- old starts xs, below a bound each, with new ones ps that are not up
abbrev Paired : List ℕ → List ℕ → Type 0
Paired [] [] = Unit {0}
Paired [] (p ∷ ps) = ⊥
Paired (x ∷ xs) [] = ⊥
Paired (x ∷ xs) (p ∷ ps) = ((x < 4294967296) × (p ≤ x)) × Paired xs ps

plan_paired : (s : List ℕ) (e : ℕ) (xs ps : List ℕ) → ((x : ℕ) → Memᴰ x xs → x < 4294967296) → plan_from s e xs ps ≡ true → Paired xs ps
unfolding plan_from
plan_paired s e [] [] f h = tt
plan_paired s e [] (p ∷ ps) f h = not_both h refl
plan_paired s e (x ∷ xs) [] f h = not_both h refl
plan_paired s e (x ∷ xs) (p ∷ ps) f h = go (start_right e x p) refl h (plan_paired s (p + length_at s x) xs ps (λ y m. f y (Memᴰ.tail m)))
  where
    go :
        (b : Bool) → start_right e x p ≡ b → pick b (plan_from s (p + length_at s x) xs ps) false ≡ true →
        (plan_from s (p + length_at s x) xs ps ≡ true → Paired xs ps) → Paired (x ∷ xs) (p ∷ ps)
    go true i k r = ((f x (Memᴰ.head refl), start_most e x p i), r k)
    go false i k r = not_both k refl

packed_long : (xs ps : List ℕ) → length (both_starts xs ps) ≡ length ps
unfolding both_starts
packed_long xs [] = refl
packed_long [] (p ∷ ps) = refl
packed_long (x ∷ xs) (p ∷ ps) = ap suc (packed_long xs ps)

packed_back : (xs ps : List ℕ) → Paired xs ps → new_starts (both_starts xs ps) ≡ ps
unfolding both_starts new_starts
packed_back [] [] w = refl
packed_back [] (p ∷ ps) w = absurd w
packed_back (x ∷ xs) [] w = refl
packed_back (x ∷ xs) (p ∷ ps) w = rw (new_is x p (omega (arith, w.0.0, w.0.1)), packed_back xs ps w.1)

packed_named : (xs ps : List ℕ) (c : ℕ) → Paired xs ps → named_in (both_starts xs ps) c ≡ named_by xs ps c
unfolding both_starts named_in named_by
packed_named [] [] c w = refl
packed_named [] (p ∷ ps) c w = absurd w
packed_named (x ∷ xs) [] c w = refl
packed_named (x ∷ xs) (p ∷ ps) c w =
    rw (old_is x p w.0.0, new_is x p (omega (arith, w.0.0, w.0.1)), packed_named xs ps c w.1)

-- the numbers that are held ascend with the old starts
packed_least : (a : ℕ) (xs ps : List ℕ) → Behind a xs → Paired xs ps → (i : ℕ) → i < length (both_starts xs ps) → a ≤ old_in (get_or (both_starts xs ps) i 0)
unfolding both_starts
packed_least a [] [] b w i h = absurd (omega arith)
packed_least a [] (p ∷ ps) b w i h = absurd w
packed_least a (x ∷ xs) [] b w i h = absurd w
packed_least a (x ∷ xs) (p ∷ ps) b w zero h = omega (arith, old_is x p w.0.0, b.0)
packed_least a (x ∷ xs) (p ∷ ps) b w (suc i) h = omega (arith, packed_least (x + 1) xs ps b.1 w.1 i (omega arith), b.0)

packed_up :
    (a : ℕ) (xs ps : List ℕ) → Behind a xs → Paired xs ps → (i j : ℕ) → i < j → j < length (both_starts xs ps) →
    old_in (get_or (both_starts xs ps) i 0) < old_in (get_or (both_starts xs ps) j 0)
unfolding both_starts
packed_up a [] [] b w i j g h = absurd (omega arith)
packed_up a [] (p ∷ ps) b w i j g h = absurd w
packed_up a (x ∷ xs) [] b w i j g h = absurd w
packed_up a (x ∷ xs) (p ∷ ps) b w i zero g h = absurd (omega arith)
packed_up a (x ∷ xs) (p ∷ ps) b w zero (suc j) g h = omega (arith, old_is x p w.0.0, packed_least (x + 1) xs ps b.1 w.1 j (omega arith))
packed_up a (x ∷ xs) (p ∷ ps) b w (suc i) (suc j) g h = packed_up (x + 1) xs ps b.1 w.1 i j (omega arith) (omega arith)

kept_behind : (s : List ℕ) → Behind (header_end s) (kept_starts s)
unfolding kept_starts records
kept_behind s = behind_select (is_kept s) (header_end s) _ (starts_behind s (header_end s))

kept_inside : (s : List ℕ) (x : ℕ) → Memᴰ x (kept_starts s) → x < length s
unfolding kept_starts records
kept_inside s x m =
    let o = ok_means s x (starts_ok s x (header_end s) (select_member (is_kept s) _ m).0) in
    omega (arith, o.inside, o.long)

pub plan_packs : PlanPacks
unfolding plan_right moved_to
plan_packs s ps h l =
    let w = plan_paired s (header_end s) (kept_starts s) ps (λ x m. omega (arith, kept_inside s x m)) h in
    record {
      long = packed_long (kept_starts s) ps;
      ascend = record { up = packed_up (header_end s) (kept_starts s) ps (kept_behind s) w };
      named = λ c. packed_named (kept_starts s) ps c w;
      back = packed_back (kept_starts s) ps w;
    }
