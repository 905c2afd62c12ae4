-- Plans: the tight one is accepted, and one is accepted exactly if it keeps each clause. Assumes nothing.
use Prim.Native.Nat.{ℕ, zero, suc, ◌+◌, ◌%◌, ◌≤◌, ◌<◌}
use mathlib.Core.Path.{◌≡◌, refl, sym, ap, ◌∙◌}
use mathlib.Core.List.{List, [], ◌∷◌, Memᴰ}
use mathlib.Core.Bool.{Bool, true, false, ◌||◌}
use mathlib.Core.Logic.{◌⊎◌, inl, inr, ⊎_elim}
use native.Mathlib.Omega.{arith}
use lib.ListN.{length, get_or}
use lib.Dec.{leb, eqb}
use borrow.Author.Tests.{eqb-true, eq-eqb, le-leb, leb-true}
use Rattle.wire.specs.Pick.{pick}
use Rattle.wire.specs.Lists.{select}
use Rattle.wire.proofs.TestLaws.{means, yes}
use Rattle.wire.proofs.ListLaws.{select_member}
use Rattle.record.specs.Record.{length_at}
use Rattle.record.specs.Chain.{Stand, header_end, records}
use Rattle.record.proofs.ChainLaws.{ok_means, starts_ok}
use Rattle.check_header.specs.HeaderRecord.{length_right, frame_right, header_right}
use Rattle.correct.specs.Plan.{is_kept, kept_starts, gap_right, start_right, plan_from, plan_right, tight_from, tight_plan, Gap, end_of, GoodPlan}
use Rattle.squeezed.specs.Squeezed.{TightAccepted, OldAccepted, PlanExactly}

-- one start

gap_or : (a b : Bool) → (a || b) ≡ true → (a ≡ true) ⊎ (b ≡ true)
gap_or true b e = inl refl
gap_or false b e = inr e

or_second : (a : Bool) → (a || true) ≡ true
or_second true = refl
or_second false = refl

pub record Start (e x p : ℕ) : Type 0 where
  pub eights : p % 8 ≡ 0
  pub not_up : p ≤ x
  pub behind : e ≤ p
  pub gap : Gap e p

pub start_means : (e x p : ℕ) → start_right e x p ≡ true → Start e x p
unfolding start_right gap_right
start_means e x p h =
    let a = means _ h in
    record {
      eights = a.0;
      not_up = a.1.0;
      behind = a.1.1.0;
      gap = ⊎_elim (λ q. inl (eqb-true p e q)) (λ q. inr (leb-true (e + 16) p q)) (gap_or (eqb p e) (leb (e + 16) p) a.1.1.1.0);
    }

pub start_right_lem : (e x p : ℕ) → Start e x p → start_right e x p ≡ true
unfolding start_right gap_right
start_right_lem e x p h =
    let g : (eqb p e || leb (e + 16) p) ≡ true =
    ⊎_elim (λ q. rw (eq-eqb p e q)) (λ q. rw (le-leb (e + 16) p q) (or_second (eqb p e))) h.gap in
    sym (yes _ (h.eights, (h.not_up, (h.behind, (g, tt)))))

-- each clause, from the first start on

good_none : (s : List ℕ) (e : ℕ) → GoodPlan s e [] []
good_none s e =
    record {
      number = refl;
      order = λ j k g h. absurd (omega arith);
      not_up = λ k h. absurd (omega arith);
      disjoint = λ j k g h. absurd (omega arith);
      eights = λ k h. absurd (omega arith);
      behind = λ k h. absurd (omega arith);
      first_gap = λ h. absurd (omega arith);
      gaps = λ k h. absurd (omega arith);
    }

module _ (s : List ℕ) (e x p : ℕ) (xs ps : List ℕ) where
  module _ (a : Start e x p) (l : 1 ≤ length_at s x) (g : GoodPlan s (p + length_at s x) xs ps) where
    order : (j k : ℕ) → j < k → k < length (x ∷ xs) → get_or (p ∷ ps) j 0 < get_or (p ∷ ps) k 0
    order j zero h m = absurd (omega arith)
    order zero (suc k) h m = omega (arith, g.behind k (omega arith))
    order (suc j) (suc k) h m = g.order j k (omega arith) (omega arith)

    not_up : (k : ℕ) → k < length (x ∷ xs) → get_or (p ∷ ps) k 0 ≤ get_or (x ∷ xs) k 0
    not_up zero h = a.not_up
    not_up (suc k) h = g.not_up k (omega arith)

    disjoint : (j k : ℕ) → j < k → k < length (x ∷ xs) → end_of s (x ∷ xs) (p ∷ ps) j ≤ get_or (p ∷ ps) k 0
    disjoint j zero h m = absurd (omega arith)
    disjoint zero (suc k) h m = g.behind k (omega arith)
    disjoint (suc j) (suc k) h m = g.disjoint j k (omega arith) (omega arith)

    eights : (k : ℕ) → k < length (x ∷ xs) → get_or (p ∷ ps) k 0 % 8 ≡ 0
    eights zero h = a.eights
    eights (suc k) h = g.eights k (omega arith)

    behind : (k : ℕ) → k < length (x ∷ xs) → e ≤ get_or (p ∷ ps) k 0
    behind zero h = a.behind
    behind (suc k) h = omega (arith, a.behind, g.behind k (omega arith))

    gaps : (k : ℕ) → suc k < length (x ∷ xs) → Gap (end_of s (x ∷ xs) (p ∷ ps) k) (get_or (p ∷ ps) (suc k) 0)
    gaps zero h = g.first_gap (omega arith)
    gaps (suc k) h = g.gaps k (omega arith)

    good_more : GoodPlan s e (x ∷ xs) (p ∷ ps)
    good_more =
        record {
          number = ap suc g.number;
          order = order;
          not_up = not_up;
          disjoint = disjoint;
          eights = eights;
          behind = behind;
          first_gap = λ h. a.gap;
          gaps = gaps;
        }

  module _ (g : GoodPlan s e (x ∷ xs) (p ∷ ps)) where
    good_first : Start e x p
    good_first =
        record { eights = g.eights 0 (omega arith); not_up = g.not_up 0 (omega arith); behind = g.behind 0 (omega arith); gap = g.first_gap (omega arith) }

    good_rest : GoodPlan s (p + length_at s x) xs ps
    good_rest =
        record {
          number = let n : suc (length ps) ≡ suc (length xs) = g.number in omega arith;
          order = λ j k h m. g.order (suc j) (suc k) (omega arith) (omega arith);
          not_up = λ k h. g.not_up (suc k) (omega arith);
          disjoint = λ j k h m. g.disjoint (suc j) (suc k) (omega arith) (omega arith);
          eights = λ k h. g.eights (suc k) (omega arith);
          behind = λ k h. g.disjoint 0 (suc k) (omega arith) (omega arith);
          first_gap = λ h. g.gaps 0 (omega arith);
          gaps = λ k h. g.gaps (suc k) (omega arith);
        }

pub false_true : {C : Type 0} → false ≡ true → C
false_true e = let z : ◌≡◌ {A = ℕ} 0 1 = cc in absurd (omega arith)

plan_good : (s : List ℕ) (e : ℕ) (xs ps : List ℕ) → ((x : ℕ) → Memᴰ x xs → 1 ≤ length_at s x) → plan_from s e xs ps ≡ true → GoodPlan s e xs ps
unfolding plan_from
plan_good s e [] [] l h = good_none s e
plan_good s e [] (p ∷ ps) l h = false_true h
plan_good s e (x ∷ xs) [] l h = false_true h
plan_good s e (x ∷ xs) (p ∷ ps) l h = go (start_right e x p) refl h (plan_good s (p + length_at s x) xs ps (λ y m. l y (Memᴰ.tail m)))
  where
    go :
        (b : Bool) → start_right e x p ≡ b → pick b (plan_from s (p + length_at s x) xs ps) false ≡ true →
        (plan_from s (p + length_at s x) xs ps ≡ true → GoodPlan s (p + length_at s x) xs ps) → GoodPlan s e (x ∷ xs) (p ∷ ps)
    go true i k f = good_more s e x p xs ps (start_means e x p i) (l x (Memᴰ.head refl)) (f k)
    go false i k f = false_true k

good_plan : (s : List ℕ) (e : ℕ) (xs ps : List ℕ) → GoodPlan s e xs ps → plan_from s e xs ps ≡ true
unfolding plan_from
good_plan s e [] [] g = refl
good_plan s e [] (p ∷ ps) g = let n : suc (length ps) ≡ 0 = g.number in absurd (omega arith)
good_plan s e (x ∷ xs) [] g = let n : 0 ≡ suc (length xs) = g.number in absurd (omega arith)
good_plan s e (x ∷ xs) (p ∷ ps) g = rw (start_right_lem e x p (good_first s e x p xs ps g)) (good_plan s (p + length_at s x) xs ps (good_rest s e x p xs ps g))

pub kept_long : (s : List ℕ) (x : ℕ) → Memᴰ x (kept_starts s) → 1 ≤ length_at s x
unfolding kept_starts records
kept_long s x m =
    let h = select_member (is_kept s) (records s) m in
    omega (arith, (ok_means s x (starts_ok s x (header_end s) h.0)).long)

pub plan_exactly : PlanExactly
unfolding plan_right
plan_exactly s ps = (plan_good s (header_end s) (kept_starts s) ps (kept_long s), good_plan s (header_end s) (kept_starts s) ps)

-- the tight plan: of records one behind the other from `at` on, what is kept slides against e

tight_from_lem :
    (s : List ℕ) (at : ℕ) (xs : List ℕ) (end e : ℕ) → Stand s at xs end → e ≤ at → e % 8 ≡ 0 → at % 8 ≡ 0 →
    plan_from s e (select (is_kept s) xs) (tight_from s e (select (is_kept s) xs)) ≡ true
unfolding plan_from tight_from select
tight_from_lem s at [] end e w h i j = refl
tight_from_lem s at (x ∷ xs) end e w h i j =
    let o = ok_means s x w.1.0 in
    go (is_kept s x) refl
    (λ m. tight_from_lem s (x + length_at s x) xs end (e + length_at s x) w.1.1 (omega (arith, w.0)) (omega (arith, o.eights)) (omega (arith, o.eights, w.0)))
    (tight_from_lem s (x + length_at s x) xs end e w.1.1 (omega (arith, w.0)) i (omega (arith, o.eights, w.0)))
  where
    go :
        (b : Bool) → is_kept s x ≡ b →
        (Unit {0} → plan_from s (e + length_at s x) (select (is_kept s) xs) (tight_from s (e + length_at s x) (select (is_kept s) xs)) ≡ true) →
        plan_from s e (select (is_kept s) xs) (tight_from s e (select (is_kept s) xs)) ≡ true →
        plan_from s e (pick b (x ∷ select (is_kept s) xs) (select (is_kept s) xs)) (tight_from s e (pick b (x ∷ select (is_kept s) xs) (select (is_kept s) xs))) ≡ true
    go true k f g = rw (start_right_lem e x e (record { eights = i; not_up = omega (arith, w.0); behind = omega arith; gap = inl refl })) (f tt)
    go false k f g = g

-- the old starts: behind a kept record or the header stands a kept one, or a gap of whole records

same_gap : (e a b : ℕ) → a ≡ b → Gap e a → Gap e b
same_gap e a b q (inl z) = inl (sym q ∙ z)
same_gap e a b q (inr z) = inr (omega arith)

old_from :
    (s : List ℕ) (at : ℕ) (xs : List ℕ) (end e : ℕ) → Stand s at xs end → e ≤ at → Gap e at → at % 8 ≡ 0 →
    plan_from s e (select (is_kept s) xs) (select (is_kept s) xs) ≡ true
unfolding plan_from select
old_from s at [] end e w h g i = refl
old_from s at (x ∷ xs) end e w h g i =
    let o = ok_means s x w.1.0 in
    go (is_kept s x)
    (old_from s (x + length_at s x) xs end (x + length_at s x) w.1.1 (omega arith) (inl refl) (omega (arith, o.eights, w.0)))
    (old_from s (x + length_at s x) xs end e w.1.1 (omega (arith, w.0)) (inr (omega (arith, o.long, w.0))) (omega (arith, o.eights, w.0)))
  where
    go :
        (b : Bool) → plan_from s (x + length_at s x) (select (is_kept s) xs) (select (is_kept s) xs) ≡ true →
        plan_from s e (select (is_kept s) xs) (select (is_kept s) xs) ≡ true →
        plan_from s e (pick b (x ∷ select (is_kept s) xs) (select (is_kept s) xs)) (pick b (x ∷ select (is_kept s) xs) (select (is_kept s) xs)) ≡ true
    go true f k =
        rw
        (start_right_lem e x x
        (record { eights = omega (arith, w.0); not_up = omega arith; behind = omega (arith, w.0); gap = same_gap e at x (sym w.0) g }))
        f
    go false f k = k

pub header_eights : (s : List ℕ) (n : ℕ) → header_right s n ≡ true → header_end s % 8 ≡ 0
unfolding header_right frame_right length_right header_end
header_eights s n h = omega (arith, (means _ (means _ (means _ h).0).0).0)

pub old_accepted : OldAccepted
unfolding plan_right kept_starts
old_accepted s o =
    let a = o.sound in
    old_from s (header_end s) (records s) (length s) (header_end s) a.chain (omega arith) (inl refl) (header_eights s (length s) a.headed.header)

pub tight_accepted : TightAccepted
unfolding plan_right tight_plan kept_starts
tight_accepted s o =
    let a = o.sound in
    let e = header_eights s (length s) a.headed.header in
    tight_from_lem s (header_end s) (records s) (length s) (header_end s) a.chain (omega arith) e e
