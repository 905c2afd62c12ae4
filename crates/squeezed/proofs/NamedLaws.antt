-- Old contents and new ones, by an accepted plan. Assumes nothing.
use Prim.Native.Nat.{ℕ, zero, suc, ◌+◌, ◌%◌, ◌≤◌, ◌<◌}
use mathlib.Core.Path.{◌≡◌, refl, sym, ap, ◌∙◌}
use mathlib.Core.Logic.{◌⊎◌, inl, inr, ⊎_elim}
use mathlib.Core.List.Memᴰ
use mathlib.Core.List.{List, [], ◌∷◌, Memᴰ}
use mathlib.Core.Bool.{Bool, true, false}
use native.Mathlib.Omega.{arith}
use lib.ListN.{length}
use lib.Dec.{eqb}
use borrow.Author.Tests.{eq-eqb, ne_eqb, eqb-true}
use Rattle.wire.specs.Pick.{pick}
use Rattle.wire.specs.Lists.{select}
use Rattle.wire.proofs.ListLaws.{select_member}
use Rattle.record.specs.Record.{length_at, content_at, type_at}
use Rattle.record.specs.Chain.{Stand}
use Rattle.record.proofs.ChainLaws.{ok_means}
use Rattle.correct.specs.Plan.{is_kept, plan_from, start_right, end_from, end_of}
use Rattle.correct.specs.Renamed.{named_by}
use Rattle.squeezed.proofs.PlanLaws.{Start, start_means, false_true}

-- those of a type are kept
pub select_kept : (s : List ℕ) (kind : ℕ) → (kind ≡ 0 → ⊥) → (l : List ℕ) → select (λ x. eqb (type_at s x) kind) (select (is_kept s) l) ≡ select (λ x. eqb (type_at s x) kind) l
unfolding select is_kept
select_kept s kind z [] = refl
select_kept s kind z (x ∷ l) = go (eqb (type_at s x) 0) refl (eqb (type_at s x) kind) refl (select_kept s kind z l)
  where
    go :
        (b : Bool) → eqb (type_at s x) 0 ≡ b → (c : Bool) → eqb (type_at s x) kind ≡ c →
        select (λ y. eqb (type_at s y) kind) (select (is_kept s) l) ≡ select (λ y. eqb (type_at s y) kind) l →
        select (λ y. eqb (type_at s y) kind) (pick (is_kept s x) (x ∷ select (is_kept s) l) (select (is_kept s) l))
        ≡ pick (eqb (type_at s x) kind) (x ∷ select (λ y. eqb (type_at s y) kind) l) (select (λ y. eqb (type_at s y) kind) l)
    go true i true j r = absurd (z (sym (eqb-true _ _ j) ∙ eqb-true _ _ i))
    go true i false j r = rw (i, j) r
    go false i true j r = rw (i, j, r)
    go false i false j r = rw (i, j, r)

-- starts ascend
abbrev pub Asc : List ℕ → Type 0
Asc [] = Unit {0}
Asc (x ∷ xs) = ((y : ℕ) → Memᴰ y xs → x < y) × Asc xs

pub stand_above : (s : List ℕ) (at : ℕ) (ys : List ℕ) (end : ℕ) → Stand s at ys end → (y : ℕ) → Memᴰ y ys → at ≤ y
stand_above s at [] end w y m = absurd (Memᴰ.not-nil m)
stand_above s at (x ∷ xs) end w y m =
    let o = ok_means s x w.1.0 in
    ⊎_elim (λ e. omega (arith, w.0)) (λ n. omega (arith, stand_above s (x + length_at s x) xs end w.1.1 y n, w.0)) (Memᴰ.cases_cons m)

pub stand_asc : (s : List ℕ) (p : ℕ → Bool) (at : ℕ) (ys : List ℕ) (end : ℕ) → Stand s at ys end → Asc (select p ys)
unfolding select
stand_asc s p at [] end w = _
stand_asc s p at (x ∷ xs) end w = go (p x) (stand_asc s p (x + length_at s x) xs end w.1.1)
  where
    go : (b : Bool) → Asc (select p xs) → Asc (pick b (x ∷ select p xs) (select p xs))
    go true a = (
      λ y m.
          let o = ok_means s x w.1.0 in
          omega (arith, o.long, stand_above s (x + length_at s x) xs end w.1.1 y (select_member p xs m).0),
      a,
    )
    go false a = a

-- the map

pub named_zero : (xs ps : List ℕ) → named_by xs ps 0 ≡ 0
unfolding named_by
named_zero [] ps = refl
named_zero (x ∷ xs) [] = refl
named_zero (x ∷ xs) (p ∷ ps) = rw (ne_eqb (content_at x) 0 (λ z. omega arith)) (named_zero xs ps)

pub record Step (s : List ℕ) (e x p : ℕ) (xs ps : List ℕ) : Type 0 where
  pub start : Start e x p
  pub rest : plan_from s (p + length_at s x) xs ps ≡ true

pub step : (s : List ℕ) (e x p : ℕ) (xs ps : List ℕ) → plan_from s e (x ∷ xs) (p ∷ ps) ≡ true → Step s e x p xs ps
unfolding plan_from
step s e x p xs ps h = go (start_right e x p) refl h
  where
    go : (b : Bool) → start_right e x p ≡ b → pick b (plan_from s (p + length_at s x) xs ps) false ≡ true → Step s e x p xs ps
    go true i k = record { start = start_means e x p i; rest = k }
    go false i k = false_true k

-- what is named is a multiple of 8 below the ceiling
pub named_range :
    (s : List ℕ) (e : ℕ) (xs ps : List ℕ) → plan_from s e xs ps ≡ true → ((x : ℕ) → Memᴰ x xs → x ≤ 16777216) → (c : ℕ) →
    (named_by xs ps c % 8 ≡ 0) × (named_by xs ps c ≤ 16777224)
unfolding named_by plan_from
named_range s e [] ps h n c = (omega arith, omega arith)
named_range s e (x ∷ xs) [] h n c = false_true h
named_range s e (x ∷ xs) (p ∷ ps) h n c =
    let y = step s e x p xs ps h in
    go y (eqb (content_at x) c) (named_range s (p + length_at s x) xs ps y.rest (λ z m. n z (Memᴰ.tail m)) c)
  where
    go :
        Step s e x p xs ps → (b : Bool) → (named_by xs ps c % 8 ≡ 0) × (named_by xs ps c ≤ 16777224) →
        (pick b (content_at p) (named_by xs ps c) % 8 ≡ 0) × (pick b (content_at p) (named_by xs ps c) ≤ 16777224)
    go y true r = (omega (arith, y.start.eights), omega (arith, y.start.not_up, n x (Memᴰ.head refl)))
    go y false r = r

-- a kept record is named, behind e
named_behind : (s : List ℕ) (e : ℕ) (xs ps : List ℕ) → plan_from s e xs ps ≡ true → (x : ℕ) → Memᴰ x xs → e + 8 ≤ named_by xs ps (content_at x)
unfolding named_by plan_from
named_behind s e [] ps h x m = absurd (Memᴰ.not-nil m)
named_behind s e (v ∷ xs) [] h x m = false_true h
named_behind s e (v ∷ xs) (p ∷ ps) h x m =
    let y = step s e v p xs ps h in
    go y.start.behind (eqb (content_at v) (content_at x)) refl (Memᴰ.cases_cons m) (λ n. named_behind s (p + length_at s v) xs ps y.rest x n)
  where
    go :
        e ≤ p → (b : Bool) → eqb (content_at v) (content_at x) ≡ b → (x ≡ v) ⊎ Memᴰ x xs →
        (Memᴰ x xs → p + length_at s v + 8 ≤ named_by xs ps (content_at x)) → e + 8 ≤ pick b (content_at p) (named_by xs ps (content_at x))
    go l true i k f = omega arith
    go l false i (inl k) f = false_true (sym i ∙ eq-eqb (content_at v) (content_at x) (ap content_at (sym k)))
    go l false i (inr k) f = omega (arith, f k)

pub named_found : (s : List ℕ) (e : ℕ) (xs ps : List ℕ) → plan_from s e xs ps ≡ true → (x : ℕ) → Memᴰ x xs → 8 ≤ named_by xs ps (content_at x)
named_found s e xs ps h x m = omega (arith, named_behind s e xs ps h x m)

pub named_first : (x p : ℕ) (xs ps : List ℕ) → named_by (x ∷ xs) (p ∷ ps) (content_at x) ≡ content_at p
unfolding named_by
named_first x p xs ps = rw (eq-eqb (content_at x) (content_at x) refl)

pub named_rest : (x p : ℕ) (xs ps : List ℕ) (y : ℕ) → x < y → named_by (x ∷ xs) (p ∷ ps) (content_at y) ≡ named_by xs ps (content_at y)
unfolding named_by
named_rest x p xs ps y h = rw (ne_eqb (content_at x) (content_at y) (λ z. omega arith))

-- what stands behind is named behind
pub named_up :
    (s : List ℕ) (e : ℕ) (xs ps : List ℕ) → Asc xs → plan_from s e xs ps ≡ true → ((x : ℕ) → Memᴰ x xs → 1 ≤ length_at s x) → (x y : ℕ) →
    Memᴰ x xs → Memᴰ y xs → x < y → named_by xs ps (content_at x) < named_by xs ps (content_at y)
unfolding plan_from
named_up s e [] ps a h l x y m n u = absurd (Memᴰ.not-nil m)
named_up s e (v ∷ xs) [] a h l x y m n u = false_true h
named_up s e (v ∷ xs) (p ∷ ps) a h l x y m n u =
    go (Memᴰ.cases_cons m) (Memᴰ.cases_cons n)
    (λ i j. named_up s (p + length_at s v) xs ps a.1 (step s e v p xs ps h).rest (λ z k. l z (Memᴰ.tail k)) x y i j u)
  where
    w : Step s e v p xs ps
    w = step s e v p xs ps h

    rest : (z : ℕ) → Memᴰ z xs → named_by (v ∷ xs) (p ∷ ps) (content_at z) ≡ named_by xs ps (content_at z)
    rest z k = named_rest v p xs ps z (a.0 z k)

    go :
        (x ≡ v) ⊎ Memᴰ x xs → (y ≡ v) ⊎ Memᴰ y xs → (Memᴰ x xs → Memᴰ y xs → named_by xs ps (content_at x) < named_by xs ps (content_at y)) →
        named_by (v ∷ xs) (p ∷ ps) (content_at x) < named_by (v ∷ xs) (p ∷ ps) (content_at y)
    go (inl i) (inl j) f = absurd (omega arith)
    go (inl i) (inr j) f =
        let q : named_by (v ∷ xs) (p ∷ ps) (content_at x) ≡ content_at p = ap (λ (z : ℕ). named_by (v ∷ xs) (p ∷ ps) (content_at z)) i ∙ named_first v p xs ps in
        omega (arith, q, rest y j, named_behind s (p + length_at s v) xs ps w.rest y j, l v (Memᴰ.head refl))
    go (inr i) (inl j) f = absurd (omega (arith, a.0 x i))
    go (inr i) (inr j) f = omega (arith, rest x i, rest y j, f i j)

-- the end of the last one
pub last_end : (s : List ℕ) (e : ℕ) (xs ps : List ℕ) → plan_from s e xs ps ≡ true → (k : ℕ) → length xs ≡ suc k → end_from s e xs ps ≡ end_of s xs ps k
unfolding plan_from end_from
last_end s e [] ps h k l = absurd (omega arith)
last_end s e (x ∷ xs) [] h k l = false_true h
last_end s e (x ∷ []) (p ∷ ps) h zero l = refl
last_end s e (x ∷ []) (p ∷ ps) h (suc k) l = absurd (omega arith)
last_end s e (x ∷ (y ∷ ys)) (p ∷ ps) h zero l = absurd (omega arith)
last_end s e (x ∷ (y ∷ ys)) (p ∷ ps) h (suc k) l = last_end s (p + length_at s x) (y ∷ ys) ps (step s e x p (y ∷ ys) ps h).rest k (omega arith)
