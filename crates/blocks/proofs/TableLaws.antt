-- Tables by rows, and a list that is filled with one. Assumes nothing.
use Prim.Native.Nat.{ℕ, zero, suc, ◌+◌, ◌*◌, ◌/◌, ◌%◌, ◌≤◌, ◌<◌}
use mathlib.Core.Path.{◌≡◌, refl, sym, ap, ◌∙◌}
use mathlib.Core.List.{List, map}
use mathlib.Core.Logic.{◌⊎◌, inl, inr, ⊎_elim, by_cases}
use native.Mathlib.Decide.{dec_le}
use native.Mathlib.Omega.{arith}
use native.Mathlib.Nat.{div-add-mod', mod-lt, div-eq_of_lt-le, div-lt_iff_lt-mul, mul-le-mul_right}
use lib.ListN.{length, get_or, set, length-append, length-set, get_or-append}
use lib.Seq.{get_or-append-add, get_or-set_same, get_or-set_other, ext_get_or}
use Rattle.wire.specs.Lists.{below}
use Rattle.wire.specs.Bytes.{byte_at, put}
use Rattle.wire.proofs.ListLaws.{below_long, below_at}
use Rattle.wire.proofs.PutLaws.{length_put, put_each_lem, put_outside}
use Rattle.blocks.specs.Tables.{tabled, Inside, Filled}

-- a place in the list, its row and its column

module _ (m n r c : ℕ) (h : r < m) (k : c < n) where
  pub place_less : r * n + c < m * n
  place_less = let l : (r + 1) * n ≤ m * n = mul-le-mul_right n (omega arith) in omega arith

-- a place fixes its row and its column
pub same_place : (n r c r2 c2 : ℕ) → r * n + c ≡ r2 * n + c2 → c < n → c2 < n → (r ≡ r2) × (c ≡ c2)
same_place n r c r2 c2 e h k =
    let p : (r * n + c) / n ≡ r = div-eq_of_lt-le n (omega arith) (omega arith) in
    let q : (r2 * n + c2) / n ≡ r2 = div-eq_of_lt-le n (omega arith) (omega arith) in
    let z : r ≡ r2 = sym p ∙ ap (λ (i : ℕ). i / n) e ∙ q in
    (z, omega (arith, ap (λ (x : ℕ). x * n) z))

-- and each place below m × n has one
pub place_row : (m n i : ℕ) → i < m * n → (i / n < m) × (i % n < n) × (i / n * n + i % n ≡ i)
place_row m n i h =
    let p : 0 < n = by_cases (dec_le 1 n) (λ l. l) (λ l. let z : n ≡ 0 = omega arith in absurd (omega (arith, rw z at h))) in
    ((div-lt_iff_lt-mul p).1 h, mod-lt i p, div-add-mod' i n)

-- the table

pub tabled_long : (m n : ℕ) (g : ℕ → ℕ → ℕ) → length (tabled m n g) ≡ m * n
unfolding tabled
tabled_long zero n g = omega arith
tabled_long (suc m) n g = length-append (tabled m n g) (map (g m) (below n)) ∙ omega (arith, tabled_long m n g, below_long (g m) n)

pub tabled_at : (m n : ℕ) (g : ℕ → ℕ → ℕ) (r c : ℕ) → r < m → c < n → get_or (tabled m n g) (r * n + c) 0 ≡ g r c
unfolding tabled
tabled_at zero n g r c h k = absurd (omega arith)
tabled_at (suc m) n g r c h k =
    let l = tabled_long m n g in
    by_cases (dec_le (r + 1) m)
    (λ p. get_or-append (tabled m n g) (map (g m) (below n)) 0 (r * n + c) (omega (arith, place_less m n r c (omega arith) k)) ∙ tabled_at m n g r c (omega arith) k)
    (λ p.
    let z : r ≡ m = omega arith in
    rw (z, ← l) (get_or-append-add (tabled m n g) (map (g m) (below n)) c 0 ∙ below_at (g m) n c k))

behind : (d v : List ℕ) (i : ℕ) → length v ≤ i → get_or d i 0 ≡ get_or (put d 0 v) i 0
unfolding byte_at
behind d v i h = put_outside d 0 v i (inr (omega arith))

-- a list that is filled: nothing, one number, one area behind another, all

module _ {n : ℕ} {g : ℕ → ℕ → ℕ} where
  pub filled_none : {area : ℕ → ℕ → Type 0} (l : List ℕ) → ((r c : ℕ) → area r c → ⊥) → Filled n g area l l
  filled_none l f = record { long = refl; in_area = λ r c a. absurd (f r c a); outside = λ i h. refl }

  pub filled_one : (r c v : ℕ) (l : List ℕ) → v ≡ g r c → r * n + c < length l → Filled n g (Inside r (r + 1) c (c + 1)) l (set l (r * n + c) v)
  filled_one r c v l e h =
      record {
        long = length-set l (r * n + c) v;
        in_area = λ r2 c2 a.
            let p : r2 ≡ r = omega arith in
            let q : c2 ≡ c = omega arith in
            rw (p, q) (get_or-set_same l (r * n + c) v 0 h ∙ e);
        outside = λ i f. get_or-set_other l (r * n + c) i v 0 (λ z. f r c (omega arith) z);
      }

  -- with other numbers that are the same there
  pub filled_as : {g2 : ℕ → ℕ → ℕ} {area : ℕ → ℕ → Type 0} {old now : List ℕ} → Filled n g area old now → ((r c : ℕ) → area r c → g r c ≡ g2 r c) → Filled n g2 area old now
  filled_as f e = record { long = f.long; in_area = λ r c a. f.in_area r c a ∙ e r c a; outside = f.outside }

  -- where each number of the whole is among the second, or among the first and not the second
  pub filled_join :
      {first second whole : ℕ → ℕ → Type 0} {old mid now : List ℕ} → Filled n g first old mid → Filled n g second mid now →
      ((r c : ℕ) → first r c → (c < n) × whole r c) → ((r c : ℕ) → second r c → (c < n) × whole r c) →
      ((r c : ℕ) → whole r c → second r c ⊎ (first r c × (second r c → ⊥))) → Filled n g whole old now
  filled_join {first} {second} p q a b w =
      record {
        long = q.long ∙ p.long;
        in_area = λ r c h.
            ⊎_elim (λ k. q.in_area r c k)
            (λ k.
            q.outside (r * n + c)
            (λ r2 c2 l e.
            let z = same_place n r c r2 c2 e (a r c k.0).0 (b r2 c2 l).0 in
            k.1 (rw (← z.0, ← z.1) at l))
            ∙ p.in_area r c k.0)
            (w r c h);
        outside = λ i f. q.outside i (λ r c l e. f r c (b r c l).1 e) ∙ p.outside i (λ r c l e. f r c (a r c l).1 e);
      }

  module _ {top mid bottom left right : ℕ} {old now : List ℕ} {half : List ℕ} where
    -- one rectangle under another
    pub filled_under :
        Filled n g (Inside top mid left right) old half → Filled n g (Inside mid bottom left right) half now → right ≤ n → top ≤ mid → mid ≤ bottom →
        Filled n g (Inside top bottom left right) old now
    filled_under p q w h k =
        filled_join p q (λ r c a. omega arith) (λ r c a. omega arith)
        (λ r c a. by_cases (dec_le mid r) (λ l. inl (omega arith)) (λ l. inr (omega arith, (λ b. omega arith))))

  module _ {top bottom left mid right : ℕ} {old half now : List ℕ} where
    -- and one beside another
    pub filled_beside :
        Filled n g (Inside top bottom left mid) old half → Filled n g (Inside top bottom mid right) half now → right ≤ n → left ≤ mid → mid ≤ right →
        Filled n g (Inside top bottom left right) old now
    filled_beside p q w h k =
        filled_join p q (λ r c a. omega arith) (λ r c a. omega arith)
        (λ r c a. by_cases (dec_le mid c) (λ l. inl (omega arith)) (λ l. inr (omega arith, (λ b. omega arith))))

  -- all of it
  pub filled_all : {m : ℕ} {old now : List ℕ} → Filled n g (Inside 0 m 0 n) old now → m * n ≤ length old → now ≡ put old 0 (tabled m n g)
  filled_all {m} {old} {now} f h =
      let l = tabled_long m n g in
      ext_get_or 0 now (put old 0 (tabled m n g)) (f.long ∙ sym (length_put old 0 (tabled m n g)))
      (λ i b.
      by_cases (dec_le (m * n) i)
      (λ p. f.outside i (λ r c a z. omega (arith, place_less m n r c a.to_bottom a.to_right)) ∙ behind old (tabled m n g) i (omega arith))
      (λ p.
      let q = place_row m n i (omega arith) in
      let u : get_or now i 0 ≡ g (i / n) (i % n) = rw q.2 at (f.in_area (i / n) (i % n) (omega arith)) in
      let v : get_or (tabled m n g) i 0 ≡ g (i / n) (i % n) = rw q.2 at (tabled_at m n g (i / n) (i % n) q.0 q.1) in
      let z : 0 + i ≡ i = omega arith in
      u ∙ sym v ∙ sym (rw z at (put_each_lem old 0 (tabled m n g) i (omega arith) (omega arith)))))
