-- A list by rows that is filled stretch by stretch. Assumes nothing.
use Prim.Native.Nat.{ℕ, zero, suc, ◌+◌, ◌-◌, ◌≤◌, ◌<◌}
use mathlib.Core.Path.{◌≡◌, refl, sym, ap, ◌∙◌}
use mathlib.Core.List.{List, [], ◌++◌}
use mathlib.Core.Logic.{inr, by_cases}
use native.Mathlib.Decide.{dec_le}
use native.Mathlib.Omega.{arith}
use lib.ListN.{length, get_or, take, length-append, length-take, get_or-append}
use lib.Seq.{get_or-append-add, get_or-take, ext_get_or}
use borrow.Author.Tests.{eq-eqb, ne_eqb}
use Rattle.wire.specs.Bytes.{byte_at, put}
use Rattle.wire.proofs.PutLaws.{length_put, put_each_lem, put_outside}
use Rattle.blocks.specs.Folds.{fold_below, fold_rectangle, fold_inside}
use Rattle.blocks.proofs.FoldLaws.{lists}
use Rattle.blocks.proofs.InsideLaws.{inside_under, row_beside}
use Rattle.row_lists.specs.Placing.{all_of, stretch, start, Cut, Placed, up_to}

-- where rows start

module _ (D : ℕ → ℕ → List ℕ) (n : ℕ) where
  pub all_more : (r : ℕ) → all_of D n (r + 1) ≡ all_of D n r ++ stretch D r 0 n
  unfolding all_of stretch
  all_more r = inside_under ◌++◌ [] lists 0 r (r + 1) 0 n D (omega arith) (omega arith)

  pub start_more : (r : ℕ) → start D n (r + 1) ≡ start D n r + length (stretch D r 0 n)
  unfolding start
  start_more r = ap length (all_more r) ∙ length-append (all_of D n r) (stretch D r 0 n)

  pub start_first : start D n 0 ≡ 0
  unfolding start all_of fold_inside fold_rectangle fold_below
  start_first = refl

  start_grows : (r k : ℕ) → start D n r ≤ start D n (r + k)
  start_grows r zero = let z : r + 0 ≡ r = omega arith in rw z (omega arith)
  start_grows r (suc k) = let z : r + suc k ≡ r + k + 1 = omega arith in rw z (omega (arith, start_grows r k, start_more (r + k)))

  pub start_rises : (r m : ℕ) → r ≤ m → start D n r ≤ start D n m
  start_rises r m h = let z : r + (m - r) ≡ m = omega arith in rw z at (start_grows r (m - r))

  -- a stretch from the row's first column is the front of a longer one
  pub stretch_more : (r mid right : ℕ) → mid ≤ right → stretch D r 0 right ≡ stretch D r 0 mid ++ stretch D r mid right
  unfolding stretch
  stretch_more r mid right h = row_beside ◌++◌ [] lists r D 0 mid right (omega arith) h

  pub stretch_long : (r mid right : ℕ) → mid ≤ right → length (stretch D r 0 right) ≡ length (stretch D r 0 mid) + length (stretch D r mid right)
  stretch_long r mid right h = ap length (stretch_more r mid right h) ∙ length-append (stretch D r 0 mid) (stretch D r mid right)

  pub stretch_none : (r c : ℕ) → stretch D r c c ≡ []
  unfolding stretch fold_inside fold_rectangle fold_below
  stretch_none r c = let a : r + 1 - r ≡ 1 = omega arith in let b : c - c ≡ 0 = omega arith in rw (a, b)

  -- two rows share no place
  apart : (r r2 i i2 c c2 : ℕ) → c ≤ n → c2 ≤ n → i < length (stretch D r 0 c) → i2 < length (stretch D r2 0 c2) → start D n r + i ≡ start D n r2 + i2 → r ≡ r2
  apart r r2 i i2 c c2 h h2 k k2 e =
      let a = stretch_long r c n h in
      let b = stretch_long r2 c2 n h2 in
      by_cases (dec_le (r + 1) r2) (λ l. absurd (omega (arith, start_rises (r + 1) r2 l, start_more r)))
      (λ l. by_cases (dec_le (r2 + 1) r) (λ q. absurd (omega (arith, start_rises (r2 + 1) r q, start_more r2))) (λ q. omega arith))

  -- every place has a row
  row_of : (m p : ℕ) → p < start D n m → (r : ℕ) × (r < m) × ((start D n r ≤ p) × (p < start D n r + length (stretch D r 0 n)))
  row_of zero p h = absurd (omega (arith, start_first))
  row_of (suc m) p h =
      let z : suc m ≡ m + 1 = omega arith in
      let s : start D n (suc m) ≡ start D n m + length (stretch D m 0 n) = rw z (start_more m) in
      by_cases (dec_le (start D n m) p) (λ l. (m, omega arith, (l, omega arith)))
      (λ l. let y = row_of m p (omega arith) in (y.0, omega arith, y.2))

  -- what stands there in the whole
  all_at : (m r i : ℕ) → r < m → i < length (stretch D r 0 n) → get_or (all_of D n m) (start D n r + i) 0 ≡ get_or (stretch D r 0 n) i 0
  unfolding start
  all_at zero r i h k = absurd (omega arith)
  all_at (suc m) r i h k =
      let z : suc m ≡ m + 1 = omega arith in
      rw (z, all_more m)
      (by_cases (dec_le (r + 1) m)
      (λ l.
      get_or-append (all_of D n m) (stretch D m 0 n) 0 (length (all_of D n r) + i) (below_end l)
      ∙ all_at m r i (omega arith) k)
      (λ l. let q : r ≡ m = omega arith in rw q (get_or-append-add (all_of D n m) (stretch D m 0 n) i 0)))
    where
      below_end : r + 1 ≤ m → length (all_of D n r) + i < length (all_of D n m)
      below_end l =
          let a : start D n (r + 1) ≡ length (all_of D n r) + length (stretch D r 0 n) = start_more r in
          let b : start D n (r + 1) ≤ length (all_of D n m) = start_rises (r + 1) m l in
          omega arith

long_is : (D : ℕ → ℕ → List ℕ) (n m : ℕ) → length (all_of D n m) ≡ start D n m
unfolding start
long_is D n m = refl

outside_put : (d v : List ℕ) (i : ℕ) → length v ≤ i → get_or d i 0 ≡ get_or (put d 0 v) i 0
unfolding byte_at
outside_put d v i h = put_outside d 0 v i (inr (omega arith))

-- rows placed: none, one stretch more, all

module _ (D : ℕ → ℕ → List ℕ) (m n cap : ℕ) where
  pub placed_none : (done : ℕ → ℕ) (l : List ℕ) → ((r : ℕ) → done r ≡ 0) → Placed D m n cap done l l
  placed_none done l z =
      record {
        long = refl;
        in_row = λ r i h k q. absurd (omega (arith, ap length (ap (stretch D r 0) (z r) ∙ stretch_none D n r 0), k));
        outside = λ p f. refl;
      }

  module _ (done : ℕ → ℕ) (r right : ℕ) (h : r < m) (few : (k : ℕ) → done k ≤ n) (w : done r ≤ right) (u : right ≤ n) where
    up_here : up_to done r right r ≡ right
    unfolding up_to
    up_here = rw (eq-eqb r r refl)

    up_other : (k : ℕ) → (k ≡ r → ⊥) → up_to done r right k ≡ done k
    unfolding up_to
    up_other k f = rw (ne_eqb k r f)

    abbrev first : List ℕ
    first = stretch D r 0 (done r)

    abbrev more : List ℕ
    more = stretch D r (done r) right

    both : stretch D r 0 right ≡ first ++ more
    both = stretch_more D n r (done r) right w

    -- the stretch that follows in row r
    pub placed_more :
        (old mid now : List ℕ) → Placed D m n cap done old mid → Cut cap (start D n r + length first) more mid now → Placed D m n cap (up_to done r right) old now
    placed_more old mid now p c =
        record {
          long = c.long ∙ p.long;
          in_row = λ k i a b q. by_cases (dec_le (k + 1) r) (λ l. other k i a (λ e. omega arith) b q)
              (λ l. by_cases (dec_le (r + 1) k) (λ t. other k i a (λ e. omega arith) b q) (λ t. let e : k ≡ r = omega arith in here k i e b q));
          outside = λ y f.
              c.else y (λ i a b e. f r (length first + i) h (rw (up_here, both) (omega (arith, length-append first more, a))) (omega (arith, b)) (omega (arith, e)))
              ∙ p.outside y (λ k i a b q e. f k i a (wider k i b) q e);
        }
      where
        wider : (k i : ℕ) → i < length (stretch D k 0 (done k)) → i < length (stretch D k 0 (up_to done r right k))
        wider k i b =
            by_cases (dec_le (k + 1) r) (λ l. rw (up_other k (λ e. omega arith)) b)
            (λ l. by_cases (dec_le (r + 1) k) (λ t. rw (up_other k (λ e. omega arith)) b)
            (λ t. let e : k ≡ r = omega arith in rw (e, up_here, both) (omega (arith, length-append first more, rw e at b))))

        other :
            (k i : ℕ) → k < m → (k ≡ r → ⊥) → i < length (stretch D k 0 (up_to done r right k)) → start D n k + i < cap →
            get_or now (start D n k + i) 0 ≡ get_or (stretch D k 0 (up_to done r right k)) i 0
        other k i a f b q =
            let e = up_other k f in
            let g : i < length (stretch D k 0 (done k)) = rw e at b in
            rw e
            (c.else (start D n k + i)
            (λ j s t z.
            f (apart D n k r i (length first + j) (done k) right (few k) u g (rw both (omega (arith, length-append first more, s))) (omega (arith, z))))
            ∙ p.in_row k i a g q)

        here :
            (k i : ℕ) → k ≡ r → i < length (stretch D k 0 (up_to done r right k)) → start D n k + i < cap →
            get_or now (start D n k + i) 0 ≡ get_or (stretch D k 0 (up_to done r right k)) i 0
        here k i e b q =
            let g : i < length (first ++ more) = rw (e, up_here, both) at b in
            let o : start D n r + i < cap = rw e at q in
            rw (e, up_here, both)
            (by_cases (dec_le (i + 1) (length first))
            (λ l.
            c.else (start D n r + i) (λ j s t z. omega arith) ∙ p.in_row r i h (omega arith) o ∙ sym (get_or-append first more 0 i (omega arith)))
            (λ l.
            let z : start D n r + length first + (i - length first) ≡ start D n r + i = omega arith in
            let y : length first + (i - length first) ≡ i = omega arith in
            sym (ap (λ (v : ℕ). get_or now v 0) z) ∙ c.new (i - length first) (omega (arith, length-append first more, g)) (omega arith)
            ∙ sym (sym (ap (λ (v : ℕ). get_or (first ++ more) v 0) y) ∙ get_or-append-add first more (i - length first) 0)))

  -- all rows
  pub placed_all :
      (done : ℕ → ℕ) (old now : List ℕ) → Placed D m n cap done old now → ((r : ℕ) → r < m → done r ≡ n) → cap ≤ length old → now ≡ put old 0 (take cap (all_of D n m))
  placed_all done old now p d h =
      let v : List ℕ = take cap (all_of D n m) in
      let l : length v ≤ length old = omega (arith, length-take cap (all_of D n m)) in
      ext_get_or 0 now (put old 0 v) (p.long ∙ sym (length_put old 0 v))
      (λ i b.
      by_cases (dec_le (length v) i)
      (λ q.
      p.outside i
      (λ r j a c t e.
      let z : j < length (stretch D r 0 n) = rw (d r a) at c in
      absurd (omega (arith, length-take cap (all_of D n m), start_more D n r, start_rises D n (r + 1) m (omega arith), all_long)))
      ∙ outside_put old v i q)
      (λ q.
      let y = row_of D n m i (omega (arith, length-take cap (all_of D n m), all_long)) in
      let r : ℕ = y.0 in
      let j : ℕ = i - start D n r in
      let s : start D n r + j ≡ i = omega (arith, y.2.0) in
      let k : j < length (stretch D r 0 n) = omega (arith, y.2) in
      let a : get_or now (start D n r + j) 0 ≡ get_or (stretch D r 0 (done r)) j 0 = p.in_row r j y.1 (rw (d r y.1) k) (omega (arith, length-take cap (all_of D n m))) in
      let e : get_or now i 0 ≡ get_or (stretch D r 0 n) j 0 = rw (s, d r y.1) at a in
      let f : get_or (all_of D n m) i 0 ≡ get_or (stretch D r 0 n) j 0 = rw s at (all_at D n m r j y.1 k) in
      let g : get_or v i 0 ≡ get_or (all_of D n m) i 0 = get_or-take cap (all_of D n m) i 0 (omega (arith, length-take cap (all_of D n m))) in
      let o : 0 + i ≡ i = omega arith in
      e ∙ sym f ∙ sym g ∙ sym (rw o at (put_each_lem old 0 v i (omega arith) (omega arith)))))
    where
      all_long : length (all_of D n m) ≡ start D n m
      all_long = long_is D n m
