-- A row of cells made in place, and the sums and differences that it takes. Assumes nothing.
use Rattle.std.proofs.Common.{◌≡◌, ℕ, suc, ◌+◌, ◌-◌, ◌%◌, ◌<◌, ◌≤◌, List, ◌++◌, length, get_or, take, drop, set, sym, refl, ap, ◌∙◌, append-nil, add-one, arith, drop_of_length-le, take_all, drop-cons, take-suc-set, drop-set-lt, eq-eqb, ne_eqb}
use lib.Seq.{append_snoc}
use Rattle.predict.specs.Predict.{plus, minus, linear, triangle, predicted, row_from, row_of}

pub summed : (a b c s r : ℕ) → s ≡ (a + b) % 4294967296 → (r + c) % 4294967296 ≡ s → r < 4294967296 → r ≡ minus (plus a b) c
unfolding plus minus
summed a b c s r e f h = omega arith

pub added : (g d q r : ℕ) → g ≡ q → r ≡ (g + d) % 4294967296 → r ≡ plus q d
unfolding plus
added g d q r e f = f ∙ ap (λ (m : ℕ). (m + d) % 4294967296) e

-- what is predicted, by cases

module _ (p : ℕ) (above : List ℕ) (i left second : ℕ) where
  pub at_first : i ≡ 0 → get_or above 0 0 ≡ predicted p above i left second
  unfolding predicted
  at_first h = rw (eq-eqb i 0 h)

  module _ (n : i ≡ 0 → ⊥) where
    pub by_difference : p ≡ 0 → left ≡ predicted p above i left second
    unfolding predicted
    by_difference h = rw (ne_eqb i 0 n, eq-eqb p 0 h)

    pub by_line : (r : ℕ) → p ≡ 1 → r ≡ linear i left second → r ≡ predicted p above i left second
    unfolding predicted
    by_line r h e = rw (ne_eqb i 0 n, ne_eqb p 0 (λ q. omega arith), eq-eqb p 1 h) e

    pub by_triangle : (u c r : ℕ) → (p ≡ 0 → ⊥) → (p ≡ 1 → ⊥) → u ≡ get_or above i 0 → c ≡ get_or above (i - 1) 0 → r ≡ minus (plus left u) c → r ≡ predicted p above i left second
    unfolding predicted triangle
    by_triangle u c r h k e f g = rw (ne_eqb i 0 n, ne_eqb p 0 h, ne_eqb p 1 k) (g ∙ rw (e, f))

pub no_line : (i left second : ℕ) → i ≡ 1 → left ≡ linear i left second
unfolding linear
no_line i left second h = rw (eq-eqb i 1 h)

pub a_line : (i left second r : ℕ) → (i ≡ 1 → ⊥) → r ≡ minus (plus left left) second → r ≡ linear i left second
unfolding linear
a_line i left second r h e = rw (ne_eqb i 1 h) e

-- a row under way: what stands done up to i, and what is still to do
unfoldable pub doing : ℕ → List ℕ → List ℕ → ℕ → ℕ → ℕ → List ℕ
doing p above row i left second = take i row ++ row_from p above i left second (drop i row)

module _ (p : ℕ) (above : List ℕ) where
  pub begin : (row : List ℕ) → doing p above row 0 0 0 ≡ row_of p above row
  unfolding doing row_of
  begin row = refl

  more :
      (row : List ℕ) (i left second : ℕ) → i < length row →
      doing p above (set row i (plus (predicted p above i left second) (get_or row i 0))) (i + 1) (plus (predicted p above i left second) (get_or row i 0)) left
      ≡ doing p above row i left second
  unfolding doing row_from
  more row i left second h =
      let v : ℕ = plus (predicted p above i left second) (get_or row i 0) in
      rw (add-one i)
      (rw (take-suc-set row i v h, drop-set-lt (suc i) row i v (omega arith), drop-cons row i 0 h, add-one i)
      (append_snoc (take i row) v _))

  pub again :
      (row w : List ℕ) (i left second v : ℕ) → doing p above row i left second ≡ w → v ≡ plus (predicted p above i left second) (get_or row i 0) → i < length row →
      doing p above (set row i v) (i + 1) v left ≡ w
  again row w i left second v e f h = rw f (more row i left second h ∙ e)

  pub end : (row w : List ℕ) (i left second : ℕ) → doing p above row i left second ≡ w → length row ≤ i → row ≡ w
  unfolding doing row_from
  end row w i left second e h = sym (rw (take_all i row h, drop_of_length-le row h) (append-nil row)) ∙ e
