-- The end of a block, and what the places up to it share. Assumes nothing.
use Prim.Native.Nat.{ℕ, ◌+◌, ◌-◌, ◌*◌, ◌/◌, ◌%◌, ◌≤◌, ◌<◌}
use mathlib.Core.Path.{◌≡◌, sym, ap, ◌∙◌}
use mathlib.Core.Logic.{by_cases}
use native.Mathlib.Decide.{dec_le}
use native.Mathlib.Omega.{arith}
use native.Mathlib.Nat.{add-mod, mod-eq_of_lt, mod-eq-sub-mod, div-add-mod', mod-lt, div-eq_of_lt-le}
use Rattle.blocks.specs.Blocks.{block_end, OneBlock}

-- a sum's remainder, from those of its parts

module _ (a b m : ℕ) (p : 1 ≤ m) where
  pub sum_under : a % m < m - b % m → (a % m + b % m ≡ (a + b) % m) × (a % m + b % m < m)
  sum_under h =
      let l : a % m + b % m < m = omega arith in
      (sym (add-mod a b m ∙ mod-eq_of_lt l), l)

  pub sum_over : m - b % m ≤ a % m → (a % m - (m - b % m) ≡ (a + b) % m) × (a % m - (m - b % m) < m)
  sum_over h =
      let j = mod-lt a p in
      let k = mod-lt b p in
      let e : a % m + b % m - m ≡ a % m - (m - b % m) = omega arith in
      (sym (add-mod a b m ∙ mod-eq-sub-mod (omega arith) ∙ mod-eq_of_lt (omega arith) ∙ e), omega arith)

-- the end, from what is left of the block

pub end_none : (first at side end : ℕ) → side ≡ 0 → 0 ≡ block_end first at side end
unfolding block_end
end_none first at side end e = rw e (omega arith)

module _ (first at side end : ℕ) (p : 1 ≤ side) where
  next : first + at + (side - (first + at) % side) ≡ ((first + at) / side + 1) * side
  next = let e = div-add-mod' (first + at) side in let m = mod-lt (first + at) p in omega arith

  pub end_first : end ≤ at → end ≡ block_end first at side end
  unfolding block_end
  end_first h = omega (arith, next, mod-lt (first + at) p)

  module _ (r : ℕ) (e : r ≡ (first + at) % side) (h : at < end) where
    pub end_inside : side - r < end - at → at + (side - r) ≡ block_end first at side end
    unfolding block_end
    end_inside k = omega (arith, next)

    pub end_past : end - at ≤ side - r → end ≡ block_end first at side end
    unfolding block_end
    end_past k = omega (arith, next)

  -- a step goes forward, and not past the end
  pub block_more : at < end → at < block_end first at side end
  unfolding block_end
  block_more h = omega (arith, next, mod-lt (first + at) p)

  pub block_within : block_end first at side end ≤ end
  unfolding block_end
  block_within = omega arith

  -- up to it the places are in one block
  pub block_same : OneBlock first at (block_end first at side end) side
  unfolding block_end
  block_same =
      record {
        each = λ x h k. div-eq_of_lt-le side (omega (arith, div-add-mod' (first + at) side)) (omega arith);
      }

-- the next piece of a part, by the code's block end and its side

module _ (first at side end r t : ℕ) (e : r ≡ block_end first at side end) (q : side ≡ t) (p : 1 ≤ t) where
  pub piece_next : at < end → (at < r) × ((r ≤ end) × OneBlock first at r t)
  piece_next h =
      let l : 1 ≤ side = omega arith in
      rw (← q, e) (block_more first at side end l h, (block_within first at side end l, block_same first at side end l))

-- a block has no more places than its length
pub block_few : (first at next side : ℕ) → OneBlock first at next side → 1 ≤ side → next - at ≤ side
block_few first at next side o p =
    by_cases (dec_le (at + 1) next)
    (λ h.
    let x : ℕ = next - 1 in
    let e : (first + x) / side ≡ (first + at) / side = o.each x (omega arith) (omega arith) in
    let m : (first + x) / side * side ≡ (first + at) / side * side = ap (λ (n : ℕ). n * side) e in
    omega (arith, m, div-add-mod' (first + x) side, mod-lt (first + x) p, div-add-mod' (first + at) side))
    (λ h. omega arith)
