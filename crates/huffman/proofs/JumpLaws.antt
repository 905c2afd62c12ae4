-- A jump leads where its bits lead one by one. Assumes nothing.
use Prim.Native.Nat.{ℕ, zero, suc, ◌+◌, ◌-◌, ◌*◌, ◌/◌, ◌%◌, ◌≤◌, ◌<◌}
use mathlib.Core.Path.{◌≡◌, refl, sym, ap, ◌∙◌}
use mathlib.Core.List.{List, [], ◌∷◌}
use mathlib.Core.Logic.{by_cases}
use native.Mathlib.Omega.{arith}
use native.Mathlib.Decide.{dec_le}
use lib.ListN.{length, get_or, set, length-append, get_or-append}
use lib.Seq.{get_or-set_same, get_or-set_other, get_or_at, ext_get_or}
use lib.Dec.{leb}
use borrow.Author.Tests.{le-leb, lt-leb}
use Rattle.huffman.specs.Bits.{bits_in, bit_at, bits_at, octet_at}
use Rattle.huffman.specs.Tree.{Tree}
use Rattle.huffman.specs.Nodes.{Nodes, child_of}
use Rattle.huffman.specs.Jumps.{most_jumps, stands, walked, symbol_in, jump_of, jumps_of, Jumps, Coded}
use Rattle.huffman.specs.Symbols.{symbol_at}
use Rattle.huffman.proofs.BitLaws.{bit_before, bit_near, octet_in, octet_there, octet_small}
use Rattle.huffman.proofs.SymbolLaws.{Walks, inside, child_near, walk_symbol, walk_on}

module _ (ns : List ℕ) where
  -- how a walk goes on
  pub stands_branch : (u i : ℕ) → 256 ≤ get_or ns i 0 → stands ns u i ≡ i
  unfolding stands
  stands_branch u i h = rw (le-leb 256 (get_or ns i 0) h)

  pub stands_leaf : (u i : ℕ) → get_or ns i 0 < 256 → stands ns u i ≡ 512 * (u + 1) + get_or ns i 0
  unfolding stands
  stands_leaf u i h = rw (lt-leb 256 (get_or ns i 0) h)

  pub walked_branch : (k u i v : ℕ) → 256 ≤ get_or ns i 0 → walked ns (suc k) u i v ≡ walked ns k (u + 1) (child_of i (get_or ns i 0) (v % 2)) (v / 2)
  unfolding walked
  walked_branch k u i v h = rw (le-leb 256 (get_or ns i 0) h)

  pub walked_none : (u i v : ℕ) → walked ns 0 u i v ≡ stands ns u i
  unfolding walked
  walked_none u i v = refl

  pub walked_leaf : (k u i v : ℕ) → get_or ns i 0 < 256 → walked ns k u i v ≡ 512 * (u + 1) + get_or ns i 0
  unfolding walked
  walked_leaf zero u i v h = stands_leaf u i h
  walked_leaf (suc k) u i v h = rw (lt-leb 256 (get_or ns i 0) h) (stands_leaf u i h)

-- the walk as a loop does it, from node `from` with the bits v: i, u and w are where it is

module _ (ns : List ℕ) (k from bits : ℕ) where
  pub walk_begins : from ≤ 512 → (from ≤ 4294967040 + 0) × (walked ns (k - 0) 0 from bits ≡ walked ns k 0 from bits)
  walk_begins h = let z : k - 0 ≡ k = omega arith in (omega arith, rw z)

  module _ (u i v : ℕ) (h : u ≤ k) (e : walked ns (k - u) u i v ≡ walked ns k 0 from bits) where
    pub walk_leaf : (node : ℕ) → node ≡ get_or ns i 0 → node < 256 → 512 * (u + 1) + node ≡ walked ns k 0 from bits
    walk_leaf node q l = let f : get_or ns i 0 < 256 = omega arith in rw q (sym (walked_leaf ns (k - u) u i v f) ∙ e)

    pub walk_stands : (node : ℕ) → node ≡ get_or ns i 0 → 256 ≤ node → k ≤ u → i ≡ walked ns k 0 from bits
    walk_stands node q l g =
        let f : 256 ≤ get_or ns i 0 = omega arith in
        let z : k - u ≡ 0 = omega arith in
        sym (stands_branch ns u i f) ∙ sym (walked_none ns u i v) ∙ (rw z at e)

    pub walk_goes :
        (node j : ℕ) → node ≡ get_or ns i 0 → 256 ≤ node → node < 4294967296 → u < k → i ≤ 4294967040 + u → j ≡ child_of i node (v % 2) →
        (j ≤ 4294967040 + (u + 1)) × (walked ns (k - (u + 1)) (u + 1) j (v / 2) ≡ walked ns k 0 from bits)
    walk_goes node j q l b g m f =
        let a : 256 ≤ get_or ns i 0 = omega arith in
        let z : k - u ≡ suc (k - (u + 1)) = omega arith in
        let y : j ≡ child_of i (get_or ns i 0) (v % 2) = f ∙ ap (λ (x : ℕ). child_of i x (v % 2)) q in
        (omega (arith, child_near i node (v % 2) (4294967040 + u) m b (omega arith), f), rw y (sym (walked_branch ns (k - (u + 1)) u i v a) ∙ (rw z at e)))

-- the jump with a number

module _ (ns : List ℕ) (j : ℕ) where
  pub jump_none : 8448 ≤ j → 0 ≡ jump_of ns j
  unfolding jump_of
  jump_none h = rw (le-leb most_jumps j h)

  pub jump_node : (r : ℕ) → r ≡ walked ns 4 0 ((j - 256) / 16) ((j - 256) % 16) → 256 ≤ j → j < 8448 → r ≡ jump_of ns j
  unfolding jump_of
  jump_node r e h k = rw (lt-leb most_jumps j k, le-leb 256 j h) e

  pub jump_root : (r : ℕ) → r ≡ walked ns 8 0 0 j → j < 256 → r ≡ jump_of ns j
  unfolding jump_of
  jump_root r e h = rw (lt-leb most_jumps j (omega arith), lt-leb 256 j h) e

-- a list of jumps

module _ (ns : List ℕ) where
  jumps_length : (n : ℕ) → length (jumps_of ns n) ≡ n
  unfolding jumps_of
  jumps_length zero = refl
  jumps_length (suc n) = length-append (jumps_of ns n) (jump_of ns n ∷ []) ∙ omega (arith, jumps_length n)

  jumps_each : (n j : ℕ) → j < n → get_or (jumps_of ns n) j 0 ≡ jump_of ns j
  unfolding jumps_of
  jumps_each zero j h = absurd (omega arith)
  jumps_each (suc n) j h =
      by_cases (dec_le n j)
      (λ m.
      let l : length (jumps_of ns n) ≡ n = jumps_length n in
      let z : j ≡ n = omega arith in
      rw z (get_or_at (jumps_of ns n) (jump_of ns n) [] 0 n l))
      (λ m.
      let l : length (jumps_of ns n) ≡ n = jumps_length n in
      get_or-append (jumps_of ns n) (jump_of ns n ∷ []) 0 j (omega arith) ∙ jumps_each n j (omega arith))

-- jumps that are made one after the other

unfoldable pub Making : List ℕ → List ℕ → ℕ → Type 0
Making ns js n = (j : ℕ) → j < n → get_or js j 0 ≡ jump_of ns j

module _ (ns js : List ℕ) where
  pub make_start : Making ns js 0
  unfolding Making
  make_start j h = absurd (omega arith)

  pub make_more :
      (n v : ℕ) → Making ns js n → v ≡ jump_of ns n → n < length js → Making ns (set js n v) (n + 1)
  unfolding Making
  make_more n v h e l j b =
      by_cases (dec_le n j)
      (λ m. let z : j ≡ n = omega arith in rw z (get_or-set_same js n v 0 l ∙ e))
      (λ m. get_or-set_other js n j v 0 (λ q. absurd (omega arith)) ∙ h j (omega arith))

  pub make_end : (n k : ℕ) → Making ns js n → length js ≡ k → length js ≤ n → js ≡ jumps_of ns k
  unfolding Making
  make_end n k h e l =
      ext_get_or 0 js (jumps_of ns k) (e ∙ sym (jumps_length ns k)) (λ j m. h j (omega arith) ∙ sym (jumps_each ns k j (omega arith)))

-- and those of few nodes
pub jumps_made : (ns js : List ℕ) (n : ℕ) → length ns ≤ 512 → js ≡ jumps_of ns n → Jumps ns js
unfolding Jumps
jumps_made ns js n h e =
    let l : length js ≡ n = ap length e ∙ jumps_length ns n in
    (h, λ j m. ap (λ (ks : List ℕ). get_or ks j 0) e ∙ jumps_each ns n j (omega arith))

-- what a jump of k bits from node i tells of the symbols behind it: w is a branch, k bits on, or a leaf
pub record Led (ns c : List ℕ) (m from p q w : ℕ) : Type 0 where
  pub branch : w < 512 → Walks ns c m from w q
  pub leaf : 512 ≤ w → (t : Tree) → Nodes ns m t → symbol_in w p ≡ symbol_at t c from

module _ (ns c : List ℕ) (m from p : ℕ) (few : length ns ≤ 512) where
  at_leaf :
      (u i q : ℕ) → Walks ns c m from i (p + u) → get_or ns i 0 < 256 → Led ns c m from p q (512 * (u + 1) + get_or ns i 0)
  unfolding symbol_in
  at_leaf u i q w h = record {
    branch = λ k. absurd (omega arith);
    leaf = λ k t x.
        let a : (512 * (u + 1) + get_or ns i 0) % 256 ≡ get_or ns i 0 = omega arith in
        let b : p + (512 * (u + 1) + get_or ns i 0) / 512 - 1 ≡ p + u = omega arith in
        rw (a, b) (walk_symbol ns c m from i (p + u) w h t x);
  }

  -- a walk that stands at a branch, whose number is below 512 where the tree is
  at_branch : (u i : ℕ) → Walks ns c m from i (p + u) → 256 ≤ get_or ns i 0 → Led ns c m from p (p + u) i
  at_branch u i w h = record {
    branch = λ k. w;
    leaf = λ k t x. absurd (omega (arith, inside ns i (w t x).at (w t x).here));
  }

  pub led :
      (k u i : ℕ) → Walks ns c m from i (p + u) → ((j : ℕ) → j < k → bit_at c (p + u + j) < 2) →
      Led ns c m from p (p + u + k) (walked ns k u i (bits_at c (p + u) k))
  unfolding bits_at
  led zero u i w f = by_cases (dec_le 256 (get_or ns i 0)) (λ h. branch_here h) (λ h. leaf_here (omega arith))
    where
      branch_here : 256 ≤ get_or ns i 0 → Led ns c m from p (p + u + 0) (walked ns 0 u i 0)
      branch_here h =
          let z : p + u + 0 ≡ p + u = omega arith in
          rw (z, walked_none ns u i 0, stands_branch ns u i h) (at_branch u i w h)

      leaf_here : get_or ns i 0 < 256 → Led ns c m from p (p + u + 0) (walked ns 0 u i 0)
      leaf_here h = rw (walked_leaf ns 0 u i 0 h) (at_leaf u i (p + u + 0) w h)
  led (suc k) u i w f =
      by_cases (dec_le 256 (get_or ns i 0)) (λ h. on h (led k (u + 1) (child_of i (get_or ns i 0) (bit_at c (p + u))) (child_walk h) next)) (λ h. leaf_here (omega arith))
    where
      v : ℕ
      v = bit_at c (p + u) + 2 * bits_at c (p + u + 1) k

      bit : bit_at c (p + u) < 2
      bit = let z : p + u + 0 ≡ p + u = omega arith in rw z at (f 0 (omega arith))

      next : (j : ℕ) → j < k → bit_at c (p + (u + 1) + j) < 2
      next j l = let z : p + (u + 1) + j ≡ p + u + suc j = omega arith in rw z (f (suc j) (omega arith))

      child_walk : 256 ≤ get_or ns i 0 → Walks ns c m from (child_of i (get_or ns i 0) (bit_at c (p + u))) (p + (u + 1))
      child_walk h =
          let z : p + (u + 1) ≡ p + u + 1 = omega arith in
          rw z (walk_on ns c m from i (p + u) w (bit_at c (p + u)) (child_of i (get_or ns i 0) (bit_at c (p + u))) h refl (λ q. absurd (omega (arith, bit))) refl)

      on :
          256 ≤ get_or ns i 0 →
          Led ns c m from p (p + (u + 1) + k) (walked ns k (u + 1) (child_of i (get_or ns i 0) (bit_at c (p + u))) (bits_at c (p + (u + 1)) k)) →
          Led ns c m from p (p + u + suc k) (walked ns (suc k) u i v)
      on h x =
          let y : p + (u + 1) ≡ p + u + 1 = omega arith in
          let a : p + u + suc k ≡ p + u + 1 + k = omega arith in
          let b : v % 2 ≡ bit_at c (p + u) = omega (arith, bit) in
          let d : v / 2 ≡ bits_at c (p + u + 1) k = omega (arith, bit) in
          rw (a, walked_branch ns k u i v h, b, d) (rw y at x)

      leaf_here : get_or ns i 0 < 256 → Led ns c m from p (p + u + suc k) (walked ns (suc k) u i v)
      leaf_here h = rw (walked_leaf ns (suc k) u i v h) (at_leaf u i (p + u + suc k) w h)

-- a jump that stands in a list

module _ (ns js c : List ℕ) (m from i pos : ℕ) (g : octet_at c pos ≡ 256 → ⊥) (w : Walks ns c m from i pos) (h : Jumps ns js) where
  bits_there : (j : ℕ) → j < 8 → bit_at c (pos + 0 + j) < 2
  bits_there j l = bit_before c (pos + 0 + j) (pos + 7) (omega arith) (octet_there c pos g)

  whole : octet_at c pos ≡ bits_at c pos 8
  whole = octet_in c pos (octet_there c pos g)

  -- of eight bits, from the root
  pub jump_eight : i ≡ 0 → octet_at c pos < length js → Led ns c m from pos (pos + 8) (get_or js (octet_at c pos) 0)
  unfolding Jumps jump_of
  jump_eight z l =
      let y : pos + 0 ≡ pos = omega arith in
      let a : leb most_jumps (octet_at c pos) ≡ _ = lt-leb most_jumps (octet_at c pos) (omega (arith, octet_small c pos g)) in
      let b : leb 256 (octet_at c pos) ≡ _ = lt-leb 256 (octet_at c pos) (octet_small c pos g) in
      rw (h.1 (octet_at c pos) l, a, b, whole)
      (rw (y, z) at (led ns c m from pos h.0 8 0 i (rw y w) bits_there))

  -- and of four, from any node
  four : octet_at c pos % 16 ≡ bits_at c pos 4
  unfolding bits_at
  four =
      omega (arith, whole, bit 0 pos (omega arith) (omega arith), bit 1 (pos + 1) (omega arith) (omega arith), bit 2 (pos + 1 + 1) (omega arith) (omega arith), bit 3 (pos + 1 + 1 + 1) (omega arith) (omega arith))
    where
      bit : (j q : ℕ) → j < 8 → pos + 0 + j ≡ q → bit_at c q < 2
      bit j q l e = rw e at (bits_there j l)

  pub jump_four : i < 512 → 256 + 16 * i + octet_at c pos % 16 < length js → Led ns c m from pos (pos + 4) (get_or js (256 + 16 * i + octet_at c pos % 16) 0)
  unfolding Jumps jump_of
  jump_four k l =
      let y : pos + 0 ≡ pos = omega arith in
      let j : ℕ = 256 + 16 * i + octet_at c pos % 16 in
      let a : leb most_jumps j ≡ _ = lt-leb most_jumps j (omega arith) in
      let b : leb 256 j ≡ _ = le-leb 256 j (omega arith) in
      let d : (j - 256) / 16 ≡ i = omega arith in
      let e : (j - 256) % 16 ≡ octet_at c pos % 16 = omega arith in
      rw (h.1 j l, a, b, d, e, four)
      (rw y at (led ns c m from pos h.0 4 0 i (rw y w) (λ j x. bits_there j (omega arith))))

-- an octet that is there
pub octet_near : (c : List ℕ) (pos o : ℕ) → o ≡ octet_at c pos → (o ≡ 256 → ⊥) → pos + 7 < bits_in
octet_near c pos o e g = bit_near c (pos + 7) (octet_there c pos (λ q. g (e ∙ q)))

pub coded : (ns js : List ℕ) (t : Tree) → Nodes ns 0 t → Jumps ns js → Coded ns js t
unfolding Coded
coded ns js t x h = (x, h)
