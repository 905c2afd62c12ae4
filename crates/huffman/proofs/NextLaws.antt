-- The next symbol of any nodes and jumps, a step at a time; and that it is the tree's where they are those of a tree. Assumes nothing.
use Prim.Native.Nat.{ℕ, zero, suc, ◌+◌, ◌-◌, ◌*◌, ◌/◌, ◌%◌, ◌≤◌, ◌<◌}
use mathlib.Core.Path.{◌≡◌, refl, sym, ap, ◌∙◌}
use mathlib.Core.List.{List}
use mathlib.Core.Bool.{Bool, true, false}
use mathlib.Core.Logic.{by_cases}
use native.Mathlib.Omega.{arith}
use native.Mathlib.Decide.{dec_le}
use lib.ListN.{length, get_or}
use lib.Dec.{eqb}
use borrow.Author.Tests.{le-leb, lt-leb, eq-eqb, ne_eqb, eqb-true, eqb-false}
use Rattle.huffman.specs.Bits.{bytes_in, bit_at, octet_at}
use Rattle.std.specs.Prelude.{Option, None}
use Rattle.huffman.specs.Symbols.{given}
use Rattle.huffman.specs.Tree.{Tree, leaf, branch}
use Rattle.huffman.specs.Nodes.{size, Nodes, child_of, walk_bits, bit_by_bit}
use Rattle.huffman.specs.Jumps.{symbol_in, Jumps, Coded, four_at, four_by_four, by_fours, next_symbol, NextIsTrees}
use Rattle.huffman.specs.Symbols.{symbol_at}
use Rattle.huffman.specs.declared.Symbol.{Symbol}
use Rattle.huffman.proofs.BitLaws.{bit_small, there, octet_there}
use Rattle.huffman.proofs.SymbolLaws.{start, inside, child_left, child_right}
use Rattle.huffman.proofs.JumpLaws.{jump_eight, jump_four}

-- bit by bit

module _ (c ns : List ℕ) (i p : ℕ) where
  bits_out : length ns ≤ i → bit_by_bit c ns i p ≡ None
  unfolding bit_by_bit walk_bits
  bits_out h = rw (le-leb (length ns) i h)

  module _ (h : i < length ns) where
    bits_leaf : get_or ns i 0 < 256 → bit_by_bit c ns i p ≡ given (get_or ns i 0) p
    unfolding bit_by_bit walk_bits
    bits_leaf k = rw (lt-leb (length ns) i h, lt-leb 256 (get_or ns i 0) k)

    module _ (k : 256 ≤ get_or ns i 0) where
      bits_end : bit_at c p ≡ 2 → bit_by_bit c ns i p ≡ None
      unfolding bit_by_bit walk_bits
      bits_end e = rw (lt-leb (length ns) i h, le-leb 256 (get_or ns i 0) k, eq-eqb (bit_at c p) 2 e)

      bits_on : (bit_at c p ≡ 2 → ⊥) → bit_by_bit c ns i p ≡ bit_by_bit c ns (child_of i (get_or ns i 0) (bit_at c p)) (p + 1)
      unfolding bit_by_bit walk_bits
      bits_on n =
          let b : bit_at c p < 2 = omega (arith, bit_small c p, n) in
          let l : p / 8 < bytes_in c = there c p b in
          let z : 8 * length c - p ≡ suc (8 * length c - (p + 1)) = omega arith in
          rw (lt-leb (length ns) i h, le-leb 256 (get_or ns i 0) k, ne_eqb (bit_at c p) 2 n, z)

-- as a loop does it, from node k and bit `from` on

module _ (c ns : List ℕ) (k from i pos : ℕ) (w : bit_by_bit c ns i pos ≡ bit_by_bit c ns k from) where
  pub loop_out : length ns ≤ i → None ≡ bit_by_bit c ns k from
  loop_out h = sym (bits_out c ns i pos h) ∙ w

  pub loop_leaf : i < length ns → get_or ns i 0 < 256 → given (get_or ns i 0) pos ≡ bit_by_bit c ns k from
  loop_leaf h l = sym (bits_leaf c ns i pos h l) ∙ w

  pub loop_end : (b : ℕ) → i < length ns → 256 ≤ get_or ns i 0 → b ≡ bit_at c pos → b ≡ 2 → None ≡ bit_by_bit c ns k from
  loop_end b h l e f = sym (bits_end c ns i pos h l (sym e ∙ f)) ∙ w

  pub loop_on :
      (b j : ℕ) → i < length ns → 256 ≤ get_or ns i 0 → b ≡ bit_at c pos → (b ≡ 2 → ⊥) → j ≡ child_of i (get_or ns i 0) b →
      bit_by_bit c ns j (pos + 1) ≡ bit_by_bit c ns k from
  loop_on b j h l e n f =
      ap (λ (m : ℕ). bit_by_bit c ns m (pos + 1)) (f ∙ ap (child_of i (get_or ns i 0)) e) ∙ sym (bits_on c ns i pos h l (λ q. n (e ∙ q))) ∙ w

-- four bits at a step; there is one more to make where an octet is there

one_less : (c : List ℕ) (p : ℕ) → (octet_at c p ≡ 256 → ⊥) → suc (2 * length c - (p + 4) / 4) ≡ 2 * length c - p / 4
one_less c p n = let z : (p + 7) / 8 < bytes_in c = there c (p + 7) (octet_there c p n) in omega arith

module _ (c ns js : List ℕ) (i p : ℕ) where
  fours_short : octet_at c p ≡ 256 → by_fours c ns js i p ≡ bit_by_bit c ns i p
  unfolding by_fours four_by_four
  fours_short e = rw (eq-eqb (octet_at c p) 256 e)

  module _ (n : octet_at c p ≡ 256 → ⊥) where
    fours_none : length js ≤ four_at c i p → by_fours c ns js i p ≡ bit_by_bit c ns i p
    unfolding by_fours four_by_four
    fours_none h = rw (ne_eqb (octet_at c p) 256 n, le-leb (length js) (four_at c i p) h)

    module _ (h : four_at c i p < length js) where
      fours_symbol : 512 ≤ get_or js (four_at c i p) 0 → by_fours c ns js i p ≡ symbol_in (get_or js (four_at c i p) 0) p
      unfolding by_fours four_by_four
      fours_symbol k = rw (ne_eqb (octet_at c p) 256 n, lt-leb (length js) (four_at c i p) h, le-leb 512 (get_or js (four_at c i p) 0) k)

      fours_on : get_or js (four_at c i p) 0 < 512 → by_fours c ns js i p ≡ by_fours c ns js (get_or js (four_at c i p) 0) (p + 4)
      unfolding by_fours four_by_four
      fours_on k =
          rw (ne_eqb (octet_at c p) 256 n, lt-leb (length js) (four_at c i p) h, lt-leb 512 (get_or js (four_at c i p) 0) k, ← one_less c p n)

-- as a loop does it

module _ (c ns js : List ℕ) (k from i pos : ℕ) (w : by_fours c ns js i pos ≡ by_fours c ns js k from) (o : ℕ) (e : o ≡ octet_at c pos) where
  pub four_short : (r : Option Symbol) → r ≡ bit_by_bit c ns i pos → o ≡ 256 → r ≡ by_fours c ns js k from
  four_short r f g = f ∙ sym (fours_short c ns js i pos (sym e ∙ g)) ∙ w

  module _ (n : o ≡ 256 → ⊥) where
    pub four_none : (r : Option Symbol) → r ≡ bit_by_bit c ns i pos → length js ≤ 256 + 16 * i + o % 16 → r ≡ by_fours c ns js k from
    four_none r f h = f ∙ sym (fours_none c ns js i pos (λ q. n (e ∙ q)) (rw e at h)) ∙ w

    module _ (h : 256 + 16 * i + o % 16 < length js) where
      pub four_symbol : (r : Option Symbol) → r ≡ symbol_in (get_or js (256 + 16 * i + o % 16) 0) pos → 512 ≤ get_or js (256 + 16 * i + o % 16) 0 → r ≡ by_fours c ns js k from
      four_symbol r f l = (rw e at f) ∙ sym (fours_symbol c ns js i pos (λ q. n (e ∙ q)) (rw e at h) (rw e at l)) ∙ w

      pub four_on : get_or js (256 + 16 * i + o % 16) 0 < 512 → by_fours c ns js (get_or js (256 + 16 * i + o % 16) 0) (pos + 4) ≡ by_fours c ns js k from
      four_on l = rw e (sym (fours_on c ns js i pos (λ q. n (e ∙ q)) (rw e at h) (rw e at l)) ∙ w)

-- and eight first

module _ (c ns js : List ℕ) (p o : ℕ) (e : o ≡ octet_at c p) (r : Option Symbol) where
  pub next_short : r ≡ bit_by_bit c ns 0 p → o ≡ 256 → r ≡ next_symbol c ns js p
  unfolding next_symbol
  next_short f g = rw (← e, eq-eqb o 256 g) f

  module _ (n : o ≡ 256 → ⊥) where
    pub next_none : r ≡ bit_by_bit c ns 0 p → length js ≤ o → r ≡ next_symbol c ns js p
    unfolding next_symbol
    next_none f h = rw (← e, ne_eqb o 256 n, le-leb (length js) o h) f

    module _ (h : o < length js) where
      pub next_leaf : r ≡ symbol_in (get_or js o 0) p → 512 ≤ get_or js o 0 → r ≡ next_symbol c ns js p
      unfolding next_symbol
      next_leaf f k = rw (← e, ne_eqb o 256 n, lt-leb (length js) o h, le-leb 512 (get_or js o 0) k) f

      pub next_on : r ≡ by_fours c ns js (get_or js o 0) (p + 8) → get_or js o 0 < 512 → r ≡ next_symbol c ns js p
      unfolding next_symbol
      next_on f k = rw (← e, ne_eqb o 256 n, lt-leb (length js) o h, lt-leb 512 (get_or js o 0) k) f

-- of a tree

bits_tree : (t : Tree) (c ns : List ℕ) (i p : ℕ) → Nodes ns i t → bit_by_bit c ns i p ≡ symbol_at t c p
unfolding Nodes symbol_at
bits_tree (leaf y) c ns i p x =
    let h : get_or ns i 0 < 256 = omega (arith, x.1.0, x.1.1) in
    bits_leaf c ns i p x.0 h ∙ ap (λ (z : ℕ). given z p) x.1.0
bits_tree (branch l r) c ns i p x =
    go (bits_tree l c ns (i + 1) (p + 1) x.1.1.0) (bits_tree r c ns (i + 1 + size l) (p + 1) x.1.1.1)
  where
    h : 256 ≤ get_or ns i 0
    h = omega (arith, x.1.0)

    q : get_or ns i 0 - 256 ≡ i + 1 + size l
    q = omega (arith, x.1.0)

    on : (bit_at c p ≡ 2 → ⊥) → bit_by_bit c ns i p ≡ bit_by_bit c ns (child_of i (get_or ns i 0) (bit_at c p)) (p + 1)
    on = bits_on c ns i p x.0 h

    go :
        bit_by_bit c ns (i + 1) (p + 1) ≡ symbol_at l c (p + 1) → bit_by_bit c ns (i + 1 + size l) (p + 1) ≡ symbol_at r c (p + 1) →
        bit_by_bit c ns i p ≡ symbol_at (branch l r) c p
    go a b =
        by_cases (dec_le 2 (bit_at c p))
        (λ k. let e : bit_at c p ≡ 2 = omega (arith, bit_small c p) in rw (eq-eqb (bit_at c p) 2 e) (bits_end c ns i p x.0 h e))
        (λ k.
        let n : bit_at c p ≡ 2 → ⊥ = λ z. k (omega arith) in
        by_cases (dec_le (bit_at c p) 0)
        (λ z.
        let e : bit_at c p ≡ 0 = omega arith in
        rw (ne_eqb (bit_at c p) 2 n, eq-eqb (bit_at c p) 0 e) (on n ∙ ap (λ (j : ℕ). bit_by_bit c ns j (p + 1)) (sym (child_left i (get_or ns i 0) (bit_at c p) e)) ∙ a))
        (λ z.
        let f : bit_at c p ≡ 0 → ⊥ = λ y. z (omega arith) in
        rw (ne_eqb (bit_at c p) 2 n, ne_eqb (bit_at c p) 0 f) (on n ∙ ap (λ (j : ℕ). bit_by_bit c ns j (p + 1)) (sym (child_right i (get_or ns i 0) (bit_at c p) f) ∙ q) ∙ b)))

few_nodes : (ns js : List ℕ) → Jumps ns js → length ns ≤ 512
unfolding Jumps
few_nodes ns js h = h.0

-- a step from a node of a tree
module _ (t : Tree) (c ns js : List ℕ) (i p : ℕ) (j : Jumps ns js) (x : Nodes ns i t) where
  fours_step :
      (octet_at c p ≡ 256 → ⊥) →
      ((u : Tree) (a : ℕ) → Nodes ns a u → by_fours c ns js a (p + 4) ≡ symbol_at u c (p + 4)) → by_fours c ns js i p ≡ symbol_at t c p
  fours_step n f =
      by_cases (dec_le (length js) (four_at c i p)) (λ z. fours_none c ns js i p n z ∙ bits_tree t c ns i p x)
      (λ y.
      let z : four_at c i p < length js = omega arith in
      let low : i < 512 = omega (arith, inside ns i t x, few_nodes ns js j) in
      let d = jump_four ns js c i p i p n (start ns c i p) j low z in
      by_cases (dec_le 512 (get_or js (four_at c i p) 0)) (λ w. fours_symbol c ns js i p n z w ∙ d.leaf w t x)
      (λ w.
      let v : get_or js (four_at c i p) 0 < 512 = omega arith in
      let s = d.branch v t x in
      fours_on c ns js i p n z v ∙ f s.at (get_or js (four_at c i p) 0) s.here ∙ s.same))

  fours_from :
      ((octet_at c p ≡ 256 → ⊥) → (u : Tree) (a : ℕ) → Nodes ns a u → by_fours c ns js a (p + 4) ≡ symbol_at u c (p + 4)) →
      by_fours c ns js i p ≡ symbol_at t c p
  fours_from f = go (eqb (octet_at c p) 256) refl
    where
      go : (b : Bool) → eqb (octet_at c p) 256 ≡ b → by_fours c ns js i p ≡ symbol_at t c p
      go true e = fours_short c ns js i p (eqb-true _ _ e) ∙ bits_tree t c ns i p x
      go false e = fours_step (eqb-false _ _ e) (f (eqb-false _ _ e))

fours_tree :
    (m : ℕ) (t : Tree) (c ns js : List ℕ) (i p : ℕ) → 2 * length c - p / 4 ≤ m → Jumps ns js → Nodes ns i t → by_fours c ns js i p ≡ symbol_at t c p
fours_tree zero t c ns js i p h j x = fours_from t c ns js i p j x (λ n u a y. absurd (omega (arith, one_less c p n)))
fours_tree (suc m) t c ns js i p h j x =
    fours_from t c ns js i p j x
    (λ n u a y. fours_tree m u c ns js a (p + 4) (omega (arith, one_less c p n)) j y)

pub next_is_trees : NextIsTrees
unfolding Coded
next_is_trees c ns js t p x = go (eqb (octet_at c p) 256) refl
  where
    none : (n : octet_at c p ≡ 256 → ⊥) → next_symbol c ns js p ≡ symbol_at t c p
    none n =
        by_cases (dec_le (length js) (octet_at c p)) (λ z. sym (next_none c ns js p (octet_at c p) refl (bit_by_bit c ns 0 p) n refl z) ∙ bits_tree t c ns 0 p x.0)
        (λ y.
        let z : octet_at c p < length js = omega arith in
        let d = jump_eight ns js c 0 p 0 p n (start ns c 0 p) x.1 refl z in
        by_cases (dec_le 512 (get_or js (octet_at c p) 0))
        (λ w. sym (next_leaf c ns js p (octet_at c p) refl (symbol_in (get_or js (octet_at c p) 0) p) n z refl w) ∙ d.leaf w t x.0)
        (λ w.
        let v : get_or js (octet_at c p) 0 < 512 = omega arith in
        let s = d.branch v t x.0 in
        sym (next_on c ns js p (octet_at c p) refl (by_fours c ns js (get_or js (octet_at c p) 0) (p + 8)) n z refl v)
        ∙ fours_tree (2 * length c) s.at c ns js (get_or js (octet_at c p) 0) (p + 8) (omega arith) x.1 s.here
        ∙ s.same))

    go : (b : Bool) → eqb (octet_at c p) 256 ≡ b → next_symbol c ns js p ≡ symbol_at t c p
    go true e = sym (next_short c ns js p (octet_at c p) refl (bit_by_bit c ns 0 p) refl (eqb-true _ _ e)) ∙ bits_tree t c ns 0 p x.0
    go false e = none (eqb-false _ _ e)
