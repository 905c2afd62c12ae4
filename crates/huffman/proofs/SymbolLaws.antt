-- The next symbol by the nodes of a tree, and symbols twice. Assumes nothing.
use Prim.Native.Nat.{ℕ, suc, ◌+◌, ◌-◌, ◌≤◌, ◌<◌}
use mathlib.Core.Path.{◌≡◌, refl, sym, ap, subst, ◌∙◌}
use mathlib.Core.List.{List, [], ◌∷◌, ◌++◌}
use mathlib.Core.Bool.{Bool, true, false}
use mathlib.Core.Logic.{by_cases}
use native.Mathlib.Omega.{arith}
use native.Mathlib.Numerals.{add-one}
use native.Mathlib.Decide.{dec_le}
use lib.ListN.{length, get_or, take, drop, set, replicate, length-take, get_or-replicate, drop_of_length-le}
use lib.Seq.{drop-cons, take-add, drop-drop, get_or-take, get_or-set_same, get_or-set_other}
use lib.Dec.{leb, eqb}
use borrow.Author.Tests.{le-leb, lt-leb, eq-eqb, ne_eqb, eqb-true, eqb-false}
use Rattle.wire.specs.Pick.{pick}
use Rattle.huffman.specs.Bits.{bit_at}
use Rattle.huffman.specs.Symbols.{given}
use Rattle.huffman.specs.Tree.{Tree, leaf, branch}
use Rattle.huffman.specs.Nodes.{size, Nodes, child_of, symbols_in}
use Rattle.huffman.specs.Symbols.{symbol_at, symbols_of, among, fresh, distinct}

-- the walk stands at node i, which is the subtree `at`, and what that gives from pos on is what the tree gives from `from` on
pub record Subtree (t : Tree) (ns c : List ℕ) (from i pos : ℕ) : Type 0 where
  pub at : Tree
  pub here : Nodes ns i at
  pub same : symbol_at at c pos ≡ symbol_at t c from

-- a walk from node k on
abbrev pub Walks : List ℕ → List ℕ → ℕ → ℕ → ℕ → ℕ → Type 0
Walks ns c k from i pos = (t : Tree) → Nodes ns k t → Subtree t ns c from i pos

pub start : (ns c : List ℕ) (k from : ℕ) → Walks ns c k from k from
start ns c k from t h = record { at = t; here = h; same = refl }

pub inside : (ns : List ℕ) (i : ℕ) (u : Tree) → Nodes ns i u → i < length ns
unfolding Nodes
inside ns i (leaf y) h = h.0
inside ns i (branch l r) h = h.0

symbol_at_lem : (ns c : List ℕ) (i pos : ℕ) (u : Tree) → Nodes ns i u → get_or ns i 0 < 256 → given (get_or ns i 0) pos ≡ symbol_at u c pos
unfolding Nodes symbol_at
symbol_at_lem ns c i pos (leaf y) h k = ap (λ (m : ℕ). given m pos) h.1.0
symbol_at_lem ns c i pos (branch l r) h k = let e : get_or ns i 0 ≡ 256 + (i + 1 + size l) = h.1.0 in absurd (omega arith)

step_at_lem :
    (t : Tree) (ns c : List ℕ) (from i pos : ℕ) (u : Tree) → Nodes ns i u → symbol_at u c pos ≡ symbol_at t c from → 256 ≤ get_or ns i 0 →
    (bit_at c pos ≡ 2 → ⊥) → Subtree t ns c from (child_of i (get_or ns i 0) (bit_at c pos)) (pos + 1)
unfolding Nodes symbol_at child_of
step_at_lem t ns c from i pos (leaf y) h e k z = let a : get_or ns i 0 ≡ y = h.1.0 in let f : y < 256 = h.1.1 in absurd (omega arith)
step_at_lem t ns c from i pos (branch l r) h e k z = by_cases (dec_le (bit_at c pos) 0) (λ m. zero_bit (omega arith)) (λ m. one_bit (λ q. absurd (m (omega arith))))
  where
    zero_bit : bit_at c pos ≡ 0 → Subtree t ns c from (pick (eqb (bit_at c pos) 0) (i + 1) (get_or ns i 0 - 256)) (pos + 1)
    zero_bit b =
        rw (eq-eqb (bit_at c pos) 0 b)
        (record { at = l; here = h.1.1.0; same = sym (rw (ne_eqb (bit_at c pos) 2 z, eq-eqb (bit_at c pos) 0 b)) ∙ e })

    one_bit : (bit_at c pos ≡ 0 → ⊥) → Subtree t ns c from (pick (eqb (bit_at c pos) 0) (i + 1) (get_or ns i 0 - 256)) (pos + 1)
    one_bit b =
        let a : get_or ns i 0 ≡ 256 + (i + 1 + size l) = h.1.0 in
        let q : get_or ns i 0 - 256 ≡ i + 1 + size l = omega arith in
        rw (ne_eqb (bit_at c pos) 0 b, q)
        (record { at = r; here = h.1.1.1; same = sym (rw (ne_eqb (bit_at c pos) 2 z, ne_eqb (bit_at c pos) 0 b)) ∙ e })

module _ (ns c : List ℕ) (k from i pos : ℕ) (w : Walks ns c k from i pos) where
  pub walk_symbol : get_or ns i 0 < 256 → (t : Tree) → Nodes ns k t → given (get_or ns i 0) pos ≡ symbol_at t c from
  walk_symbol h t x = symbol_at_lem ns c i pos (w t x).at (w t x).here h ∙ (w t x).same

  pub walk_on : (b j : ℕ) → 256 ≤ get_or ns i 0 → b ≡ bit_at c pos → (b ≡ 2 → ⊥) → j ≡ child_of i (get_or ns i 0) b → Walks ns c k from j (pos + 1)
  walk_on b j h e n f t x =
      let g : child_of i (get_or ns i 0) (bit_at c pos) ≡ j = sym (f ∙ ap (child_of i (get_or ns i 0)) e) in
      subst (λ (m : ℕ). Subtree t ns c from m (pos + 1)) g (step_at_lem t ns c from i pos (w t x).at (w t x).here (w t x).same h (λ q. n (e ∙ q)))

pub child_left : (i node bit : ℕ) → bit ≡ 0 → i + 1 ≡ child_of i node bit
unfolding child_of
child_left i node bit h = rw (eq-eqb bit 0 h)

pub child_right : (i node bit : ℕ) → (bit ≡ 0 → ⊥) → node - 256 ≡ child_of i node bit
unfolding child_of
child_right i node bit h = rw (ne_eqb bit 0 h)

pub child_near : (i node bit m : ℕ) → i ≤ m → node < 4294967296 → 4294967040 ≤ m → child_of i node bit ≤ m + 1
unfolding child_of
child_near i node bit m h k l = go (eqb bit 0)
  where
    go : (b : Bool) → pick b (i + 1) (node - 256) ≤ m + 1
    go true = omega arith
    go false = omega arith

-- the symbols among a tree's nodes are the tree's

symbol_in_lem : (x : ℕ) (xs : List ℕ) → x < 256 → symbols_in (x ∷ xs) ≡ x ∷ symbols_in xs
unfolding symbols_in
symbol_in_lem x xs h = rw (lt-leb 256 x h)

symbol_not : (x : ℕ) (xs : List ℕ) → 256 ≤ x → symbols_in (x ∷ xs) ≡ symbols_in xs
unfolding symbols_in
symbol_not x xs h = rw (le-leb 256 x h)

symbols_append : (a b : List ℕ) → symbols_in (a ++ b) ≡ symbols_in a ++ symbols_in b
unfolding symbols_in
symbols_append [] b = refl
symbols_append (x ∷ a) b = go (leb 256 x) (symbols_append a b)
  where
    go : (t : Bool) → symbols_in (a ++ b) ≡ symbols_in a ++ symbols_in b → pick t (symbols_in (a ++ b)) (x ∷ symbols_in (a ++ b)) ≡ pick t (symbols_in a) (x ∷ symbols_in a) ++ symbols_in b
    go true e = e
    go false e = ap (λ (l : List ℕ). x ∷ l) e

symbol_none : symbols_in [] ≡ []
unfolding symbols_in
symbol_none = refl

pub nodes_symbols : (t : Tree) (ns : List ℕ) (i : ℕ) → Nodes ns i t → symbols_in (take (size t) (drop i ns)) ≡ symbols_of t
unfolding Nodes size symbols_of
nodes_symbols (leaf y) ns i h = rw (drop-cons ns i 0 h.0, h.1.0) (symbol_in_lem y [] h.1.1 ∙ rw symbol_none)
nodes_symbols (branch l r) ns i h =
    let e : 1 + (size l + size r) ≡ suc (size l + size r) = omega arith in
    let f : suc i ≡ i + 1 = omega arith in
    let g : 256 ≤ get_or ns i 0 = omega (arith, h.1.0) in
    let s : take (size l + size r) (drop (i + 1) ns) ≡ take (size l) (drop (i + 1) ns) ++ take (size r) (drop (i + 1 + size l) ns) =
    take-add (size l) (size r) (drop (i + 1) ns) ∙ rw (drop-drop (size l) (i + 1) ns) in
    rw (e, drop-cons ns i 0 h.0, f)
    (symbol_not (get_or ns i 0) (take (size l + size r) (drop (i + 1) ns)) g
    ∙ ap symbols_in s
    ∙ symbols_append (take (size l) (drop (i + 1) ns)) (take (size r) (drop (i + 1 + size l) ns))
    ∙ rw (nodes_symbols l ns (i + 1) h.1.1.0, nodes_symbols r ns (i + 1 + size l) h.1.1.1))

-- symbols twice: i nodes are passed, and `seen` says which symbols they have

pub record Passed (ns : List ℕ) (n : ℕ) (seen : List Bool) (i : ℕ) : Type 0 where
  pub done : List ℕ
  pub says : (y : ℕ) → y < 256 → get_or seen y false ≡ among y done
  pub same : fresh done (symbols_in (drop i (take n ns))) ≡ distinct (symbols_in (take n ns))

module _ (ns : List ℕ) (n : ℕ) where
  pub pass_start : Passed ns n (replicate 256 false) 0
  unfolding among distinct
  pass_start = record { done = []; says = λ y h. get_or-replicate 256 y false false h; same = refl }

  pub pass_end : (seen : List Bool) (i : ℕ) → Passed ns n seen i → length (take n ns) ≤ i → true ≡ distinct (symbols_in (take n ns))
  unfolding fresh
  pass_end seen i s h = sym (rw (drop_of_length-le (take n ns) h, symbol_none)) ∙ s.same

  module _ (seen : List Bool) (i : ℕ) (s : Passed ns n seen i) (h : i < n) (k : i < length ns) where
    at_node : drop i (take n ns) ≡ get_or ns i 0 ∷ drop (i + 1) (take n ns)
    at_node =
        let l : i < length (take n ns) = rw length-take (omega arith) in
        drop-cons (take n ns) i 0 l ∙ rw (get_or-take n ns i 0 h, add-one)

    pub pass_branch : 256 ≤ get_or ns i 0 → Passed ns n seen (i + 1)
    pass_branch g =
        record {
          done = s.done;
          says = s.says;
          same = ap (fresh s.done) (sym (ap symbols_in at_node ∙ symbol_not (get_or ns i 0) (drop (i + 1) (take n ns)) g)) ∙ s.same;
        }

    here : get_or ns i 0 < 256 → fresh s.done (get_or ns i 0 ∷ symbols_in (drop (i + 1) (take n ns))) ≡ distinct (symbols_in (take n ns))
    here g = ap (fresh s.done) (sym (ap symbols_in at_node ∙ symbol_in_lem (get_or ns i 0) (drop (i + 1) (take n ns)) g)) ∙ s.same

    pub pass_twice : get_or ns i 0 < 256 → get_or seen (get_or ns i 0) false ≡ true → false ≡ distinct (symbols_in (take n ns))
    unfolding fresh
    pass_twice g e = let f : among (get_or ns i 0) s.done ≡ true = sym (s.says (get_or ns i 0) g) ∙ e in sym (rw f) ∙ here g

    pub pass_leaf :
        get_or ns i 0 < 256 → length seen ≡ 256 → get_or seen (get_or ns i 0) false ≡ false → Passed ns n (set seen (get_or ns i 0) true) (i + 1)
    unfolding fresh among
    pass_leaf g l e =
        let f : among (get_or ns i 0) s.done ≡ false = sym (s.says (get_or ns i 0) g) ∙ e in
        record { done = get_or ns i 0 ∷ s.done; says = λ y m. go y m (eqb y (get_or ns i 0)) refl; same = sym (rw f) ∙ here g }
      where
        go : (y : ℕ) → y < 256 → (t : Bool) → eqb y (get_or ns i 0) ≡ t → get_or (set seen (get_or ns i 0) true) y false ≡ pick (eqb y (get_or ns i 0)) true (among y s.done)
        go y m true q = rw (q, eqb-true y (get_or ns i 0) q) (get_or-set_same seen (get_or ns i 0) true false (omega arith))
        go y m false q = rw q (get_or-set_other seen (get_or ns i 0) y true false (eqb-false _ _ q) ∙ s.says y m)
