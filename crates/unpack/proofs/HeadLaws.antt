-- The head and the tree of a content. Assumes nothing.
use Prim.Native.Nat.{ℕ, ◌+◌, ◌-◌, ◌*◌, ◌≤◌}
use mathlib.Core.Path.{◌≡◌, refl, sym, ap, subst, ◌∙◌}
use mathlib.Core.List.{List, [], ◌∷◌}
use mathlib.Core.Bool.{Bool, true, false}
use native.Mathlib.Omega.{arith}
use native.Mathlib.Nat.{mul-le-mul}
use lib.ListN.{length, take}
use lib.Dec.{leb, eqb}
use borrow.Author.Tests.{leb-true, leb-false, eq-eqb, ne_eqb}
use Rattle.wire.specs.Pick.{pick}
use Rattle.wire.specs.Tests.{Test, ◌≤?◌, ◌≡?◌, is, Holds}
use Rattle.wire.specs.Bytes.{byte_at}
use Rattle.wire.proofs.TestLaws.{yes, no, means, either_way, not_both}
use Rattle.m32.specs.M32.{codes}
use Rattle.huffman.specs.Tree.{Parsed, got, bad, leaves, tree_at}
use Rattle.huffman.specs.Symbols.{symbols_of, among, distinct}
use Rattle.huffman.specs.Nodes.{tree_read, size, Nodes, outcome, root_outcome, root_nodes, symbols_in}
use Rattle.huffman.specs.declared.Read.{Read}
use Rattle.huffman.proofs.NodeLaws.{Told, told, told_bad, root_is_laid}
use Rattle.huffman.proofs.StoredLaws.{read_stored}
use Rattle.huffman.proofs.SymbolLaws.{nodes_symbols}
use Rattle.std.specs.Prelude.{Option, Some, None}
use Rattle.unpack.specs.Unpack.{predictor_of, symbol_count, head_right, tree_in, leaves_read, symbols_read, tree_right, count_right}
use Rattle.unpack.specs.Steps.{Rooted}

module _ (c : List ℕ) (rows columns : ℕ) where
  abbrev pub head_tests : List Test
  head_tests = (1 ≤? rows) ∷ (rows ≤? 4096) ∷ (1 ≤? columns) ∷ (columns ≤? 4096) ∷ (11 ≤? length c) ∷ (predictor_of c ≤? 2) ∷ []

  pub head_not : (Holds head_tests → ⊥) → false ≡ head_right c rows columns
  unfolding head_right
  head_not f = no head_tests f

  pub head_last :
      (p : ℕ) → 1 ≤ rows → rows ≤ 4096 → 1 ≤ columns → columns ≤ 4096 → 11 ≤ length c → p ≡ byte_at c 1 → leb p 2 ≡ head_right c rows columns
  unfolding head_right
  head_last p h i j k l e =
      either_way head_tests (leb p 2) (λ q. (h, (i, (j, (k, (l, (omega (arith, leb-true p 2 q), tt)))))))
      (λ q w. omega (arith, leb-false p 2 q, w.1.1.1.1.1.0))

  pub head_means : head_right c rows columns ≡ true → Holds head_tests
  unfolding head_right
  head_means e = means head_tests e

-- the tree

root_outcome_lem : (n left : ℕ) (x : Parsed) → 511 ≤ n → left ≤ 256 → root_outcome n left x ≡ outcome 0 left x
unfolding root_outcome
root_outcome_lem n left x h k = ap (λ (b : Bool). pick b (outcome 0 left x) None) (sym (yes ((511 ≤? n) ∷ (left ≤? 256) ∷ []) (h, (k, tt))))

abbrev tree_tests : List ℕ → Parsed → List Test
tree_tests c x = (leaves_read x ≡? symbol_count c) ∷ is (distinct (symbols_read x)) ∷ []

tree_not : (c : List ℕ) (x : Parsed) → tree_in c ≡ x → (Holds (tree_tests c x) → ⊥) → tree_right c ≡ false
unfolding tree_right
tree_not c x e f = rw e (sym (no (tree_tests c x) f))

tree_yes : (c : List ℕ) (x : Parsed) → tree_in c ≡ x → Holds (tree_tests c x) → tree_right c ≡ true
unfolding tree_right
tree_yes c x e h = rw e (sym (yes (tree_tests c x) h))

module _ (c : List ℕ) (n count : ℕ) (r : Option Read) (ns : List ℕ) (h : 511 ≤ n) (k : count ≡ byte_at c 10 + 1) (l : count ≤ 256)
    (e : r ≡ root_outcome n count (tree_at c count 88)) where
  same_tree : tree_in c ≡ tree_at c count 88
  unfolding tree_in
  same_tree = rw k

  pub root_bad : r ≡ None → Rooted c ns None
  unfolding Rooted leaves_read
  root_bad f =
      tree_not c bad (same_tree ∙ told_bad 0 count (tree_at c count 88) (sym (root_outcome_lem n count (tree_at c count 88) h l) ∙ sym e ∙ f))
      (λ w. omega (arith, w.0))

  module _ (q m f : ℕ) (g : r ≡ tree_read q m f) where
    what : Told 0 count (tree_at c count 88) q m f
    what = told 0 count (tree_at c count 88) q m f (sym (root_outcome_lem n count (tree_at c count 88) h l) ∙ sym e ∙ g)

    pub root_few : (f ≡ 0 → ⊥) → Rooted c ns None
    unfolding Rooted leaves_read
    root_few z =
        let t : Told 0 count (tree_at c count 88) q m f = what in
        tree_not c (got t.tree q) (same_tree ∙ t.is)
        (λ w. let u : leaves t.tree ≡ symbol_count c = w.0 in let v : f ≡ count - leaves t.tree = t.rest in z (omega arith))

    module _ (z : f ≡ 0) (a : List ℕ) (d : ns ≡ root_nodes a count (tree_at c count 88)) (long : n ≡ length a) (b : Bool)
        (y : b ≡ distinct (symbols_in (take m ns))) where
      laid : Nodes ns 0 what.tree
      laid = subst (λ (u : List ℕ). Nodes u 0 what.tree) (sym d) (root_is_laid a c count 88 what.tree q (omega arith) l what.is)

      differ : b ≡ distinct (symbols_of what.tree)
      differ =
          let u : m ≡ size what.tree = omega (arith, what.next) in
          y ∙ ap (λ (i : ℕ). distinct (symbols_in (take i ns))) u ∙ ap distinct (nodes_symbols what.tree ns 0 laid)

      pub root_twice : b ≡ false → Rooted c ns None
      unfolding Rooted symbols_read
      root_twice x = tree_not c (got what.tree q) (same_tree ∙ what.is) (λ w. not_both w.1.0 (sym differ ∙ x))

      pub root_good : b ≡ true → Rooted c ns (Some q)
      unfolding Rooted leaves_read symbols_read
      root_good x =
          let u : leaves what.tree ≤ count = (read_stored c count 88 what.tree q what.is).few in
          let v : f ≡ count - leaves what.tree = what.rest in
          record {
            tree = what.tree;
            is = same_tree ∙ what.is;
            right = tree_yes c (got what.tree q) (same_tree ∙ what.is) (omega arith, (sym differ ∙ x, tt));
            laid = laid;
          }

-- the count field

module _ (count n bytes : ℕ) where
  abbrev Counts : Bool → Type 0
  Counts r = (xs : List ℕ) → bytes ≡ length (codes xs) → r ≡ count_right count n xs

  pub count_is : count ≡ n → Counts true
  unfolding count_right among
  count_is h xs e = rw (eq-eqb count n h)

  pub count_bytes : (count ≡ n → ⊥) → Counts (eqb count bytes)
  unfolding count_right among
  count_bytes h xs e = rw (ne_eqb count n h, ← e) (go (eqb count bytes))
    where
      go : (b : Bool) → b ≡ pick b true false
      go true = refl
      go false = refl

-- the cells of a tile

pub small_tile : (rows columns : ℕ) → rows ≤ 4096 → columns ≤ 4096 → rows * columns ≤ 16777216
small_tile rows columns h k = mul-le-mul h k

pub some_tile : (rows columns : ℕ) → 1 ≤ rows → 1 ≤ columns → 1 ≤ rows * columns
some_tile rows columns h k = mul-le-mul h k

-- by the width of a row
pub head_by : (c : List ℕ) (rows columns k : ℕ) (b : Bool) → b ≡ head_right c rows columns → b ≡ true → k ≡ columns → head_right c rows k ≡ true
head_by c rows columns k b e f g = ap (head_right c rows) g ∙ sym e ∙ f
