-- Reading a tree, node by node. Assumes nothing.
use Prim.Native.Nat.{ℕ, zero, suc, ◌+◌, ◌-◌, ◌≤◌, ◌<◌}
use mathlib.Core.Path.{◌≡◌, refl}
use mathlib.Core.List.{List}
use mathlib.Core.Bool.{Bool, true, false}
use native.Mathlib.Omega.{arith}
use lib.Dec.{eqb}
use borrow.Author.Tests.{eqb-false, eq-eqb, ne_eqb}
use Rattle.wire.specs.Pick.{pick}
use Rattle.huffman.specs.Bits.{bit_at, octet_at}
use Rattle.huffman.specs.Tree.{Tree, leaf, branch, Parsed, got, bad, leaves, bind, leaf_at, read_tree, tree_at}

pub some : (t : Tree) → 1 ≤ leaves t
unfolding leaves
some (leaf y) = omega arith
some (branch l r) = omega (arith, some l)

-- what comes behind a left child
abbrev pub joined : Tree → Parsed → Parsed
joined l x = bind x (λ r s. got (branch l r) s)

-- what bounds the recursion does not matter
enough : (f g : ℕ) (c : List ℕ) (left p : ℕ) → left ≤ f → left ≤ g → read_tree f c left p ≡ read_tree g c left p
unfolding read_tree
enough zero zero c left p h k = refl
enough zero (suc g) c left p h k = rw (eq-eqb left 0 (omega arith))
enough (suc f) zero c left p h k = rw (eq-eqb left 0 (omega arith))
enough (suc f) (suc g) c left p h k =
    go (eqb left 0) refl (eqb (bit_at c p) 2) (eqb (bit_at c p) 1) (read_tree g c (left - 1) (p + 1))
    (λ e. enough f g c (left - 1) (p + 1) (omega arith) (omega arith))
    (λ e l q. enough f g c (left - leaves l) q (omega (arith, some l)) (omega (arith, some l)))
  where
    go :
        (a : Bool) → eqb left 0 ≡ a → (b d : Bool) (x : Parsed) →
        (0 < left → read_tree f c (left - 1) (p + 1) ≡ x) →
        (0 < left → (l : Tree) (q : ℕ) → read_tree f c (left - leaves l) q ≡ read_tree g c (left - leaves l) q) →
        pick a bad (pick b bad (pick d (leaf_at c (p + 1)) (bind (read_tree f c (left - 1) (p + 1)) (λ l q. joined l (read_tree f c (left - leaves l) q)))))
        ≡ pick a bad (pick b bad (pick d (leaf_at c (p + 1)) (bind x (λ l q. joined l (read_tree g c (left - leaves l) q)))))
    go true e b d x i j = refl
    go false e true d x i j = refl
    go false e false true x i j = refl
    go false e false false bad i j = let n : left ≡ 0 → ⊥ = eqb-false _ _ e in rw (i (omega arith))
    go false e false false (got l q) i j = let n : left ≡ 0 → ⊥ = eqb-false _ _ e in rw (i (omega arith), j (omega arith) l q)

module _ (c : List ℕ) (p : ℕ) where
  pub none : tree_at c 0 p ≡ bad
  unfolding tree_at read_tree
  none = refl

  pub past : (left : ℕ) → bit_at c p ≡ 2 → tree_at c left p ≡ bad
  unfolding tree_at read_tree
  past zero h = refl
  past (suc n) h = rw (ne_eqb (suc n) 0 (λ q. omega arith), eq-eqb (bit_at c p) 2 h)

  pub at_leaf : (left : ℕ) → 0 < left → bit_at c p ≡ 1 → tree_at c left p ≡ leaf_at c (p + 1)
  unfolding tree_at read_tree
  at_leaf zero h e = absurd (omega arith)
  at_leaf (suc n) h e = rw (ne_eqb (suc n) 0 (λ q. omega arith), ne_eqb (bit_at c p) 2 (λ q. omega arith), eq-eqb (bit_at c p) 1 e)

  pub at_bad : (left : ℕ) → 0 < left → bit_at c p ≡ 0 → tree_at c (left - 1) (p + 1) ≡ bad → tree_at c left p ≡ bad
  unfolding tree_at read_tree
  at_bad zero h e x = absurd (omega arith)
  at_bad (suc n) h e x =
      rw (
        ne_eqb (suc n) 0 (λ q. omega arith),
        ne_eqb (bit_at c p) 2 (λ q. omega arith),
        ne_eqb (bit_at c p) 1 (λ q. omega arith),
        enough n (suc n - 1) c (suc n - 1) (p + 1) (omega arith) (omega arith),
        x,
      )

  pub at_branch :
      (left : ℕ) → 0 < left → bit_at c p ≡ 0 → (l : Tree) (q : ℕ) → tree_at c (left - 1) (p + 1) ≡ got l q →
      tree_at c left p ≡ joined l (tree_at c (left - leaves l) q)
  unfolding tree_at read_tree
  at_branch zero h e l q x = absurd (omega arith)
  at_branch (suc n) h e l q x =
      let u : 1 ≤ leaves l = some l in
      rw (
        ne_eqb (suc n) 0 (λ z. omega arith),
        ne_eqb (bit_at c p) 2 (λ z. omega arith),
        ne_eqb (bit_at c p) 1 (λ z. omega arith),
        enough n (suc n - 1) c (suc n - 1) (p + 1) (omega arith) (omega arith),
        x,
        enough n (suc n - leaves l) c (suc n - leaves l) q (omega arith) (omega arith),
      )

  pub leaf_out : octet_at c p ≡ 256 → leaf_at c p ≡ bad
  unfolding leaf_at
  leaf_out h = rw (eq-eqb (octet_at c p) 256 h)

  pub leaf_in : (octet_at c p ≡ 256 → ⊥) → leaf_at c p ≡ got (leaf (octet_at c p)) (p + 8)
  unfolding leaf_at
  leaf_in n = rw (ne_eqb (octet_at c p) 256 n)
