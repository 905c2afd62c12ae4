-- The writer of trees as G 6.2 prints it, and that a tree is read just where it stands.
use Rattle.std.specs.Prelude.{ℕ, zero, suc, ◌+◌, ◌/◌, ◌%◌, ◌≤◌, ◌<◌, ◌≡◌, List, [], ◌∷◌, ◌++◌, length, get_or}
use Rattle.huffman.specs.Bits.{bit_at}
use Rattle.huffman.specs.Tree.{Tree, leaf, branch, got, leaves, tree_at}

-- the n lowest bits of a number, low-order first (G 8)
unfoldable pub bits_of : ℕ → ℕ → List ℕ
bits_of zero v = []
bits_of (suc n) v = v % 2 ∷ bits_of n (v / 2)

-- G 6.2's RecursiveStore: of a branch a bit 0, the left child, the right child; of a leaf a bit 1, the symbol
unfoldable pub store_tree : Tree → List ℕ
store_tree (leaf y) = 1 ∷ bits_of 8 y
store_tree (branch l r) = 0 ∷ (store_tree l ++ store_tree r)

-- the symbols are bytes
abbrev pub Symbols : Tree → Type 0
Symbols (leaf y) = y < 256
Symbols (branch l r) = Symbols l × Symbols r

-- these bits stand in a content from bit p on
pub record Stands (c : List ℕ) (p : ℕ) (bs : List ℕ) : Type 0 where
  pub each : (i : ℕ) → i < length bs → bit_at c (p + i) ≡ get_or bs i 0

-- what a tree that is read is: it has no more leaves than it may, it stands there as it is stored, and ends where its bits end
pub record Stored (c : List ℕ) (left p : ℕ) (t : Tree) (q : ℕ) : Type 0 where
  pub few : leaves t ≤ left
  pub symbols : Symbols t
  pub stands : Stands c p (store_tree t)
  pub behind : q ≡ p + length (store_tree t)

-- a tree that is stored is read, and a tree that is read is stored
pub record TreeStored : Type 0 where
  pub is_read : (c : List ℕ) (left p : ℕ) (t : Tree) (q : ℕ) → Stored c left p t q → tree_at c left p ≡ got t q
  pub is_stored_lem : (c : List ℕ) (left p : ℕ) (t : Tree) (q : ℕ) → tree_at c left p ≡ got t q → Stored c left p t q
