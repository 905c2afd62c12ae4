-- The tree of a Huffman code, 'stored from its root, branch before its children' (document 02, Req 01; G 6.2).
use Rattle.std.specs.Prelude.{ℕ, zero, suc, ◌+◌, ◌-◌, List, eqb}
use Rattle.wire.specs.Pick.{pick}
use Rattle.huffman.specs.Bits.{bit_at, octet_at}

pub data Tree : Type 0 where
  leaf : ℕ → Tree
  branch : Tree → Tree → Tree

-- a tree that was read and the bit behind it, or that none stands there
pub data Parsed : Type 0 where
  got : Tree → ℕ → Parsed
  bad : Parsed

unfoldable pub leaves : Tree → ℕ
leaves (leaf y) = 1
leaves (branch l r) = leaves l + leaves r

abbrev pub bind : Parsed → (Tree → ℕ → Parsed) → Parsed
bind bad f = bad
bind (got t p) f = f t p

-- a leaf whose symbol is the eight bits at p
unfoldable pub leaf_at : List ℕ → ℕ → Parsed
leaf_at c p = pick (eqb (octet_at c p) 256) bad (got (leaf (octet_at c p)) (p + 8))

-- the node at bit p of a tree that may have `left` leaves more (G 6.2): the bit 1 is a leaf, behind it the symbol; 0 is a
-- branch, behind it the left child and then the right one; a bit past the end is none. The first argument only bounds the
-- recursion
unfoldable pub read_tree : ℕ → List ℕ → ℕ → ℕ → Parsed
read_tree zero c left p = bad
read_tree (suc f) c left p =
    pick (eqb left 0) bad
    (pick (eqb (bit_at c p) 2) bad
    (pick (eqb (bit_at c p) 1) (leaf_at c (p + 1))
    (bind (read_tree f c (left - 1) (p + 1)) (λ l q. bind (read_tree f c (left - leaves l) q) (λ r s. got (branch l r) s)))))

-- the tree at bit p, of at most `left` leaves
unfoldable pub tree_at : List ℕ → ℕ → ℕ → Parsed
tree_at c left p = read_tree left c left p
