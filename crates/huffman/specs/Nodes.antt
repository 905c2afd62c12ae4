-- A tree as a list of numbers, one a node, from the root on: a leaf is its symbol; a branch is 256 and the number of its right
-- child, and its left child is the next node.
use Rattle.std.specs.Prelude.{ℕ, zero, suc, ◌+◌, ◌-◌, ◌*◌, ◌≤◌, ◌<◌, ◌≡◌, List, [], ◌∷◌, ◌++◌, Bool, Option, Some, None, length, get_or, leb, eqb}
use Rattle.wire.specs.Pick.{pick}
use Rattle.wire.specs.Tests.{◌≤?◌, passes}
use Rattle.wire.specs.Bytes.{put, zeros}
use Rattle.huffman.specs.Tree.{Tree, leaf, branch, Parsed, got, bad, leaves, tree_at}
use Rattle.huffman.specs.Bits.{bit_at}
use Rattle.huffman.specs.Symbols.{given}
use Rattle.huffman.specs.declared.Symbol.{Symbol}
use Rattle.huffman.specs.declared.Read.{Read}

-- how many nodes a tree has
unfoldable pub size : Tree → ℕ
size (leaf y) = 1
size (branch l r) = 1 + (size l + size r)

-- the numbers of a tree whose root is node i
unfoldable pub nodes_of : ℕ → Tree → List ℕ
nodes_of i (leaf y) = y ∷ []
nodes_of i (branch l r) = (256 + (i + 1 + size l)) ∷ (nodes_of (i + 1) l ++ nodes_of (i + 1 + size l) r)

-- the numbers from i on are those of the tree, and its symbols are bytes
unfoldable pub Nodes : List ℕ → ℕ → Tree → Type 0
Nodes ns i (leaf y) = (i < length ns) × ((get_or ns i 0 ≡ y) × (y < 256))
Nodes ns i (branch l r) =
    (i < length ns) × ((get_or ns i 0 ≡ 256 + (i + 1 + size l)) × (Nodes ns (i + 1) l × Nodes ns (i + 1 + size l) r))

-- a tree that was read: the bit behind it, the node behind it, and how many leaves are left
abbrev pub tree_read : ℕ → ℕ → ℕ → Option Read
tree_read p n l = Some (record { pos = p; next = n; left = l })

-- what a reader answers that laid the tree down from node `at` on and might give it `left` leaves
unfoldable pub outcome : ℕ → ℕ → Parsed → Option Read
outcome at left bad = None
outcome at left (got t p) = tree_read p (at + size t) (left - leaves t)

-- and what it made of the nodes a: in b the tree stands from `at` on, and what is behind it stays. Where there is no tree, `root_nodes` says
-- what becomes of them
unfoldable pub Laid : List ℕ → List ℕ → ℕ → Parsed → Type 0
Laid a b at bad = Unit {0}
Laid a b at (got t p) = Nodes b at t × ((j : ℕ) → at + size t ≤ j → get_or a j 0 ≡ get_or b j 0)

-- the nodes below `at` stay
unfoldable pub Below : List ℕ → List ℕ → ℕ → Type 0
Below a b at = (length a ≡ length b) × ((j : ℕ) → j < at → get_or a j 0 ≡ get_or b j 0)

-- a whole tree is read only into n nodes that hold any tree of 256 leaves, and with no more leaves than that
abbrev pub roomy : ℕ → ℕ → Bool
roomy n left = passes ((511 ≤? n) ∷ (left ≤? 256) ∷ [])

unfoldable pub root_outcome : ℕ → ℕ → Parsed → Option Read
root_outcome n left x = pick (roomy n left) (outcome 0 left x) None

-- and what the nodes ns are then: the tree's in front, and those behind them as they were; where no tree is read, 0 each
unfoldable pub laid_in : List ℕ → Parsed → List ℕ
laid_in ns bad = zeros (length ns)
laid_in ns (got t p) = put ns 0 (nodes_of 0 t)

-- where there is no room, they stay
unfoldable pub root_nodes : List ℕ → ℕ → Parsed → List ℕ
root_nodes ns left x = pick (roomy (length ns) left) (laid_in ns x) ns

-- where a tree is read, they are its nodes
abbrev pub RootIsLaid : Type 0
RootIsLaid =
    (ns c : List ℕ) (left p : ℕ) (t : Tree) (q : ℕ) → 511 ≤ length ns → left ≤ 256 → tree_at c left p ≡ got t q →
    Nodes (root_nodes ns left (tree_at c left p)) 0 t

-- where a bit leads from a branch
unfoldable pub child_of : ℕ → ℕ → ℕ → ℕ
child_of i node bit = pick (eqb bit 0) (i + 1) (node - 256)

-- the symbol that any nodes give from node i and bit p on, bit by bit; none where there is no such node, or no bit more. The first argument
-- only bounds the recursion
unfoldable pub walk_bits : ℕ → List ℕ → List ℕ → ℕ → ℕ → Option Symbol
walk_bits zero c ns i p = None
walk_bits (suc f) c ns i p =
    pick (leb (length ns) i) None
    (pick (leb 256 (get_or ns i 0)) (pick (eqb (bit_at c p) 2) None (walk_bits f c ns (child_of i (get_or ns i 0) (bit_at c p)) (p + 1))) (given (get_or ns i 0) p))

unfoldable pub bit_by_bit : List ℕ → List ℕ → ℕ → ℕ → Option Symbol
bit_by_bit c ns i p = walk_bits (suc (8 * length c - p)) c ns i p

-- the symbols among some nodes
unfoldable pub symbols_in : List ℕ → List ℕ
symbols_in [] = []
symbols_in (x ∷ xs) = pick (leb 256 x) (symbols_in xs) (x ∷ symbols_in xs)
