-- Where several bits at once lead from a node, as a list of jumps that is made once for a tree; and the symbol that nodes and jumps give,
-- which is the tree's where they are those of a tree.
use Rattle.std.specs.Prelude.{ℕ, zero, suc, ◌+◌, ◌-◌, ◌*◌, ◌/◌, ◌%◌, ◌≤◌, ◌<◌, ◌≡◌, List, [], ◌∷◌, ◌++◌, Option, None, length, get_or, leb, eqb}
use Rattle.wire.specs.Pick.{pick}
use Rattle.huffman.specs.Bits.{octet_at}
use Rattle.huffman.specs.Tree.{Tree}
use Rattle.huffman.specs.Symbols.{given, symbol_at}
use Rattle.huffman.specs.Nodes.{Nodes, child_of, bit_by_bit}
use Rattle.huffman.specs.declared.Symbol.{Symbol}

-- more nodes than a tree of 256 leaves has, and so no node's number
abbrev pub most_nodes : ℕ
most_nodes = 512

-- a walk that has taken u bits and stands at node i: a branch is its number, a leaf most_nodes × (u + 1) and its symbol
unfoldable pub stands : List ℕ → ℕ → ℕ → ℕ
stands ns u i = pick (leb 256 (get_or ns i 0)) i (most_nodes * (u + 1) + get_or ns i 0)

-- k bits more, which are the number v, the first of them lowest; at a leaf the walk stops
unfoldable pub walked : List ℕ → ℕ → ℕ → ℕ → ℕ → ℕ
walked ns zero u i v = stands ns u i
walked ns (suc k) u i v = pick (leb 256 (get_or ns i 0)) (walked ns k (u + 1) (child_of i (get_or ns i 0) (v % 2)) (v / 2)) (stands ns u i)

-- the symbol of a jump from bit p that ends at a leaf, and the bit behind its code
unfoldable pub symbol_in : ℕ → ℕ → Option Symbol
symbol_in jump p = given (jump % 256) (p + jump / most_nodes - 1)

-- the jump with the number j: the first 256 are those of eight bits from the root; then each node has the 16 of four bits
abbrev pub most_jumps : ℕ
most_jumps = 256 + 16 * most_nodes

unfoldable pub jump_of : List ℕ → ℕ → ℕ
jump_of ns j =
    pick (leb most_jumps j) 0
    (pick (leb 256 j) (walked ns 4 0 ((j - 256) / 16) ((j - 256) % 16)) (walked ns 8 0 0 j))

-- the first n of them
unfoldable pub jumps_of : List ℕ → ℕ → List ℕ
jumps_of ns zero = []
jumps_of ns (suc n) = jumps_of ns n ++ (jump_of ns n ∷ [])

-- a list of jumps, as many of them as it has
unfoldable pub Jumps : List ℕ → List ℕ → Type 0
Jumps ns js = (length ns ≤ most_nodes) × ((j : ℕ) → j < length js → get_or js j 0 ≡ jump_of ns j)

-- the nodes and the jumps of a tree
unfoldable pub Coded : List ℕ → List ℕ → Tree → Type 0
Coded ns js t = Nodes ns 0 t × Jumps ns js

-- The symbol whose code stands at bit p, of any nodes and any jumps.

-- the number of the jump of the four bits at p, from node i
abbrev pub four_at : List ℕ → ℕ → ℕ → ℕ
four_at c i p = 256 + 16 * i + octet_at c p % 16

-- from node i on, four bits at a step: a jump below most_nodes is a node, any other gives a symbol; bit by bit where there is no jump, or
-- fewer than eight bits are left. The first argument only bounds the recursion
unfoldable pub four_by_four : ℕ → List ℕ → List ℕ → List ℕ → ℕ → ℕ → Option Symbol
four_by_four zero c ns js i p = None
four_by_four (suc f) c ns js i p =
    pick (eqb (octet_at c p) 256) (bit_by_bit c ns i p)
    (pick (leb (length js) (four_at c i p)) (bit_by_bit c ns i p)
    (pick (leb most_nodes (get_or js (four_at c i p) 0)) (symbol_in (get_or js (four_at c i p) 0) p)
    (four_by_four f c ns js (get_or js (four_at c i p) 0) (p + 4))))

unfoldable pub by_fours : List ℕ → List ℕ → List ℕ → ℕ → ℕ → Option Symbol
by_fours c ns js i p = four_by_four (suc (2 * length c - p / 4)) c ns js i p

-- from the root on, eight bits first
unfoldable pub next_symbol : List ℕ → List ℕ → List ℕ → ℕ → Option Symbol
next_symbol c ns js p =
    pick (eqb (octet_at c p) 256) (bit_by_bit c ns 0 p)
    (pick (leb (length js) (octet_at c p)) (bit_by_bit c ns 0 p)
    (pick (leb most_nodes (get_or js (octet_at c p) 0)) (symbol_in (get_or js (octet_at c p) 0) p)
    (by_fours c ns js (get_or js (octet_at c p) 0) (p + 8))))

-- of a tree it is the tree's
abbrev pub NextIsTrees : Type 0
NextIsTrees = (c ns js : List ℕ) (t : Tree) (p : ℕ) → Coded ns js t → next_symbol c ns js p ≡ symbol_at t c p
