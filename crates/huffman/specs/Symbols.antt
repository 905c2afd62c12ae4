-- The symbols of a tree and of the bits that it decodes.
use Rattle.std.specs.Prelude.{ℕ, ◌+◌, List, [], ◌∷◌, ◌++◌, Bool, true, false, Option, Some, None, eqb}
use Rattle.wire.specs.Pick.{pick}
use Rattle.huffman.specs.Bits.{bit_at}
use Rattle.huffman.specs.Tree.{Tree, leaf, branch}
use Rattle.huffman.specs.declared.Symbol.{Symbol}

-- a symbol and the bit behind its code
abbrev pub given : ℕ → ℕ → Option Symbol
given y p = Some (record { y = y; pos = p })

-- G 6.2: 'a bit value of zero is interpreted as a left traversal, a bit value of one as a right traversal'; at a leaf, which
-- takes no bit, its symbol is given. Document 02: 'a tree of one leaf spends no bits'
unfoldable pub symbol_at : Tree → List ℕ → ℕ → Option Symbol
symbol_at (leaf y) c p = given y p
symbol_at (branch l r) c p =
    pick (eqb (bit_at c p) 2) None (pick (eqb (bit_at c p) 0) (symbol_at l c (p + 1)) (symbol_at r c (p + 1)))

-- the symbols of a tree, from left to right
unfoldable pub symbols_of : Tree → List ℕ
symbols_of (leaf y) = y ∷ []
symbols_of (branch l r) = symbols_of l ++ symbols_of r

-- y is one of the list
unfoldable pub among : ℕ → List ℕ → Bool
among y [] = false
among y (x ∷ xs) = pick (eqb y x) true (among y xs)

-- document 02: malformed is 'a symbol twice'. None of the list is among `seen` or among those before it
unfoldable pub fresh : List ℕ → List ℕ → Bool
fresh seen [] = true
fresh seen (y ∷ ys) = pick (among y seen) false (fresh (y ∷ seen) ys)

unfoldable pub distinct : List ℕ → Bool
distinct ys = fresh [] ys
