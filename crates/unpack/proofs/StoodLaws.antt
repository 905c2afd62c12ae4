-- The symbols that a tree gives are bytes, so the numbers of a content are those of the codes that stand in it. Assumes nothing.
use Prim.Native.Nat.{ℕ, ◌+◌, ◌<◌}
use mathlib.Core.Path.{◌≡◌, refl, sym, ap, ◌∙◌}
use mathlib.Core.List.{List}
use mathlib.Core.Bool.{Bool, true, false}
use native.Mathlib.Omega.{arith}
use lib.Dec.{eqb}
use Rattle.wire.specs.Pick.{pick}
use Rattle.m32.specs.M32.{Next, byte, end}
use Rattle.m32.specs.Back.{OnlyBytes}
use Rattle.m32.proofs.OnlyLaws.{codes_alone}
use Rattle.huffman.specs.Bits.{bit_at}
use Rattle.huffman.specs.Tree.{Tree, leaf, branch}
use Rattle.huffman.specs.Symbols.{symbol_at}
use Rattle.huffman.specs.Stored.{Symbols}
use Rattle.huffman.specs.declared.Symbol.{Symbol}
use Rattle.huffman.proofs.StoredLaws.{tree_stored}
use Rattle.std.specs.Prelude.{Option, Some, None}
use Rattle.unpack.specs.Unpack.{symbol_count, tree_in, as_byte, symbols}
use Rattle.unpack.specs.Stood.{CodesStood}

-- what a symbol is, 0 where there is none
abbrev value_of : Option Symbol → ℕ
value_of (Some s) = s.y
value_of None = 0

small : (t : Tree) (c : List ℕ) (p : ℕ) → Symbols t → value_of (symbol_at t c p) < 256
unfolding symbol_at
small (leaf y) c p s = s
small (branch l r) c p s = go (eqb (bit_at c p) 2) (eqb (bit_at c p) 0) (small l c (p + 1) s.0) (small r c (p + 1) s.1)
  where
    go :
        (a b : Bool) → value_of (symbol_at l c (p + 1)) < 256 → value_of (symbol_at r c (p + 1)) < 256 →
        value_of (pick a None (pick b (symbol_at l c (p + 1)) (symbol_at r c (p + 1)))) < 256
    go true b h k = omega arith
    go false true h k = h
    go false false h k = k

-- a symbol that is a byte is that byte
abbrev octet : Next → ℕ
octet (byte y q) = y
octet end = 0

same : (x : Option Symbol) → octet (as_byte x) ≡ value_of x
same (Some s) = refl
same None = refl

octets : (t : Tree) (c : List ℕ) → Symbols t → OnlyBytes (symbols t c)
unfolding symbols
octets t c s = record { small = λ p y q e. let f : value_of (symbol_at t c p) ≡ y = sym (same (symbol_at t c p)) ∙ ap octet e in rw (← f) (small t c p s) }

pub codes_stood : CodesStood
unfolding tree_in
codes_stood c t q n e = codes_alone (symbols t c) (octets t c (tree_stored.is_stored_lem c (symbol_count c) 88 t q e).symbols) n q
