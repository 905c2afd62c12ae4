-- Trees and symbols of three contents, in one table: two leaves 0 and 1, one leaf 255, and the first without its last two bytes.
use Rattle.std.specs.Prelude.{ℕ, ◌≡◌, List, [], ◌∷◌, None}
use Rattle.huffman.specs.Tree.{leaf, branch, got, bad, tree_at}
use Rattle.huffman.specs.Symbols.{given, symbol_at}

-- the tree's bits begin at bit 88, behind the eleven bytes of the head (G 6 and 6.2)
abbrev pub two : List ℕ
two = 7 ∷ 0 ∷ 5 ∷ 0 ∷ 0 ∷ 0 ∷ 7 ∷ 0 ∷ 0 ∷ 0 ∷ 1 ∷ 2 ∷ 12 ∷ 184 ∷ 3 ∷ []

abbrev pub one : List ℕ
one = 7 ∷ 0 ∷ 3 ∷ 0 ∷ 0 ∷ 0 ∷ 7 ∷ 0 ∷ 0 ∷ 0 ∷ 0 ∷ 255 ∷ 1 ∷ []

abbrev pub cut : List ℕ
cut = 7 ∷ 0 ∷ 5 ∷ 0 ∷ 0 ∷ 0 ∷ 7 ∷ 0 ∷ 0 ∷ 0 ∷ 1 ∷ 2 ∷ 12 ∷ []

pub record SamplesHold : Type 0 where
  pub tree_two : tree_at two 2 88 ≡ got (branch (leaf 0) (leaf 1)) 107
  pub tree_one : tree_at one 1 88 ≡ got (leaf 255) 97
  pub tree_cut : tree_at cut 2 88 ≡ bad
  pub tree_few : tree_at two 1 88 ≡ bad
  pub first_symbol : symbol_at (branch (leaf 0) (leaf 1)) two 107 ≡ given 1 108
  pub fourth_symbol : symbol_at (branch (leaf 0) (leaf 1)) two 110 ≡ given 0 111
  pub no_bits : symbol_at (leaf 255) one 97 ≡ given 255 97
  pub at_end : symbol_at (branch (leaf 0) (leaf 1)) two 120 ≡ None
