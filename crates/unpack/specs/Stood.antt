-- The numbers of a content are read where their M32 codes stand, and nowhere else: the symbols that a content gives from the bit behind its
-- tree on are the bytes of these codes, and `count_right` counts them.
use Rattle.std.specs.Prelude.{ℕ, ◌≡◌, List}
use Rattle.m32.specs.M32.{read_codes}
use Rattle.m32.specs.Back.{CodesRead}
use Rattle.huffman.specs.Tree.{Tree, got}
use Rattle.unpack.specs.Unpack.{tree_in, symbols}

abbrev pub CodesStood : Type 0
CodesStood = (c : List ℕ) (t : Tree) (q n : ℕ) → tree_in c ≡ got t q → CodesRead (symbols t c) n q (read_codes (symbols t c) n q)
