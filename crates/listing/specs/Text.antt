-- Text as bytes: numbers in decimal, and the words of document 01, 'The listing'.
use Rattle.std.specs.Prelude.{ℕ, zero, suc, ◌+◌, ◌/◌, ◌%◌, List, [], ◌∷◌, ◌++◌, true, false, leb}

-- the digits of a number, highest first; the first argument only bounds the recursion
unfoldable pub digits : ℕ → ℕ → List ℕ
digits zero n = []
digits (suc k) n = elim (leb 10 n) [ true ↦ digits k (n / 10) ++ ((48 + n % 10) ∷ []) | false ↦ (48 + n) ∷ [] ]

-- a number in decimal, without a leading zero
unfoldable pub decimal : ℕ → List ℕ
decimal n = digits (suc n) n

abbrev pub space : List ℕ
space = 32 ∷ []

-- a line ends with a newline
abbrev pub newline : List ℕ
newline = 10 ∷ []

-- `grid `
unfoldable pub grid_word : List ℕ
grid_word = 103 ∷ 114 ∷ 105 ∷ 100 ∷ 32 ∷ []

-- `tile `
unfoldable pub tile_word : List ℕ
tile_word = 116 ∷ 105 ∷ 108 ∷ 101 ∷ 32 ∷ []

-- `elements `
unfoldable pub elements_word : List ℕ
elements_word = 101 ∷ 108 ∷ 101 ∷ 109 ∷ 101 ∷ 110 ∷ 116 ∷ 115 ∷ 32 ∷ []

-- `written `
unfoldable pub written_word : List ℕ
written_word = 119 ∷ 114 ∷ 105 ∷ 116 ∷ 116 ∷ 101 ∷ 110 ∷ 32 ∷ []

-- ` of `
unfoldable pub of_word : List ℕ
of_word = 32 ∷ 111 ∷ 102 ∷ 32 ∷ []

-- `refused `
unfoldable pub refused_word : List ℕ
refused_word = 114 ∷ 101 ∷ 102 ∷ 117 ∷ 115 ∷ 101 ∷ 100 ∷ 32 ∷ []

-- ` at `
unfoldable pub at_word : List ℕ
at_word = 32 ∷ 97 ∷ 116 ∷ 32 ∷ []

-- the line `too long`
unfoldable pub too_long : List ℕ
too_long = 116 ∷ 111 ∷ 111 ∷ 32 ∷ 108 ∷ 111 ∷ 110 ∷ 103 ∷ 10 ∷ []

-- a word, two numbers with a text between them, and a newline
unfoldable pub line : List ℕ → ℕ → List ℕ → ℕ → List ℕ
line word a between b = word ++ decimal a ++ between ++ decimal b ++ newline
