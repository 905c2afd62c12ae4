-- The tables of G 5.1.4, with its letters, at sixteen different numbers, some of them negative and some at the ends of the range.
use Rattle.std.specs.Prelude.{◌≡◌, ℕ, List, [], ◌∷◌}
use Rattle.predict.specs.Predict.{plus, minus, left_rows, no_row, tile_cells}

abbrev pub Table : Type 0
Table = ℕ → ℕ → ℕ → ℕ → ℕ → ℕ → ℕ → ℕ → ℕ → ℕ → ℕ → ℕ → ℕ → ℕ → ℕ → ℕ → List ℕ

abbrev pub source : Table
source A B C D E F G H I J K L M N O P = A ∷ B ∷ C ∷ D ∷ E ∷ F ∷ G ∷ H ∷ I ∷ J ∷ K ∷ L ∷ M ∷ N ∷ O ∷ P ∷ []

abbrev pub differences : Table
differences A B C D E F G H I J K L M N O P =
    A ∷ minus B A ∷ minus C B ∷ minus D C
    ∷ minus E A ∷ minus F E ∷ minus G F ∷ minus H G
    ∷ minus I E ∷ minus J I ∷ minus K J ∷ minus L K
    ∷ minus M I ∷ minus N M ∷ minus O N ∷ minus P O ∷ []

-- z - (2y - x)
abbrev line : ℕ → ℕ → ℕ → ℕ
line z y x = minus z (minus (plus y y) x)

-- G prints D-(2C-A) in the first row; its formula and its other rows make that D-(2C-B)
abbrev pub lines : Table
lines A B C D E F G H I J K L M N O P =
    A ∷ minus B A ∷ line C B A ∷ line D C B
    ∷ minus E A ∷ minus F E ∷ line G F E ∷ line H G F
    ∷ minus I E ∷ minus J I ∷ line K J I ∷ line L K J
    ∷ minus M I ∷ minus N M ∷ line O N M ∷ line P O N ∷ []

-- z - (x + y - w)
abbrev slope : ℕ → ℕ → ℕ → ℕ → ℕ
slope z x y w = minus z (minus (plus x y) w)

abbrev pub triangles : Table
triangles A B C D E F G H I J K L M N O P =
    A ∷ minus B A ∷ minus C B ∷ minus D C
    ∷ minus E A ∷ slope F B E A ∷ slope G C F B ∷ slope H D G C
    ∷ minus I E ∷ slope J F I E ∷ slope K G J F ∷ slope L H K G
    ∷ minus M I ∷ slope N J M I ∷ slope O K N J ∷ slope P L O K ∷ []

abbrev pub filled : Table → List ℕ
filled t =
    t 5 4294967295 2147483647 2147483648
    17 1000 4294966296 40000
    3 4294934528 32767 65541
    2 1 2000000000 4000000000

-- the residuals of the cells, and the cells of the residuals
abbrev pub residuals : ℕ → List ℕ
residuals p = left_rows p 4 (no_row 4) 4 (filled source)

abbrev pub cells : ℕ → Table → List ℕ
cells p t = tile_cells p 4 4 (filled t)

pub record SamplesHold : Type 0 where
  pub differencing : residuals 0 ≡ filled differences
  pub linear : residuals 1 ≡ filled lines
  pub triangle : residuals 2 ≡ filled triangles
  pub by_differences : cells 0 differences ≡ filled source
  pub by_lines : cells 1 lines ≡ filled source
  pub by_triangles : cells 2 triangles ≡ filled source
