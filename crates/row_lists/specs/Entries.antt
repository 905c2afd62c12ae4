-- Req 09: "It lists each cell differing in kind or bits once, no other, by row, then column, then element". `d r c e` says whether the
-- cell in row r and column c of element e differs.
use Rattle.std.specs.Prelude.{ℕ, ◌+◌, ◌/◌, ◌<◌, ◌≡◌, List, [], ◌∷◌, ◌++◌, Bool, true, ◌⊎◌, length, take}
use Rattle.wire.specs.Pick.{pick}
use Rattle.wire.specs.Lists.{count_below}
use Rattle.blocks.specs.Folds.{fold_below, fold_inside}

-- a cell: a row, a column and an element number
pub record Entry : Type 0 where
  pub row : ℕ
  pub column : ℕ
  pub element : ℕ

abbrev pub entry : ℕ → ℕ → ℕ → Entry
entry r c e = record { row = r; column = c; element = e }

-- which tile the cell in a row and a column lies in, and which number it has inside
pub record Tiling : Type 0 where
  pub tile : ℕ → ℕ → ℕ
  pub inside : ℕ → ℕ → ℕ

-- of the first n elements of a cell those that differ
unfoldable pub entries_at : (ℕ → ℕ → ℕ → Bool) → ℕ → ℕ → ℕ → List Entry
entries_at d n r c = fold_below ◌++◌ [] n (λ e. pick (d r c e) (entry r c e ∷ []) [])

-- of the rows from `top` to below `bottom` and the columns from `left` to below `right`
unfoldable pub differing_in : (ℕ → ℕ → ℕ → Bool) → ℕ → ℕ → ℕ → ℕ → ℕ → List Entry
differing_in d n top bottom left right = fold_inside ◌++◌ [] top bottom left right (entries_at d n)

-- how many
unfoldable pub count_in : (ℕ → ℕ → ℕ → Bool) → ℕ → ℕ → ℕ → ℕ → ℕ → ℕ
count_in d n top bottom left right = fold_inside ◌+◌ 0 top bottom left right (λ r c. count_below n (d r c))

-- the numbers of an entry. Req 10: "Each entry of the compare list becomes five numbers, tile index and number inside last"
abbrev pub entry_size : ℕ
entry_size = 5

abbrev pub entry_numbers : Entry → ℕ → ℕ → List ℕ
entry_numbers x tile inside = x.row ∷ x.column ∷ x.element ∷ tile ∷ inside ∷ []

abbrev pub tiled_numbers : Tiling → Entry → List ℕ
tiled_numbers tiling x = entry_numbers x (tiling.tile x.row x.column) (tiling.inside x.row x.column)

-- those of entries, and of the ones that fit whole into so many numbers
unfoldable pub flat : Tiling → List Entry → List ℕ
flat tiling [] = []
flat tiling (x ∷ xs) = tiled_numbers tiling x ++ flat tiling xs

unfoldable pub listed : Tiling → ℕ → List Entry → List ℕ
listed tiling room xs = flat tiling (take (room / entry_size) xs)

-- by row, then column, then element
abbrev pub Before : Entry → Entry → Type 0
Before a b =
    (a.row < b.row) ⊎ ((a.row ≡ b.row) × ((a.column < b.column) ⊎ ((a.column ≡ b.column) × (a.element < b.element))))

abbrev pub In : Entry → List Entry → Type 0
In x [] = ⊥
In x (y ∷ ys) = (x ≡ y) ⊎ In x ys

abbrev pub Ascends : List Entry → Type 0
Ascends [] = Unit {0}
Ascends (x ∷ xs) = ((y : Entry) → In y xs → Before x y) × Ascends xs

-- "each cell differing .. once, no other", in order, "and the full number of them"
pub record EachOnce (d : ℕ → ℕ → ℕ → Bool) (n rows columns : ℕ) (l : List Entry) : Type 0 where
  pub ascends : Ascends l
  pub each : (r c e : ℕ) → r < rows → c < columns → e < n → d r c e ≡ true → In (entry r c e) l
  pub only : (x : Entry) → In x l → ((x.row < rows) × ((x.column < columns) × (x.element < n))) × (d x.row x.column x.element ≡ true)
  pub counted : length l ≡ count_in d n 0 rows 0 columns

abbrev pub ListsEachOnce : Type 0
ListsEachOnce = (d : ℕ → ℕ → ℕ → Bool) (n rows columns : ℕ) → EachOnce d n rows columns (differing_in d n 0 rows 0 columns)

-- "Unrefused, swapped pages give the same cells": what differs either way is one list
abbrev pub SwappedSame : Type 0
SwappedSame =
    (d f : ℕ → ℕ → ℕ → Bool) (n rows columns : ℕ) → ((r c e : ℕ) → r < rows → c < columns → e < n → d r c e ≡ f r c e) →
    differing_in d n 0 rows 0 columns ≡ differing_in f n 0 rows 0 columns
