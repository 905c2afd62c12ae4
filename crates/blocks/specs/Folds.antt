-- One value from many: the sum, the least, the first refusal. `op` joins two of them, and `unit` is that of none.
use Rattle.std.specs.Prelude.{ℕ, zero, suc, ◌+◌, ◌-◌, ◌≡◌}

-- f of each number below n, joined in order
unfoldable pub fold_below : {A : Type 0} → (A → A → A) → A → ℕ → (ℕ → A) → A
fold_below op unit zero f = unit
fold_below op unit (suc n) f = op (fold_below op unit n f) (f n)

-- f of each cell of a rectangle of m rows from row a on and n columns from column c on, joined by rows
unfoldable pub fold_rectangle : {A : Type 0} → (A → A → A) → A → ℕ → ℕ → ℕ → ℕ → (ℕ → ℕ → A) → A
fold_rectangle op unit a m c n f = fold_below op unit m (λ i. fold_below op unit n (λ j. f (a + i) (c + j)))

-- the same of the rows from `top` to below `bottom` and the columns from `left` to below `right`
unfoldable pub fold_inside : {A : Type 0} → (A → A → A) → A → ℕ → ℕ → ℕ → ℕ → (ℕ → ℕ → A) → A
fold_inside op unit top bottom left right f = fold_rectangle op unit top (bottom - top) left (right - left) f

-- what the laws ask of `op` and `unit`
pub record Joins {A : Type 0} (op : A → A → A) (unit : A) : Type 0 where
  pub unit_left : (x : A) → op unit x ≡ x
  pub unit_right : (x : A) → op x unit ≡ x
  pub assoc : (x y z : A) → op (op x y) z ≡ op x (op y z)
