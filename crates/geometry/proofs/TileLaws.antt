-- Bounds of quotients and products, and tiles from their parts. Assumes nothing.
use Prim.Native.Nat.{ℕ, ◌+◌, ◌*◌, ◌/◌, ◌%◌, ◌-◌, ◌≤◌, ◌<◌}
use mathlib.Core.Path.{◌≡◌, refl, sym}
use mathlib.Core.List.{List}
use native.Mathlib.Omega.{arith}
use native.Mathlib.Nat.{div-zero, mod-zero, div-le_self, mod-le, mul-le-mul, mul-le-mul_left, div-lt_iff_lt-mul}
use Rattle.geometry.specs.Tiles.{tiles_along, tile_of, inside_of, tiles_in, tiles_across, tiles_down, tile_count}

pub quotient_zero : (a b : ℕ) → b ≡ 0 → 0 ≡ a / b
quotient_zero a b e = rw e (sym (div-zero a))

pub remainder_zero : (a b : ℕ) → b ≡ 0 → a ≡ a % b
remainder_zero a b e = rw e (sym (mod-zero a))

pub quotient_small : (a b : ℕ) → a / b ≤ a
quotient_small a b = div-le_self a b

pub remainder_small : (a b : ℕ) → a % b ≤ a
remainder_small a b = mod-le a b

-- two four-byte numbers multiplied
pub product : (a b : ℕ) → a < 4294967296 → b < 4294967296 → a * b ≤ 18446744065119617025
product a b h k = let x : a ≤ 4294967295 = omega arith in let y : b ≤ 4294967295 = omega arith in mul-le-mul x y

-- tiles along a side

pub along_zero : (side tile : ℕ) → tile ≡ 0 → 0 ≡ tiles_along side tile
unfolding tiles_along
along_zero side tile e = rw e (sym (div-zero _))

pub along_is : (side tile : ℕ) → (side + (tile - 1)) / tile ≡ tiles_along side tile
unfolding tiles_along
along_is side tile = refl

pub along_small : (side tile : ℕ) → (tile ≡ 0 → ⊥) → (side + (tile - 1)) / tile ≤ side
along_small side tile n =
    let p : 0 < tile = omega arith in
    let m : (side + 1) * 1 ≤ (side + 1) * tile = mul-le-mul_left (side + 1) p in
    let q : (side + 1) * tile ≡ side * tile + tile = omega arith in
    let r : side * 1 ≤ side * tile = mul-le-mul_left side p in
    let l : side + (tile - 1) < (side + 1) * tile = omega arith in
    let k : (side + (tile - 1)) / tile < side + 1 = (div-lt_iff_lt-mul p).1 l in
    omega arith

-- from the parts

pub tile_is : (h w across r c a b : ℕ) → a ≡ r / h → b ≡ c / w → a * across + b ≡ tile_of h w across r c
unfolding tile_of
tile_is h w across r c a b p q = rw (p, q)

pub inside_is : (h w r c a b : ℕ) → a ≡ r % h → b ≡ c % w → a * w + b ≡ inside_of h w r c
unfolding inside_of
inside_is h w r c a b p q = rw (p, q)

pub count_is : (s : List ℕ) (a b : ℕ) → a ≡ tiles_down s → b ≡ tiles_across s → a * b ≡ tile_count s
unfolding tile_count tiles_in tiles_down tiles_across
count_is s a b p q = rw (p, q)
