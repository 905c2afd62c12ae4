-- A tile directory as it is written: its form, its references, and one of them. Assumes nothing.
use Prim.Native.Nat.{ℕ, zero, suc, ◌+◌, ◌*◌, ◌/◌, ◌%◌, ◌≤◌}
use mathlib.Core.Path.{◌≡◌, refl, sym, ap, ◌∙◌}
use mathlib.Core.List.{List, [], ◌∷◌, ◌++◌}
use native.Mathlib.Omega.{arith}
use lib.ListN.{length, length-append}
use Rattle.wire.specs.Bytes.{Bytes, bytes_of, put, zeros}
use Rattle.wire.proofs.ByteLaws.{bytes_length, bytes_none, bytes_cons, bytes_append, bytes_of_lem, zeros_length, zeros_bytes}
use Rattle.wire.proofs.PutLaws.{first, then, bytes_mod}
use Rattle.record.specs.Record.{content_at}
use Rattle.geometry.specs.Tiles.{tiles_across, tiles_down, tile_count}
use Rattle.written_records.specs.Directory.{directory_form, references_of, directory_of}

pub four_more : (l : List ℕ) (v : ℕ) → length (l ++ bytes_of 4 v) ≡ length l + 4
four_more l v = length-append l (bytes_of 4 v) ∙ omega (arith, bytes_length 4 v)

pub reserved_length : length ((0 ∷ 0 ∷ []) ++ zeros 6) ≡ 8
reserved_length = length-append (0 ∷ 0 ∷ []) (zeros 6) ∙ omega (arith, zeros_length 6)

pub form_length : (down across : ℕ) → length (directory_form down across) ≡ 24
unfolding directory_form
form_length down across =
    let z : List ℕ = (0 ∷ 0 ∷ []) ++ zeros 6 in
    let a = four_more z 0 in
    let b = four_more (z ++ bytes_of 4 0) 0 in
    let c = four_more (z ++ bytes_of 4 0 ++ bytes_of 4 0) down in
    four_more (z ++ bytes_of 4 0 ++ bytes_of 4 0 ++ bytes_of 4 down) across ∙ omega (arith, a, b, c, reserved_length)

pub form_bytes : (down across : ℕ) → Bytes (directory_form down across)
unfolding directory_form
form_bytes down across =
    let a = bytes_append (bytes_cons 0 (omega arith) (bytes_cons 0 (omega arith) bytes_none)) (zeros_bytes 6) in
    let b = bytes_append (bytes_append a (bytes_of_lem 4 0)) (bytes_of_lem 4 0) in
    bytes_append (bytes_append b (bytes_of_lem 4 down)) (bytes_of_lem 4 across)

-- the references of so many tiles, and the whole body

pub references_of_length : (g : ℕ → ℕ) (n : ℕ) → length (references_of g n) ≡ 4 * n
unfolding references_of
references_of_length g zero = refl
references_of_length g (suc n) = four_more (references_of g n) (g n) ∙ omega (arith, references_of_length g n)

references_of_bytes : (g : ℕ → ℕ) (n : ℕ) → Bytes (references_of g n)
unfolding references_of
references_of_bytes g zero = bytes_none
references_of_bytes g (suc n) = bytes_append (references_of_bytes g n) (bytes_of_lem 4 _)

pub directory_of_length : (f : List ℕ) (g : ℕ → ℕ) → length (directory_of f g) ≡ 24 + 4 * tile_count f
unfolding directory_of
directory_of_length f g =
    let d = directory_form (tiles_down f) (tiles_across f) in
    length-append d (references_of g (tile_count f)) ∙ omega (arith, form_length (tiles_down f) (tiles_across f), references_of_length g (tile_count f))

pub directory_of_bytes : (f : List ℕ) (g : ℕ → ℕ) → Bytes (directory_of f g)
unfolding directory_of
directory_of_bytes f g = bytes_append (form_bytes (tiles_down f) (tiles_across f)) (references_of_bytes g (tile_count f))

-- what stands before the references

sixteen : zeros 16 ≡ (0 ∷ 0 ∷ []) ++ zeros 6 ++ bytes_of 4 0 ++ bytes_of 4 0
unfolding zeros bytes_of
sixteen = refl

pub form_put :
    (d a b l : List ℕ) (at x y : ℕ) → a ≡ put d at (zeros 16) → b ≡ put a (at + 16) (bytes_of 4 x) → l ≡ put b (at + 20) (bytes_of 4 y) →
    at + 24 ≤ length d → l ≡ put d at (directory_form x y)
unfolding directory_form
form_put d a b l at x y p q r h =
    let w = first (p ∙ ap (put d at) sixteen) (ap length (sym sixteen) ∙ zeros_length 16) in
    let u = then w (bytes_of 4 x) 4 (at + 16) q (bytes_length 4 x) refl (omega arith) in
    let v = then u (bytes_of 4 y) 4 (at + 20) r (bytes_length 4 y) (omega arith) (omega arith) in
    v.is

-- one reference
pub reference_put :
    (d l : List ℕ) (at i start v : ℕ) → l ≡ put d (at + 4 * i) (bytes_of 4 v) → v ≡ (start / 8 + 1) % 4294967296 →
    l ≡ put d (at + 4 * i) (bytes_of 4 (content_at start / 8))
reference_put d l at i start v p e =
    let s : start / 8 + 1 ≡ (start + 8) / 8 = omega arith in
    p ∙ ap (put d (at + 4 * i)) (ap (bytes_of 4) e ∙ bytes_mod 4 (start / 8 + 1) ∙ ap (bytes_of 4) s)
