-- The sizes of a tile that keeps the ceiling on its bytes. Assumes nothing.
use Prim.Native.Nat.{ℕ, zero, suc, min, ◌+◌, ◌≤◌, ◌<◌}
use mathlib.Core.Path.{◌≡◌, refl, sym, ap, ◌∙◌}
use mathlib.Core.List.{List, [], ◌∷◌, ◌++◌}
use mathlib.Core.Bool.{Bool, true, false}
use mathlib.Core.Logic.{by_cases}
use native.Mathlib.Decide.{dec_le}
use native.Mathlib.Omega.{arith}
use native.Mathlib.Numerals.{add-one}
use lib.Dec.{leb}
use borrow.Author.Tests.{leb-true, le-leb}
use lib.ListN.{length, get_or, set, length-append, get_or-append}
use lib.Seq.{get_or-append-add}
use Rattle.wire.specs.Pick.{pick}
use Rattle.wire.specs.Tests.{sum_below}
use Rattle.wire.specs.Bytes.{put}
use Rattle.wire.proofs.TestLaws.{means, yes, iff, sum_more, sum_within, sum_each}
use Rattle.wire.proofs.PutLaws.{put_one, put_put, put_nil, put_not, put_each_lem, length_put}
use Rattle.header.specs.Element.{entries_read}
use Rattle.geometry.specs.Sizes.{stored_size, least_length, tile_length, cap, element_bytes, tile_bytes, plain_tile_length}
use Rattle.geometry.proofs.SizeLaws.{sum_stored}
use Rattle.tile_sizes.specs.TileSizes.{tile_small, length_of_tile, sizes_of, with_sizes}

pub entries_few : (s : List ℕ) → entries_read s ≤ 16
unfolding entries_read
entries_few s = omega arith

pub small_means : (s : List ℕ) → tile_small s ≡ true → tile_bytes s ≤ 1048576
unfolding tile_small
small_means s e = (means _ e).0

pub small_is : (s : List ℕ) (x : ℕ) → x ≡ min (tile_bytes s) cap → leb x 1048576 ≡ tile_small s
unfolding tile_small
small_is s x e = iff _ _ (λ p. sym (yes _ (omega (arith, leb-true x 1048576 p), tt))) (λ p. le-leb x 1048576 (omega (arith, (means _ p).0)))

module _ (s : List ℕ) (w : tile_small s ≡ true) where
  -- U of an element, as it is and as it is read
  pub size_small : (e : ℕ) → e < entries_read s → element_bytes s e ≤ 1048576
  unfolding tile_bytes
  size_small e h = omega (arith, sum_each (entries_read s) (element_bytes s) e h, small_means s w)

  pub size_exact : (e x : ℕ) → x ≡ min (element_bytes s e) cap → e < entries_read s → x ≡ element_bytes s e
  size_exact e x p h = omega (arith, size_small e h)

  -- a tile record's length, an element more at a time

  pub stored_small : (e : ℕ) → e ≤ entries_read s → sum_below e (λ d. stored_size (element_bytes s d)) ≤ 1048688
  unfolding tile_bytes
  stored_small e h =
      let a = sum_stored (entries_read s) (element_bytes s) in
      let b = sum_within (entries_read s) (λ d. stored_size (element_bytes s d)) e h in
      omega (arith, a, b, small_means s w, entries_few s)

  pub stored_more :
      (e u r sum : ℕ) → u ≡ min (element_bytes s e) cap → r ≡ stored_size u → sum ≡ sum_below e (λ d. stored_size (element_bytes s d)) → e < entries_read s →
      sum + r ≡ sum_below (e + 1) (λ d. stored_size (element_bytes s d))
  stored_more e u r sum p q t h =
      let a : stored_size u ≡ stored_size (element_bytes s e) = ap stored_size (size_exact e u p h) in
      omega (arith, a, sum_more e (λ d. stored_size (element_bytes s d)))

  pub plain_counted :
      (e n r sum : ℕ) → n ≡ entries_read s → e ≤ n → n ≤ e → sum ≡ sum_below e (λ d. stored_size (element_bytes s d)) → r ≡ least_length (12 + sum) →
      r ≡ plain_tile_length s
  unfolding plain_tile_length tile_length
  plain_counted e n r sum p h k q t = let x : e ≡ entries_read s = omega arith in t ∙ rw (q, x)

  pub length_is : (r : ℕ) → r ≡ plain_tile_length s → r ≡ length_of_tile s
  unfolding length_of_tile
  length_is r e = e ∙ rw w

pub length_none : (s : List ℕ) → tile_small s ≡ false → 0 ≡ length_of_tile s
unfolding length_of_tile
length_none s e = rw e

-- the sizes, one more at a time

sizes_length : (s : List ℕ) (n : ℕ) → length (sizes_of s n) ≡ n
unfolding sizes_of
sizes_length s zero = refl
sizes_length s (suc n) = length-append (sizes_of s n) (element_bytes s n ∷ []) ∙ omega (arith, sizes_length s n)

pub sizes_none : (s us : List ℕ) → us ≡ put us 0 (sizes_of s 0)
unfolding sizes_of
sizes_none s us = sym (put_nil us 0)

pub sizes_room : (s us : List ℕ) (e : ℕ) {l : List ℕ} → l ≡ put us 0 (sizes_of s e) → length l ≡ length us
sizes_room s us e p = ap length p ∙ length_put us 0 (sizes_of s e)

pub sizes_more :
    (s us : List ℕ) (e v : ℕ) {l : List ℕ} → l ≡ put us 0 (sizes_of s e) → v ≡ element_bytes s e → e < length us →
    set l e v ≡ put us 0 (sizes_of s (e + 1))
unfolding sizes_of
sizes_more s us e v {l} p q h =
    let n = sizes_length s e in
    let m = sizes_room s us e p in
    let z : e ≡ 0 + length (sizes_of s e) = omega arith in
    put_one l e v (omega arith) ∙ ap (λ (x : List ℕ). put x e (v ∷ [])) p ∙ ap (λ (j : ℕ). put (put us 0 (sizes_of s e)) j (v ∷ [])) z
    ∙ put_put us 0 (sizes_of s e) (v ∷ []) (omega arith) ∙ rw (add-one e, q)

pub sizes_all :
    (s us : List ℕ) (e n : ℕ) {l : List ℕ} → tile_small s ≡ true → n ≡ entries_read s → e ≤ n → n ≤ e → l ≡ put us 0 (sizes_of s e) → l ≡ with_sizes s us
unfolding with_sizes
sizes_all s us e n w p h k q = let x : e ≡ entries_read s = omega arith in q ∙ rw (w, x)

pub sizes_short : (s us : List ℕ) (n : ℕ) → n ≡ entries_read s → length us < n → us ≡ with_sizes s us
unfolding with_sizes
sizes_short s us n e h =
    let a : put us 0 (sizes_of s (entries_read s)) ≡ us = put_not us 0 (sizes_of s (entries_read s)) (omega (arith, sizes_length s (entries_read s))) in
    go (tile_small s) a
  where
    go : (b : Bool) → put us 0 (sizes_of s (entries_read s)) ≡ us → us ≡ pick b (put us 0 (sizes_of s (entries_read s))) us
    go true a = sym a
    go false a = refl

pub sizes_off : (s us : List ℕ) → tile_small s ≡ false → us ≡ with_sizes s us
unfolding with_sizes
sizes_off s us e = rw e

pub with_length : (s us : List ℕ) → length (with_sizes s us) ≡ length us
unfolding with_sizes
with_length s us = go (tile_small s)
  where
    go : (b : Bool) → length (pick b (put us 0 (sizes_of s (entries_read s))) us) ≡ length us
    go true = length_put us 0 (sizes_of s (entries_read s))
    go false = refl

-- read back

sizes_at : (s : List ℕ) (n i : ℕ) → i < n → get_or (sizes_of s n) i 0 ≡ element_bytes s i
unfolding sizes_of
sizes_at s zero i h = absurd (omega arith)
sizes_at s (suc n) i h =
    by_cases (dec_le (suc i) n)
    (λ k. get_or-append (sizes_of s n) (element_bytes s n ∷ []) 0 i (omega (arith, sizes_length s n)) ∙ sizes_at s n i (omega arith))
    (λ k.
    let q : i ≡ length (sizes_of s n) + 0 = omega (arith, sizes_length s n) in
    let y : i ≡ n = omega arith in
    ap (λ (j : ℕ). get_or (sizes_of s n ++ (element_bytes s n ∷ [])) j 0) q ∙ get_or-append-add (sizes_of s n) (element_bytes s n ∷ []) 0 0 ∙ ap (element_bytes s) (sym y))

pub sizes_read : (s us : List ℕ) → tile_small s ≡ true → 16 ≤ length us → (e : ℕ) → e < entries_read s → get_or (with_sizes s us) e 0 ≡ element_bytes s e
unfolding with_sizes
sizes_read s us w h e k =
    let n = sizes_length s (entries_read s) in
    let z : 0 + e ≡ e = omega arith in
    let p : get_or (put us 0 (sizes_of s (entries_read s))) e 0 ≡ get_or (sizes_of s (entries_read s)) e 0 =
    rw z at (put_each_lem us 0 (sizes_of s (entries_read s)) e (omega arith) (omega (arith, entries_few s))) in
    rw w (p ∙ sizes_at s (entries_read s) e k)
