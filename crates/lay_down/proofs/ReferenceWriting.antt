-- The references as they are written: zeros, then one for each index. Assumes nothing.
use Prim.Native.Nat.{ℕ, zero, suc, ◌+◌, ◌*◌, ◌/◌, ◌≤◌, ◌<◌}
use mathlib.Core.Path.{◌≡◌, refl, sym, ap, ap₂, ◌∙◌}
use mathlib.Core.List.{List, [], ◌++◌}
use mathlib.Core.Logic.{by_cases}
use native.Mathlib.Decide.{dec_le}
use native.Mathlib.Omega.{arith}
use lib.ListN.{length, get_or, take}
use lib.Seq.{take-length}
use borrow.Author.Tests.{eq-eqb, ne_eqb}
use Rattle.wire.specs.Bytes.{bytes_of, put, zeros}
use Rattle.wire.proofs.ByteLaws.{bytes_length, zeros_length, zeros_joined}
use Rattle.wire.proofs.ItemLaws.{item_within}
use Rattle.wire.proofs.PlaceLaws.{put_before, put_last, put_inside, put_over}
use Rattle.geometry.specs.Sizes.{plain_tile_length}
use Rattle.written_records.specs.Directory.{references_of}
use Rattle.lay_down.specs.Page.{compact_from, references, directory_start, file_length}
use Rattle.lay_down.proofs.PageLaws.{references_length}
use Rattle.lay_down.proofs.IndexLaws.{compact_next}

-- the record of the k-th tile ends below the ceiling
pub start_small :
    (f ix : List ℕ) (k start : ℕ) → start ≡ length f + k * plain_tile_length f → file_length f ix ≤ 16777216 → k < length ix →
    start + plain_tile_length f ≤ 16777216
unfolding file_length directory_start
start_small f ix k start e h i = omega (arith, item_within (length ix) k (plain_tile_length f) i)

-- no reference, and one put anew where no other differs

references_none : (f : List ℕ) (n : ℕ) → zeros (4 * n) ≡ references f [] n
unfolding references references_of compact_from zeros bytes_of
references_none f zero = refl
references_none f (suc n) =
    let e : 4 * suc n ≡ 4 * n + 4 = omega arith in
    ap zeros e ∙ zeros_joined (4 * n) 4 ∙ ap (λ (l : List ℕ). l ++ zeros 4) (references_none f n)

module _ (f a b : List ℕ) where
  references_same : (n : ℕ) → ((j : ℕ) → j < n → compact_from f (length f) a j ≡ compact_from f (length f) b j) → references f a n ≡ references f b n
  unfolding references references_of
  references_same zero e = refl
  references_same (suc n) e = ap₂ (λ (l : List ℕ) (v : ℕ). l ++ bytes_of 4 v) (references_same n (λ j k. e j (omega arith))) (e n (omega arith))

  references_put :
      (i n : ℕ) → i < n → ((j : ℕ) → (j ≡ i → ⊥) → compact_from f (length f) a j ≡ compact_from f (length f) b j) →
      put (references f a n) (4 * i) (bytes_of 4 (compact_from f (length f) b i)) ≡ references f b n
  unfolding references references_of
  references_put i zero k e = absurd (omega arith)
  references_put i (suc n) k e =
      let g = compact_from f (length f) a in
      let h = compact_from f (length f) b in
      let r = references_length f a n in
      let l = bytes_length 4 (h i) in
      by_cases (dec_le (i + 1) n)
      (λ m.
      put_before (references f a n) (bytes_of 4 (g n)) (4 * i) (bytes_of 4 (h i)) (omega arith)
      ∙ ap₂ (λ (x : List ℕ) (v : ℕ). x ++ bytes_of 4 v) (references_put i n (omega arith) e) (e n (λ q. omega arith)))
      (λ m.
      let q : i ≡ n = omega arith in
      rw q
      (put_last (references f a n) (bytes_of 4 (g n)) (bytes_of 4 (h n)) r (bytes_length 4 (g n) ∙ sym (bytes_length 4 (h n)))
      ∙ ap (λ (x : List ℕ). x ++ bytes_of 4 (h n)) (references_same n (λ j s. e j (λ z. omega arith)))))

-- the loop, which begins with a buffer l whose references are zero

pub references_begin : (d l : List ℕ) (at : ℕ) (f ix : List ℕ) (n m : ℕ) → l ≡ put d at (zeros m) → m ≡ 4 * n → at + 4 * n ≤ length d → l ≡ put l at (references f (take 0 ix) n)
references_begin d l at f ix n m e g h =
    let z = zeros (4 * n) in
    let x : l ≡ put d at z = e ∙ rw g in
    let y : z ≡ references f [] n = references_none f n in
    x ∙ sym (put_over d at z z refl (omega (arith, zeros_length (4 * n)))) ∙ ap₂ (λ (u v : List ℕ). put u at v) (sym x) y

pub references_more :
    (d l m : List ℕ) (at : ℕ) (f ix : List ℕ) (n k start : ℕ) → l ≡ put d at (references f (take k ix) n) → start ≡ length f + k * plain_tile_length f →
    k < length ix → ((j : ℕ) → j < k → get_or ix j 0 < get_or ix k 0) → get_or ix k 0 < n → at + 4 * n ≤ length d →
    m ≡ put l (at + 4 * get_or ix k 0) (bytes_of 4 ((start + 8) / 8)) → m ≡ put d at (references f (take (k + 1) ix) n)
references_more d l m at f ix n k start p s h o b w q =
    let i = get_or ix k 0 in
    let x = take k ix in
    let y = compact_from f (length f) (take (k + 1) ix) in
    let next = compact_next f (length f) ix k h o in
    let value : (start + 8) / 8 ≡ y i = rw s (sym (next i ∙ rw (eq-eqb i i refl))) in
    let same : (j : ℕ) → (j ≡ i → ⊥) → compact_from f (length f) x j ≡ y j = λ j c. sym (next j ∙ rw (ne_eqb i j (λ z. c (sym z)))) in
    let lo = references_length f x n in
    let lb = bytes_length 4 (y i) in
    q ∙ rw (p, value)
    (put_inside d (references f x n) at (4 * i) (bytes_of 4 (y i)) (omega arith) (omega arith)
    ∙ ap (put d at) (references_put f x (take (k + 1) ix) i n b same))

pub references_all :
    (d z l : List ℕ) (at : ℕ) (f ix : List ℕ) (n k m all : ℕ) → l ≡ put z at (references f (take k ix) n) → z ≡ put d at (zeros m) → m ≡ 4 * n →
    n ≡ all → k ≤ length ix → length ix ≤ k → at + 4 * all ≤ length d → l ≡ put d at (references f ix all)
references_all d z l at f ix n k m all p q g a h i w =
    let e : k ≡ length ix = omega arith in
    let lr = references_length f ix n in
    let lz = zeros_length m in
    p ∙ rw (← a, e, take-length, q) (put_over d at (zeros m) (references f ix n) (omega arith) (omega arith))
