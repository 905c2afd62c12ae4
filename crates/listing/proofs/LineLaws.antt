-- The lines of a listing, as they are put. Assumes nothing.
use Rattle.std.specs.Prelude.{Ok}
use Prim.Native.Nat.{ℕ, ◌+◌, ◌≤◌, ◌<◌}
use mathlib.Core.Path.{◌≡◌, sym, ap, ◌∙◌}
use mathlib.Core.List.{List, [], ◌∷◌, ◌++◌}
use native.Mathlib.Omega.{arith}
use native.Mathlib.Numerals.{add-one}
use lib.ListN.{length}
use Rattle.wire.specs.Pick.{pick}
use Rattle.wire.specs.Bytes.{put}
use Rattle.wire.proofs.PutLaws.{length_put}
use Rattle.geometry.specs.Tiles.{tile_count}
use Rattle.wire.specs.Lists.{some}
use Rattle.record.specs.Chain.{records}
use Rattle.bodies.specs.TileDirectory.{tile_reference}
use Rattle.page_check.specs.Stages.{check}
use Rattle.tile_routes.specs.Ways.{carries}
use Rattle.listing.specs.Text.{decimal, newline, elements_word, line}
use Rattle.listing.specs.Listing.{index_lines}
use Rattle.listing.specs.Puts.{Puts}
use Rattle.listing.proofs.PutsLaws.{puts_none, puts_first, puts_then, puts_regroup}
use Rattle.listing.proofs.IndexLaws.{carried, not_carried}

kept : (d : List ℕ) (at : ℕ) (v : List ℕ) {l : List ℕ} → l ≡ put d at v → length l ≡ length d
kept d at v e = ap length e ∙ length_put d at v

-- a number that ends a line, and a line

pub last_put :
    (d a l : List ℕ) (at n k : ℕ) → a ≡ put d at (decimal n) → k ≡ length (decimal n) → l ≡ put a (at + k) (10 ∷ []) →
    Puts d at (decimal n ++ newline) (at + k + 1) l
last_put d a l at n k p e q =
    puts_then (puts_first p (at + k) (omega arith)) (puts_first q (at + k + 1) (omega arith)) (kept d at (decimal n) p)

pub line_put :
    (d a b e l word between : List ℕ) (at m n k r : ℕ) → a ≡ put d at word → b ≡ put a (at + length word) (decimal m) →
    k ≡ length (decimal m) → e ≡ put b (at + length word + k) between →
    Puts e (at + length word + k + length between) (decimal n ++ newline) r l → Puts d at (line word m between n) r l
unfolding line
line_put d a b e l word between at m n k r p q h t u =
    let i = kept d at word p in
    let j = kept a (at + length word) (decimal m) q ∙ i in
    let x = puts_then (puts_first p (at + length word) (omega arith)) (puts_first q (at + length word + k) (omega arith)) i in
    let y = puts_then x (puts_first t (at + length word + k + length between) (omega arith)) j in
    puts_regroup (word ++ decimal m ++ between) (decimal n) newline (puts_then y u (kept b (at + length word + k) between t ∙ j))

pub line_of :
    {d l : List ℕ} {at r : ℕ} (word between : List ℕ) {m n x y : ℕ} → Puts d at (line word x between y) r l → x ≡ m → y ≡ n →
    Puts d at (line word m between n) r l
line_of word between p e f = rw (← e, ← f) p

pub elements_put :
    (d a l : List ℕ) (at n x r : ℕ) → a ≡ put d at elements_word → Puts a (at + 9) (decimal x ++ newline) r l → x ≡ n →
    Puts d at (elements_word ++ decimal n ++ newline) r l
unfolding elements_word
elements_put d a l at n x r p u e =
    rw (← e)
    (puts_regroup elements_word (decimal x) newline (puts_then (puts_first p (at + 9) (omega arith)) u (kept d at elements_word p)))

-- the line of an index

module _ (s : List ℕ) (e : check s ≡ Ok tt) (i x : ℕ) (q : x ≡ tile_reference s i) where
  pub index_none : (d : List ℕ) (at : ℕ) → x ≡ 0 → Puts d at (pick (some (carries s i) (records s)) (decimal i ++ newline) []) at d
  index_none d at z = rw (not_carried s e i (sym q ∙ z)) puts_none

  pub index_line :
      {d l : List ℕ} {at r : ℕ} → i < tile_count s → (x ≡ 0 → ⊥) → Puts d at (decimal i ++ newline) r l →
      Puts d at (pick (some (carries s i) (records s)) (decimal i ++ newline) []) r l
  index_line h z p = rw (carried s e i h (λ y. z (q ∙ y))) p

-- the lines of all indexes, one more at a time

module _ (s d : List ℕ) (at : ℕ) where
  pub indexes_none : Puts d at (index_lines s 0) at d
  unfolding index_lines
  indexes_none = puts_none

  pub indexes_more :
      (i : ℕ) {l m : List ℕ} {p r : ℕ} → Puts d at (index_lines s i) p l →
      Puts l p (pick (some (carries s i) (records s)) (decimal i ++ newline) []) r m → length l ≡ length d →
      Puts d at (index_lines s (i + 1)) r m
  unfolding index_lines
  indexes_more i p q k = rw add-one (puts_then p q k)

  pub indexes_all :
      (i n : ℕ) {l : List ℕ} {p : ℕ} → Puts d at (index_lines s i) p l → i ≤ n → n ≤ i → n ≡ tile_count s →
      Puts d at (index_lines s (tile_count s)) p l
  indexes_all i n p h k e = let f : tile_count s ≡ i = omega arith in rw f p
