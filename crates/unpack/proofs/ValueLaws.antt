-- The range and the bits of cells, and where they go. Assumes nothing.
use Prim.Native.Nat.{ℕ, zero, suc, ◌+◌, ◌-◌, ◌%◌, ◌≤◌, ◌<◌}
use mathlib.Core.Path.{◌≡◌, refl, sym, ap, ◌∙◌}
use mathlib.Core.List.{List, [], ◌∷◌, ◌++◌, append-nil}
use mathlib.Core.Bool.{Bool, true, false}
use native.Mathlib.Omega.{arith}
use lib.ListN.{length, get_or, set, take, drop, replicate, length-append, length-take, length-drop, drop_of_length-le, get_or-append, get_or-eq_default}
use lib.Seq.{get_or-append-add}
use lib.Dec.{leb}
use borrow.Author.Tests.{le-leb, lt-leb}
use borrow.Rule.Slice.PartMut.{mid_of, post_of, put_mid}
use Rattle.std.specs.Bool.{MatchBool}
use Rattle.std.specs.List.{AllWithin, HoldsAt}
use Rattle.wire.specs.Tests.{both}
use Rattle.wire.specs.Bytes.{put}
use Rattle.wire.proofs.PutLaws.{put_not, pasted, pasted_none, pasted_more, pasted_all}
use Rattle.unpack.specs.Unpack.{is_short, all_short, in_range, bits_of_cell, bits_of}
use Rattle.unpack.specs.Steps.{filled_from, fitted}

-- a part of a row, to its end
pub fill_part :
    (d : List ℕ) (from x : ℕ) (v : List ℕ) → from ≤ length d → v ≡ replicate (length (mid_of from (length d - from) d)) x →
    put_mid from (length d - from) d v ≡ filled_from d from x
unfolding filled_from
fill_part d from x v h e =
    let l : length (mid_of from (length d - from) d) ≡ length d - from = length-take (length d - from) (drop from d) ∙ omega (arith, length-drop from d) in
    let n : post_of from (length d - from) d ≡ [] = drop_of_length-le (drop from d) {i = length d - from} (omega (arith, length-drop from d)) in
    rw (e, l, n) (ap (λ (y : List ℕ). take from d ++ y) (append-nil (replicate (length d - from) x)))

-- a Short, and a row of them

pub short_low : (v : ℕ) → v ≤ 32767 → true ≡ is_short v
unfolding is_short
short_low v h = rw (le-leb v 32767 h)

pub short_high : (v : ℕ) → 32767 < v → leb 4294934528 v ≡ is_short v
unfolding is_short
short_high v h = rw (lt-leb v 32767 h)

-- what is found of each is found of all
pub shorts : (row : List ℕ) → ((k : ℕ) → k < length row → is_short (get_or row k 0) ≡ true) → true ≡ all_short row
unfolding all_short
shorts [] f = refl
shorts (v ∷ vs) f = rw (f 0 (omega arith)) (shorts vs (λ k h. f (suc k) (omega arith)))

pub no_short : (row : List ℕ) (k : ℕ) → k < length row → is_short (get_or row k 0) ≡ false → false ≡ all_short row
unfolding all_short
no_short [] k h e = absurd (omega arith)
no_short (v ∷ vs) zero h e = rw e
no_short (v ∷ vs) (suc k) h e = go (is_short v) (no_short vs k (omega arith) e)
  where
    go : (b : Bool) → false ≡ all_short vs → false ≡ both b (all_short vs)
    go true f = f
    go false f = refl

pub row_shorts :
    (row : List ℕ) (b : Bool) →
    MatchBool b (AllWithin (λ v. is_short v ≡ true) row 0 (length row)) ((k : ℕ) × (k < length row) × HoldsAt (λ v. is_short v ≡ false) row k) → b ≡ all_short row
row_shorts row true h = shorts row (λ k l. h k 0 (omega arith) l)
row_shorts row false h = no_short row h.0 h.1 (h.2 0)

pub range_short : (short : Bool) (vs : List ℕ) (r : Bool) → short ≡ true → r ≡ all_short vs → r ≡ in_range short vs
unfolding in_range
range_short short vs r e f = rw e f

pub range_wide : (short : Bool) (vs : List ℕ) → short ≡ false → true ≡ in_range short vs
unfolding in_range
range_wide short vs e = rw e

both_assoc : (a b d : Bool) → both (both a b) d ≡ both a (both b d)
both_assoc true b d = refl
both_assoc false b d = refl

all_append : (vs ws : List ℕ) → all_short (vs ++ ws) ≡ both (all_short vs) (all_short ws)
unfolding all_short
all_append [] ws = refl
all_append (v ∷ vs) ws = rw (all_append vs ws) (sym (both_assoc (is_short v) (all_short vs) (all_short ws)))

pub range_append : (short : Bool) (vs ws : List ℕ) → in_range short (vs ++ ws) ≡ both (in_range short vs) (in_range short ws)
unfolding in_range
range_append true vs ws = all_append vs ws
range_append false vs ws = refl

-- bits

pub bits_short : (short : Bool) (v : ℕ) → short ≡ true → v % 65536 ≡ bits_of_cell short v
unfolding bits_of_cell
bits_short short v e = rw e

pub bits_wide : (short : Bool) (v : ℕ) → short ≡ false → v ≡ bits_of_cell short v
unfolding bits_of_cell
bits_wide short v e = rw e

module _ (short : Bool) where
  pub bits_length : (vs : List ℕ) → length (bits_of short vs) ≡ length vs
  unfolding bits_of
  bits_length [] = refl
  bits_length (v ∷ vs) = ap suc (bits_length vs)

  pub bits_at : (vs : List ℕ) (i : ℕ) → i < length vs → get_or (bits_of short vs) i 0 ≡ bits_of_cell short (get_or vs i 0)
  unfolding bits_of
  bits_at [] i h = absurd (omega arith)
  bits_at (v ∷ vs) zero h = refl
  bits_at (v ∷ vs) (suc i) h = bits_at vs i (omega arith)

  pub bits_append : (vs ws : List ℕ) → bits_of short (vs ++ ws) ≡ bits_of short vs ++ bits_of short ws
  unfolding bits_of
  bits_append [] ws = refl
  bits_append (v ∷ vs) ws = ap (λ (l : List ℕ). bits_of_cell short v ∷ l) (bits_append vs ws)

pub bits_same : (vs : List ℕ) → bits_of false vs ≡ vs
unfolding bits_of bits_of_cell
bits_same [] = refl
bits_same (v ∷ vs) = ap (λ (l : List ℕ). v ∷ l) (bits_same vs)

-- a copy under way

module _ (short : Bool) (d : List ℕ) (at : ℕ) (row : List ℕ) where
  pub put_out : length d < at + length row → d ≡ put d at (bits_of short row)
  put_out h = sym (put_not d at (bits_of short row) (omega (arith, bits_length short row)))

  pub put_begun : d ≡ pasted d at (bits_of short row) 0
  put_begun = pasted_none d at (bits_of short row)

  pub put_next :
      (out : List ℕ) (i v : ℕ) → out ≡ pasted d at (bits_of short row) i → at + i < length d → i < length row → v ≡ bits_of_cell short (get_or row i 0) →
      set out (at + i) v ≡ pasted d at (bits_of short row) (i + 1)
  put_next out i v e h k f = rw (e, f, ← bits_at short row i k) (pasted_more d at (bits_of short row) i h (omega (arith, bits_length short row)))

  pub put_done : (out : List ℕ) (i : ℕ) → out ≡ pasted d at (bits_of short row) i → i ≡ length row → at + length row ≤ length d → out ≡ put d at (bits_of short row)
  put_done out i e f h = e ∙ pasted_all d at (bits_of short row) i (f ∙ sym (bits_length short row)) (omega (arith, bits_length short row))

-- where a whole tile fits

pub fit_out : (n : ℕ) (d : List ℕ) (at : ℕ) (v : List ℕ) → length d < n → d ≡ fitted n d at v
unfolding fitted
fit_out n d at v h = rw (lt-leb n (length d) h)

pub fit_in : (n : ℕ) (d : List ℕ) (at : ℕ) (v : List ℕ) → n ≤ length d → fitted n d at v ≡ put d at v
unfolding fitted
fit_in n d at v h = rw (le-leb n (length d) h)

-- a cell behind others

module _ (short : Bool) (row : List ℕ) (at inside found : ℕ) where
  abbrev Kept : ℕ → Type 0
  Kept r = (vs : List ℕ) → length vs ≡ at → found ≡ get_or (bits_of short vs) inside 0 → r ≡ get_or (bits_of short (vs ++ row)) inside 0

  pub cell_before : inside < at → Kept found
  cell_before h vs e f = f ∙ sym (rw (bits_append short vs row) (get_or-append (bits_of short vs) (bits_of short row) 0 inside (omega (arith, bits_length short vs))))

  pub cell_past : length row ≤ inside - at → at ≤ inside → Kept 0
  cell_past h k vs e f =
      sym (get_or-eq_default (bits_of short (vs ++ row)) 0 (omega (arith, bits_length short (vs ++ row), length-append vs row)))

  pub cell_here : (r : ℕ) → inside - at < length row → at ≤ inside → r ≡ bits_of_cell short (get_or row (inside - at) 0) → Kept r
  cell_here r h k g vs e f =
      let l : length (bits_of short vs) + (inside - at) ≡ inside = omega (arith, bits_length short vs) in
      let m : get_or (bits_of short vs ++ bits_of short row) (length (bits_of short vs) + (inside - at)) 0 ≡ get_or (bits_of short row) (inside - at) 0 =
      get_or-append-add (bits_of short vs) (bits_of short row) (inside - at) 0 in
      g ∙ sym (bits_at short row (inside - at) h) ∙ sym (rw l at m) ∙ rw (bits_append short vs row)
