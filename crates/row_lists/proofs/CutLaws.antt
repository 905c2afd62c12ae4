-- What is written into a list, cut at its end: nothing, one entry, one part behind another. Assumes nothing.
use Prim.Native.Nat.{ℕ, zero, suc, ◌+◌, ◌-◌, ◌*◌, ◌/◌, ◌≤◌, ◌<◌, min}
use mathlib.Core.Path.{◌≡◌, refl, sym, ap, ◌∙◌}
use mathlib.Core.List.{List, [], ◌∷◌, ◌++◌}
use mathlib.Core.Bool.{Bool, true, false}
use mathlib.Core.Logic.{by_cases}
use native.Mathlib.Decide.{dec_le}
use native.Mathlib.Omega.{arith}
use lib.ListN.{length, get_or, set, length-set, length-append, get_or-append}
use lib.Seq.{get_or-append-add, get_or-set_same, get_or-set_other}
use Rattle.wire.specs.Pick.{pick}
use Rattle.wire.specs.Lists.{one_if, count_below}
use Rattle.blocks.specs.Folds.{fold_below, fold_inside}
use Rattle.blocks.proofs.FoldLaws.{sums, lists}
use Rattle.blocks.proofs.InsideLaws.{inside_none, inside_one, row_beside}
use Rattle.row_lists.specs.Entries.{Tiling, entry, entries_at, entry_size, entry_numbers, tiled_numbers, flat, count_in}
use Rattle.row_lists.specs.Placing.{Cut, cap_of, numbers_if, numbers_at, stretch}
use Rattle.row_lists.proofs.PlacingLaws.{stretch_none}
use Rattle.row_lists.proofs.ListedLaws.{flat_append, flat_long, stretch_counted}
use Rattle.row_lists.proofs.EntryLaws.{entries_count}

module _ (cap at : ℕ) where
  pub cut_none : (l : List ℕ) → Cut cap at [] l l
  cut_none l = record { long = refl; new = λ i h k. absurd (omega arith); else = λ p f. refl }

  -- where the list has changed nowhere, one part written, and another behind it
  pub cut_then : (v w l m n : List ℕ) → Cut cap at v l m → Cut cap (at + length v) w m n → Cut cap at (v ++ w) l n
  cut_then v w l m n a b =
      record {
        long = b.long ∙ a.long;
        new = λ i h k.
            by_cases (dec_le (i + 1) (length v))
            (λ q. b.else (at + i) (λ j s t e. omega arith) ∙ a.new i (omega arith) k ∙ sym (get_or-append v w 0 i (omega arith)))
            (λ q.
            let j : ℕ = i - length v in
            let z : at + length v + j ≡ at + i = omega arith in
            let y : length v + j ≡ i = omega arith in
            sym (ap (λ (x : ℕ). get_or n x 0) z) ∙ b.new j (omega (arith, length-append v w, h)) (omega arith)
            ∙ sym (sym (ap (λ (x : ℕ). get_or (v ++ w) x 0) y) ∙ get_or-append-add v w j 0));
        else = λ p f.
            b.else p (λ j s t e. f (length v + j) (omega (arith, length-append v w, s)) (omega arith) (omega arith))
            ∙ a.else p (λ j s t e. f j (omega (arith, length-append v w, s)) t e);
      }

-- no room, one number, and one entry in its place

pub cut_full : (cap at : ℕ) (v l : List ℕ) → cap ≤ at → Cut cap at v l l
cut_full cap at v l h = record { long = refl; new = λ i a b. absurd (omega arith); else = λ p f. refl }

-- what starts behind the list's end starts at it
pub cut_capped : (room x : ℕ) (v l m : List ℕ) → Cut (room * entry_size) (min room x * entry_size) v l m → Cut (room * entry_size) (x * entry_size) v l m
cut_capped room x v l m c =
    by_cases (dec_le x room) (λ h. let z : min room x ≡ x = omega arith in rw z at c)
    (λ h.
    record {
      long = c.long;
      new = λ i a b. absurd (omega arith);
      else = λ p f. c.else p (λ i a b e. omega arith);
    })

cut_one : (cap at v : ℕ) (l now : List ℕ) → now ≡ set l at v → at < length l → at < cap → Cut cap at (v ∷ []) l now
cut_one cap at v l now e h k =
    rw e
    (record {
      long = length-set l at v;
      new = λ i q t. let z : i ≡ 0 = omega arith in let y : at + 0 ≡ at = omega arith in rw (z, y) (get_or-set_same l at v 0 h);
      else = λ p f. get_or-set_other l at p v 0 (λ z. f 0 (omega arith) (omega arith) (omega arith));
    })

pub entry_put :
    (r c e tile inside k at : ℕ) (l p q m o n : List ℕ) → at ≡ k * entry_size → k < length l / entry_size → p ≡ set l at r → q ≡ set p (at + 1) c → m ≡ set q (at + 2) e →
    o ≡ set m (at + 3) tile → n ≡ set o (at + 4) inside → Cut (cap_of l) (k * entry_size) (entry_numbers (entry r c e) tile inside) l n
entry_put r c e tile inside k at l p q m o n z h a b d f g =
    let x = cut_one (cap_of l) at r l p a (omega arith) (omega arith) in
    let y = cut_one (cap_of l) (at + 1) c p q b (omega (arith, x.long)) (omega arith) in
    let w = cut_one (cap_of l) (at + 2) e q m d (omega (arith, x.long, y.long)) (omega arith) in
    let u = cut_one (cap_of l) (at + 3) tile m o f (omega (arith, x.long, y.long, w.long)) (omega arith) in
    let v = cut_one (cap_of l) (at + 4) inside o n g (omega (arith, x.long, y.long, w.long, u.long)) (omega arith) in
    let i = cut_then (cap_of l) at (r ∷ []) (c ∷ []) l p q x y in
    let j = cut_then (cap_of l) at (r ∷ c ∷ []) (e ∷ []) l q m i w in
    let t = cut_then (cap_of l) at (r ∷ c ∷ e ∷ []) (tile ∷ []) l m o j u in
    rw (← z) (cut_then (cap_of l) at (r ∷ c ∷ e ∷ tile ∷ []) (inside ∷ []) l o n t v)

-- one element: it differs, and its entry is written, or there is no room for it; or it does not

module _ (tiling : Tiling) (b v : Bool) (r c e k : ℕ) (l : List ℕ) (q : b ≡ v) where
  pub element_entry :
      (m : List ℕ) → b ≡ true → k < length l / entry_size → Cut (cap_of l) (k * entry_size) (tiled_numbers tiling (entry r c e)) l m →
      (k + 1 ≡ min (length l / entry_size) (k + one_if v)) × Cut (cap_of l) (k * entry_size) (numbers_if tiling v r c e) l m
  unfolding one_if numbers_if flat
  element_entry m f h w = let t : v ≡ true = sym q ∙ f in rw t (omega arith, w)

  pub element_full :
      b ≡ true → k ≤ length l / entry_size → length l / entry_size ≤ k → (k ≡ min (length l / entry_size) (k + one_if v)) × Cut (cap_of l) (k * entry_size) (numbers_if tiling v r c e) l l
  unfolding one_if
  element_full f h g = let t : v ≡ true = sym q ∙ f in rw t (omega arith, cut_full _ _ _ l (omega arith))

  pub element_pass : b ≡ false → k ≤ length l / entry_size → (k ≡ min (length l / entry_size) (k + one_if v)) × Cut (cap_of l) (k * entry_size) (numbers_if tiling v r c e) l l
  unfolding one_if numbers_if flat
  element_pass f h = let t : v ≡ false = sym q ∙ f in rw t (omega arith, cut_none _ (k * entry_size) l)

-- a cell's entries, element by element

module _ (d : ℕ → ℕ → ℕ → Bool) (r c : ℕ) where
  count_more : (e : ℕ) → count_below (e + 1) (d r c) ≡ count_below e (d r c) + one_if (d r c e)
  unfolding count_below
  count_more e = let z : e + 1 ≡ suc e = omega arith in rw z

  pub count_few : (e : ℕ) → count_below e (d r c) ≤ e
  unfolding count_below one_if
  count_few zero = omega arith
  count_few (suc e) = omega (arith, count_few e, one (d r c e))
    where
      one : (b : Bool) → pick b 1 0 ≤ 1
      one true = omega arith
      one false = omega arith

module _ (tiling : Tiling) (d : ℕ → ℕ → ℕ → Bool) (r c : ℕ) where
  pub cell_none : numbers_at tiling d 0 r c ≡ []
  unfolding flat entries_at fold_below
  cell_none = refl

  cell_more : (e : ℕ) → numbers_at tiling d (e + 1) r c ≡ numbers_at tiling d e r c ++ flat tiling (pick (d r c e) (entry r c e ∷ []) [])
  unfolding entries_at fold_below
  cell_more e = let z : e + 1 ≡ suc e = omega arith in rw z (flat_append tiling (fold_below ◌++◌ [] e (λ k. pick (d r c k) (entry r c k ∷ []) [])) (pick (d r c e) (entry r c e ∷ []) []))

  pub cell_long : (e : ℕ) → length (numbers_at tiling d e r c) ≡ entry_size * count_below e (d r c)
  cell_long e = flat_long tiling (entries_at d e r c) ∙ ap (λ (n : ℕ). entry_size * n) (entries_count d e r c)

  -- one element more. The list keeps its length, so its end stays where it is
  pub cell_go :
      (e k n o : ℕ) (l m q : List ℕ) → k ≤ length l / entry_size → n ≡ min (length l / entry_size) (k + count_below e (d r c)) →
      o ≡ min (length m / entry_size) (n + one_if (d r c e)) → Cut (cap_of l) (k * entry_size) (numbers_at tiling d e r c) l m →
      Cut (cap_of m) (n * entry_size) (numbers_if tiling (d r c e) r c e) m q →
      (o ≡ min (length l / entry_size) (k + count_below (e + 1) (d r c))) × Cut (cap_of l) (k * entry_size) (numbers_at tiling d (e + 1) r c) l q
  unfolding numbers_if
  cell_go e k n o l m q b h f a w =
      let room : ℕ = length l / entry_size in
      let x : ℕ = k + count_below e (d r c) in
      let g : o ≡ min room (n + one_if (d r c e)) = rw a.long at f in
      let z : k * entry_size + length (numbers_at tiling d e r c) ≡ x * entry_size = omega (arith, cell_long e) in
      let y : Cut (room * entry_size) (min room x * entry_size) (flat tiling (pick (d r c e) (entry r c e ∷ []) [])) m q = rw (a.long, h) at w in (
        omega (arith, count_more d r c e, g, h),
        rw (cell_more e) (cut_then (room * entry_size) (k * entry_size) (numbers_at tiling d e r c) (flat tiling (pick (d r c e) (entry r c e ∷ []) [])) l m q a (rw z (cut_capped room x _ m q y))),
      )

  pub cell_end :
      (e n k o : ℕ) (l q : List ℕ) → e ≡ n →
      (o ≡ min (length l / entry_size) (k + count_below e (d r c))) × Cut (cap_of l) (k * entry_size) (numbers_at tiling d e r c) l q →
      (o ≡ min (length l / entry_size) (k + count_below n (d r c))) × Cut (cap_of l) (k * entry_size) (numbers_at tiling d n r c) l q
  cell_end e n k o l q z h = rw z at h

  pub cell_begin :
      (k : ℕ) (l : List ℕ) → k ≤ length l / entry_size → (k ≡ min (length l / entry_size) (k + count_below 0 (d r c))) × Cut (cap_of l) (k * entry_size) (numbers_at tiling d 0 r c) l l
  unfolding count_below
  cell_begin k l h = (omega arith, rw cell_none (cut_none _ (k * entry_size) l))

-- a stretch of a row, cell by cell

module _ (d : ℕ → ℕ → ℕ → Bool) (n r left : ℕ) where
  count_none : count_in d n r (r + 1) left left ≡ 0
  unfolding count_in
  count_none = inside_none ◌+◌ 0 sums r (r + 1) left left _ (λ i c h. absurd (omega arith))

  count_more_row : (c : ℕ) → left ≤ c → count_in d n r (r + 1) left (c + 1) ≡ count_in d n r (r + 1) left c + count_below n (d r c)
  unfolding count_in
  count_more_row c h =
      row_beside ◌+◌ 0 sums r (λ r c. count_below n (d r c)) left c (c + 1) h (omega arith)
      ∙ ap (λ (v : ℕ). fold_inside ◌+◌ 0 r (r + 1) left c (λ r c. count_below n (d r c)) + v) (inside_one ◌+◌ 0 sums r c (λ r c. count_below n (d r c)))

  -- no more entries than elements
  pub row_few : (w : ℕ) → count_in d n r (r + 1) left (left + w) ≤ w * n
  row_few zero = let z : left + 0 ≡ left = omega arith in rw z (omega (arith, count_none))
  row_few (suc w) = let z : left + suc w ≡ left + w + 1 = omega arith in rw z (omega (arith, count_more_row (left + w) (omega arith), row_few w, count_few d r (left + w) n))

module _ (tiling : Tiling) (d : ℕ → ℕ → ℕ → Bool) (n r left : ℕ) where
  pub row_begin :
      (k : ℕ) (l : List ℕ) → k ≤ length l / entry_size →
      (k ≡ min (length l / entry_size) (k + count_in d n r (r + 1) left left)) × Cut (cap_of l) (k * entry_size) (stretch (numbers_at tiling d n) r left left) l l
  row_begin k l h = (omega (arith, count_none d n r left), rw (stretch_none (numbers_at tiling d n) 0 r left) (cut_none _ (k * entry_size) l))

  row_more : (c : ℕ) → left ≤ c → stretch (numbers_at tiling d n) r left (c + 1) ≡ stretch (numbers_at tiling d n) r left c ++ numbers_at tiling d n r c
  unfolding stretch
  row_more c h = row_beside ◌++◌ [] lists r (numbers_at tiling d n) left c (c + 1) h (omega arith) ∙ ap (λ (v : List ℕ). fold_inside ◌++◌ [] r (r + 1) left c (numbers_at tiling d n) ++ v) (inside_one ◌++◌ [] lists r c (numbers_at tiling d n))

  pub row_go :
      (k c m o : ℕ) (l p q : List ℕ) → left ≤ c → k ≤ length l / entry_size → m ≡ min (length l / entry_size) (k + count_in d n r (r + 1) left c) →
      o ≡ min (length p / entry_size) (m + count_below n (d r c)) → Cut (cap_of l) (k * entry_size) (stretch (numbers_at tiling d n) r left c) l p →
      Cut (cap_of p) (m * entry_size) (numbers_at tiling d n r c) p q →
      (o ≡ min (length l / entry_size) (k + count_in d n r (r + 1) left (c + 1))) × Cut (cap_of l) (k * entry_size) (stretch (numbers_at tiling d n) r left (c + 1)) l q
  row_go k c m o l p q h b e f a w =
      let room : ℕ = length l / entry_size in
      let x : ℕ = k + count_in d n r (r + 1) left c in
      let g : o ≡ min room (m + count_below n (d r c)) = rw a.long at f in
      let z : k * entry_size + length (stretch (numbers_at tiling d n) r left c) ≡ x * entry_size = omega (arith, stretch_counted tiling d n r left c) in
      let y : Cut (room * entry_size) (min room x * entry_size) (numbers_at tiling d n r c) p q = rw (a.long, e) at w in (
        omega (arith, count_more_row d n r left c h, g, e),
        rw (row_more c h) (cut_then (room * entry_size) (k * entry_size) (stretch (numbers_at tiling d n) r left c) (numbers_at tiling d n r c) l p q a (rw z (cut_capped room x _ p q y))),
      )

  pub row_end :
      (c right k o : ℕ) (l q : List ℕ) → c ≡ right →
      (o ≡ min (length l / entry_size) (k + count_in d n r (r + 1) left c)) × Cut (cap_of l) (k * entry_size) (stretch (numbers_at tiling d n) r left c) l q →
      (o ≡ min (length l / entry_size) (k + count_in d n r (r + 1) left right)) × Cut (cap_of l) (k * entry_size) (stretch (numbers_at tiling d n) r left right) l q
  row_end c right k o l q z h = rw z at h
