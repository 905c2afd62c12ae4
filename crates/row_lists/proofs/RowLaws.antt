-- The rows of a piece, placed one under the other, and a band of pieces beside each other. Assumes nothing.
use Prim.Native.Nat.{ℕ, zero, suc, ◌+◌, ◌-◌, ◌*◌, ◌/◌, ◌≤◌, ◌<◌, min}
use mathlib.Core.Path.{◌≡◌, refl, sym, ap, ap₂, ◌∙◌}
use mathlib.Core.List.{List, [], ◌∷◌, ◌++◌}
use mathlib.Core.Bool.{Bool, true, false}
use mathlib.Core.Logic.{⊎_elim, by_cases}
use native.Mathlib.Decide.{dec_le}
use native.Mathlib.Omega.{arith}
use native.Mathlib.Nat.{mul-le-mul}
use lib.ListN.{length, get_or, set}
use lib.Dec.{eqb}
use lib.Seq.{get_or-set_same, get_or-set_other}
use borrow.Author.Tests.{eqb-true, eqb-false}
use Rattle.wire.specs.Pick.{pick}
use Rattle.wire.specs.Tests.{◌≤?◌}
use Rattle.wire.specs.Lists.{count_below}
use Rattle.wire.specs.Bytes.{put}
use Rattle.wire.proofs.TestLaws.{yes, no}
use Rattle.blocks.specs.Tables.{Inside}
use Rattle.blocks.specs.Folds.{fold_below, fold_inside}
use Rattle.blocks.specs.Walks.{Follows}
use Rattle.blocks.proofs.FoldLaws.{fold_same, sums}
use Rattle.blocks.proofs.InsideLaws.{inside_none, inside_each, inside_under, inside_same, row_beside}
use Rattle.row_lists.specs.Entries.{Tiling, entry, entry_size, entries_at, count_in, differing_in, flat, listed}
use Rattle.row_lists.specs.Placing.{Cut, Placed, cap_of, up_to, stretch, start, numbers_at, rows_done, reached, next_of, Nexts, Ends, Counts, Spread, PiecePlaced, BandPlaced, ColumnsPlaced, BandUpto, SpreadOut, SpreadUpto}
use Rattle.row_lists.proofs.EntryLaws.{entries_count}
use Rattle.row_lists.proofs.PlacingLaws.{placed_none, placed_more, stretch_none, start_more, start_rises}
use Rattle.row_lists.proofs.ListedLaws.{flat_append, start_counted, stretch_counted, placed_listed}
use Rattle.row_lists.proofs.CutLaws.{cut_none, cut_full, cut_capped, row_few}

-- which column a row is placed up to

pub rows_in : (done : ℕ → ℕ) (top row right k : ℕ) → top ≤ k → k < row → rows_done done top row right k ≡ right
unfolding rows_done
rows_in done top row right k h l = rw (← yes ((top ≤? k) ∷ (k + 1 ≤? row) ∷ []) (h, (omega arith, tt)))

pub rows_out : (done : ℕ → ℕ) (top row right k : ℕ) → (top ≤ k → k < row → ⊥) → rows_done done top row right k ≡ done k
unfolding rows_done
rows_out done top row right k f = rw (← no ((top ≤? k) ∷ (k + 1 ≤? row) ∷ []) (λ y. f y.0 (omega (arith, y.1.0))))

-- one row more
rows_up : (done : ℕ → ℕ) (top row right : ℕ) → top ≤ row → (k : ℕ) → up_to (rows_done done top row right) row right k ≡ rows_done done top (row + 1) right k
unfolding up_to
rows_up done top row right h k = go (eqb k row) refl
  where
    other : (k ≡ row → ⊥) → rows_done done top row right k ≡ rows_done done top (row + 1) right k
    other f =
        by_cases (dec_le top k)
        (λ a. by_cases (dec_le (k + 1) row)
        (λ b. rows_in done top row right k a (omega arith) ∙ sym (rows_in done top (row + 1) right k a (omega arith)))
        (λ b. rows_out done top row right k (λ x y. omega arith) ∙ sym (rows_out done top (row + 1) right k (λ x y. f (omega arith)))))
        (λ a. rows_out done top row right k (λ x y. omega arith) ∙ sym (rows_out done top (row + 1) right k (λ x y. omega arith)))

    go : (b : Bool) → eqb k row ≡ b → pick (eqb k row) right (rows_done done top row right k) ≡ rows_done done top (row + 1) right k
    go true e = let z = eqb-true k row e in rw e (sym (rows_in done top (row + 1) right k (omega arith) (omega arith)))
    go false e = rw e (other (eqb-false k row e))

module _ (n top bottom left k : ℕ) where
  reached_above : k < top → reached n top bottom left k ≡ n
  unfolding reached
  reached_above h = rw (← yes ((k + 1 ≤? top) ∷ []) (omega arith, tt))

  reached_band : top ≤ k → k < bottom → reached n top bottom left k ≡ left
  unfolding reached
  reached_band h l = rw (← no ((k + 1 ≤? top) ∷ []) (λ y. omega (arith, y.0)), ← yes ((k + 1 ≤? bottom) ∷ []) (omega arith, tt))

  reached_below : top ≤ k → bottom ≤ k → reached n top bottom left k ≡ 0
  unfolding reached
  reached_below h l = rw (← no ((k + 1 ≤? top) ∷ []) (λ y. omega (arith, y.0)), ← no ((k + 1 ≤? bottom) ∷ []) (λ y. omega (arith, y.0)))

  reached_few : left ≤ n → reached n top bottom left k ≤ n
  reached_few h =
      by_cases (dec_le (k + 1) top) (λ a. rw (reached_above (omega arith)) (omega arith))
      (λ a. by_cases (dec_le (k + 1) bottom) (λ b. rw (reached_band (omega arith) (omega arith)) h) (λ b. rw (reached_below (omega arith) (omega arith)) (omega arith)))

-- two ways to say the same columns
placed_same :
    (D : ℕ → ℕ → List ℕ) (m n cap : ℕ) (f g : ℕ → ℕ) (old now : List ℕ) → ((k : ℕ) → f k ≡ g k) → Placed D m n cap f old now → Placed D m n cap g old now
placed_same D m n cap f g old now e p =
    record {
      long = p.long;
      in_row = λ r i h k q. rw (e r) at (p.in_row r i h (rw (e r) k) q);
      outside = λ x w. p.outside x (λ r i h k q z. w r i h (rw (e r) at k) q z);
    }

empty : (l : List ℕ) → length l ≡ 0 → l ≡ []
empty [] e = refl
empty (x ∷ l) e = absurd (omega arith)

-- where the next entry goes, as a number of entries and of numbers

next_place : (tiling : Tiling) (d : ℕ → ℕ → ℕ → Bool) (e n r column : ℕ) → next_of d e n r column * entry_size ≡ start (numbers_at tiling d e) n r + length (stretch (numbers_at tiling d e) r 0 column)
unfolding next_of
next_place tiling d e n r column = omega (arith, start_counted tiling d e n r, stretch_counted tiling d e r 0 column)

pub next_more : (d : ℕ → ℕ → ℕ → Bool) (e n r left right : ℕ) → left ≤ right → next_of d e n r right ≡ next_of d e n r left + count_in d e r (r + 1) left right
unfolding next_of count_in
next_more d e n r left right h = omega (arith, row_beside ◌+◌ 0 sums r (λ r c. count_below e (d r c)) 0 left right (omega arith) h)

-- no row yet, and one row more

module _ (tiling : Tiling) (d : ℕ → ℕ → ℕ → Bool) (e n top bottom left right : ℕ) where
  pub piece_none : (l : List ℕ) → PiecePlaced tiling d e n top bottom top left right l l
  piece_none l m done old h f g p = placed_same _ m n _ done _ old l (λ k. sym (rows_out done top top right k (λ x y. omega arith))) p

  module _ (r : ℕ) (was mid : List ℕ) (h : top ≤ r) (b : r < bottom) (w : left ≤ right) (u : right ≤ n) (l : length mid ≡ length was)
      (p : PiecePlaced tiling d e n top bottom r left right was mid)
    where
      pub piece_more :
          (now : List ℕ) → Cut (cap_of mid) (next_of d e n r left * entry_size) (stretch (numbers_at tiling d e) r left right) mid now →
          PiecePlaced tiling d e n top bottom (r + 1) left right was now
      piece_more now c m done old a f g s =
          let D : ℕ → ℕ → List ℕ = numbers_at tiling d e in
          let j : ℕ → ℕ = rows_done done top r right in
          let here : j r ≡ left = rows_out done top r right r (λ x y. omega arith) ∙ g r h b in
          let q = p m done old (omega arith) f g s in
          let x : Cut (cap_of was) (next_of d e n r left * entry_size) (stretch D r left right) mid now = rw l at c in
          let z : next_of d e n r left * entry_size ≡ start D n r + length (stretch D r 0 left) = next_place tiling d e n r left in
          let y : Cut (cap_of was) (start D n r + length (stretch D r 0 (j r))) (stretch D r (j r) right) mid now = rw (here, ← z) x in
          placed_same D m n _ (up_to j r right) (rows_done done top (r + 1) right) old now (rows_up done top r right h)
          (placed_more D m n _ j r right (omega arith) (few done f) (rw here w) u old mid now q y)
        where
          few : (done : ℕ → ℕ) → ((k : ℕ) → done k ≤ n) → (k : ℕ) → rows_done done top r right k ≤ n
          few done f k =
              by_cases (dec_le top k)
              (λ a. by_cases (dec_le (k + 1) r) (λ b. rw (rows_in done top r right k a (omega arith)) u) (λ b. rw (rows_out done top r right k (λ x y. omega arith)) (f k)))
              (λ a. rw (rows_out done top r right k (λ x y. omega arith)) (f k))

-- a row's stretch: its entries go where the row's next one does, cut at the list's end; or it has no entry left there, or no room

same_entries : (d f : ℕ → ℕ → ℕ → Bool) (e r c : ℕ) → ((i : ℕ) → i < e → f r c i ≡ d r c i) → entries_at f e r c ≡ entries_at d e r c
unfolding entries_at
same_entries d f e r c g = fold_same ◌++◌ [] e _ _ (λ i h. rw (g i h))

same_count : (d f : ℕ → ℕ → ℕ → Bool) (e r c : ℕ) → ((i : ℕ) → i < e → f r c i ≡ d r c i) → count_below e (f r c) ≡ count_below e (d r c)
same_count d f e r c g = sym (entries_count f e r c) ∙ ap length (same_entries d f e r c g) ∙ entries_count d e r c

-- the numbers of a cell's entries, where one tiling says of it what another does
same_flat :
    (tiling other : Tiling) (e r c : ℕ) (f : ℕ → ℕ → ℕ → Bool) → (other.tile r c ≡ tiling.tile r c) × (other.inside r c ≡ tiling.inside r c) →
    flat other (entries_at f e r c) ≡ flat tiling (entries_at f e r c)
unfolding flat entries_at fold_below
same_flat tiling other zero r c f o = refl
same_flat tiling other (suc e) r c f o =
    flat_append other (entries_at f e r c) (pick (f r c e) (entry r c e ∷ []) []) ∙ ap₂ ◌++◌ (same_flat tiling other e r c f o) (one (f r c e)) ∙ sym (flat_append tiling (entries_at f e r c) (pick (f r c e) (entry r c e ∷ []) []))
  where
    one : (b : Bool) → flat other (pick b (entry r c e ∷ []) []) ≡ flat tiling (pick b (entry r c e ∷ []) [])
    one true = rw (o.0, o.1)
    one false = refl

same_numbers :
    (tiling other : Tiling) (d f : ℕ → ℕ → ℕ → Bool) (e r c : ℕ) → (other.tile r c ≡ tiling.tile r c) × (other.inside r c ≡ tiling.inside r c) →
    ((i : ℕ) → i < e → f r c i ≡ d r c i) → numbers_at other f e r c ≡ numbers_at tiling d e r c
same_numbers tiling other d f e r c o g = same_flat tiling other e r c f o ∙ ap (flat tiling) (same_entries d f e r c g)

module _ (tiling : Tiling) (d : ℕ → ℕ → ℕ → Bool) (e n r left right k : ℕ) (l : List ℕ) (q : k ≡ min (length l / entry_size) (next_of d e n r left)) (w : left ≤ right) where
  pub row_placed :
      (other : Tiling) (f : ℕ → ℕ → ℕ → Bool) (after : ℕ) (now : List ℕ) →
      ((c : ℕ) → left ≤ c → c < right → (other.tile r c ≡ tiling.tile r c) × (other.inside r c ≡ tiling.inside r c)) →
      ((c i : ℕ) → left ≤ c → c < right → i < e → f r c i ≡ d r c i) →
      after ≡ min (length l / entry_size) (k + count_in f e r (r + 1) left right) → Cut (cap_of l) (k * entry_size) (stretch (numbers_at other f e) r left right) l now →
      (after ≡ min (length l / entry_size) (next_of d e n r right)) × Cut (cap_of l) (next_of d e n r left * entry_size) (stretch (numbers_at tiling d e) r left right) l now
  unfolding count_in stretch
  row_placed other f after now o g h c =
      let x : count_in f e r (r + 1) left right ≡ count_in d e r (r + 1) left right =
      inside_same ◌+◌ 0 r (r + 1) left right _ _ (λ i z u. let y : i ≡ r = omega arith in rw y (same_count d f e r z (λ j h. g z j u.from_left u.to_right h))) in
      let v : stretch (numbers_at other f e) r left right ≡ stretch (numbers_at tiling d e) r left right =
      inside_same ◌++◌ [] r (r + 1) left right _ _ (λ i z u. let y : i ≡ r = omega arith in rw y (same_numbers tiling other d f e r z (o z u.from_left u.to_right) (λ j h. g z j u.from_left u.to_right h))) in
      (omega (arith, h, q, x, next_more d e n r left right w), cut_capped (length l / entry_size) (next_of d e n r left) _ l now (rw (← q, ← v) c))

  pub row_passed :
      (end : ℕ) → right ≤ n → end ≡ min (length l / entry_size) (next_of d e n r n) → end ≤ k →
      (k ≡ min (length l / entry_size) (next_of d e n r right)) × Cut (cap_of l) (next_of d e n r left * entry_size) (stretch (numbers_at tiling d e) r left right) l l
  row_passed end u h b =
      let x = next_more d e n r left right w in
      let y = next_more d e n r right n u in (
        omega arith,
        by_cases (dec_le (length l / entry_size) (next_of d e n r left)) (λ f. cut_full _ _ _ l (omega arith))
            (λ f.
            let o : stretch (numbers_at tiling d e) r left right ≡ [] = empty (stretch (numbers_at tiling d e) r left right) (omega (arith, stretch_counted tiling d e r left right)) in
            rw o (cut_none _ _ l)),
      )

-- the numbers of the next entries

module _ (d : ℕ → ℕ → ℕ → Bool) (e n room top bottom left right : ℕ) where
  pub nexts_more :
      (r i after m : ℕ) (next : List ℕ) → i ≡ r - top → top ≤ r → i < length next → m ≡ room → after ≡ min m (next_of d e n r right) →
      Nexts d e n room top bottom r left right next → Nexts d e n room top bottom (r + 1) left right (set next i after)
  nexts_more r i after m next p h l o q a =
      record {
        placed = λ j w.
            by_cases (dec_le (top + j + 1) r) (λ b. get_or-set_other next i j after 0 (λ z. omega arith) ∙ a.placed j (omega arith))
            (λ b. let z : j ≡ i = omega arith in let y : top + i ≡ r = omega arith in rw (z, y) (get_or-set_same next i after 0 l ∙ q ∙ rw o));
        waiting = λ j w u. get_or-set_other next i j after 0 (λ z. omega arith) ∙ a.waiting j (omega arith) u;
      }

  pub next_here :
      (r i k m : ℕ) (next : List ℕ) → i ≡ r - top → top ≤ r → r < bottom → m ≡ room → k ≡ get_or next i 0 → Nexts d e n room top bottom r left right next →
      k ≡ min m (next_of d e n r left)
  next_here r i k m next p h l o q a = let y : top + i ≡ r = omega arith in q ∙ rw o (rw y at (a.waiting i (omega arith) (omega arith)))

  pub piece_end :
      (tiling : Tiling) (r : ℕ) (was now next : List ℕ) → r ≡ bottom → Nexts d e n room top bottom r left right next × PiecePlaced tiling d e n top bottom r left right was now →
      Nexts d e n room top bottom bottom left right next × PiecePlaced tiling d e n top bottom bottom left right was now
  piece_end tiling r was now next z h = rw z at h

  -- all rows placed up to one column, from which the next piece starts
  pub nexts_turn : (right2 : ℕ) (next : List ℕ) → Nexts d e n room top bottom bottom left right next → Nexts d e n room top bottom top right right2 next
  nexts_turn right2 next a = record { placed = λ i h. absurd (omega arith); waiting = λ i h k. a.placed i k }

pub end_here :
    (d : ℕ → ℕ → ℕ → Bool) (e n room top bottom r i k m : ℕ) (ends : List ℕ) → i ≡ r - top → top ≤ r → r < bottom → m ≡ room → k ≡ get_or ends i 0 →
    Ends d e n room top bottom ends → k ≡ min m (next_of d e n r n)
end_here d e n room top bottom r i k m ends p h l o q a = let y : top + i ≡ r = omega arith in q ∙ rw o (rw y at (a.each i (omega arith)))

-- where a sum of numbers is 0, each is
sum_each : (top bottom left right : ℕ) (f : ℕ → ℕ → ℕ) → fold_inside ◌+◌ 0 top bottom left right f ≡ 0 → (r c : ℕ) → Inside top bottom left right r c → f r c ≡ 0
sum_each top bottom left right f z r c i = inside_each ◌+◌ 0 (λ x y e. (omega arith, omega arith)) top bottom left right f z r c i

unfold_count : (d : ℕ → ℕ → ℕ → Bool) (e top bottom n : ℕ) → count_in d e top bottom 0 n ≡ 0 → fold_inside ◌+◌ 0 top bottom 0 n (λ r c. count_below e (d r c)) ≡ 0
unfolding count_in
unfold_count d e top bottom n z = z

-- a piece in which no cell differs

module _ (tiling : Tiling) (d : ℕ → ℕ → ℕ → Bool) (e n top bottom left right : ℕ) (z : (r c : ℕ) → Inside top bottom left right r c → count_below e (d r c) ≡ 0) (w : left ≤ right) (u : right ≤ n)
  where
    plain_count : (r : ℕ) → top ≤ r → r < bottom → count_in d e r (r + 1) left right ≡ 0
    unfolding count_in
    plain_count r h k = inside_none ◌+◌ 0 sums r (r + 1) left right _ (λ i c g. z i c (omega arith))

    plain_rows : (l : List ℕ) (k : ℕ) → top + k ≤ bottom → PiecePlaced tiling d e n top bottom (top + k) left right l l
    plain_rows l zero h = let y : top + 0 ≡ top = omega arith in rw y (piece_none tiling d e n top bottom left right l)
    plain_rows l (suc k) h =
        let y : top + suc k ≡ top + k + 1 = omega arith in
        let o : stretch (numbers_at tiling d e) (top + k) left right ≡ [] =
        empty (stretch (numbers_at tiling d e) (top + k) left right) (omega (arith, stretch_counted tiling d e (top + k) left right, plain_count (top + k) (omega arith) (omega arith))) in
        rw y (piece_more tiling d e n top bottom left right (top + k) l l (omega arith) (omega arith) w u refl (plain_rows l k (omega arith)) l (rw o (cut_none _ _ l)))

    pub piece_plain :
        (room : ℕ) (l next : List ℕ) → top ≤ bottom → Nexts d e n room top bottom top left right next →
        Nexts d e n room top bottom bottom left right next × PiecePlaced tiling d e n top bottom bottom left right l l
    piece_plain room l next t a =
        let y : top + (bottom - top) ≡ bottom = omega arith in (
          record {
            placed = λ i h. a.waiting i (omega arith) h ∙ ap (min room) (sym (next_more d e n (top + i) left right w ∙ omega (arith, plain_count (top + i) (omega arith) h)));
            waiting = λ i h k. absurd (omega arith);
          },
          rw y at (plain_rows l (bottom - top) (omega arith)),
        )

-- a row of tiles

module _ (tiling : Tiling) (d : ℕ → ℕ → ℕ → Bool) (e m n : ℕ) (old : List ℕ) where
  abbrev Upto : ℕ → ℕ → ℕ → List ℕ → Type 0
  Upto top bottom left now = Placed (numbers_at tiling d e) m n (cap_of old) (reached n top bottom left) old now

  -- nothing yet
  pub list_begin : Upto 0 0 0 old
  list_begin =
      placed_none (numbers_at tiling d e) m n _ (reached n 0 0 0) old
      (λ r. by_cases (dec_le (r + 1) 0) (λ a. absurd (omega arith)) (λ a. reached_below n 0 0 0 r (omega arith) (omega arith)))

  -- where no row below has an entry, or the list is full, all is placed
  list_rest :
      (top : ℕ) (now : List ℕ) → ((r i : ℕ) → top ≤ r → r < m → i < length (stretch (numbers_at tiling d e) r 0 n) → start (numbers_at tiling d e) n r + i < cap_of old → ⊥) → Upto top top 0 now →
      now ≡ put old 0 (listed tiling (length old) (differing_in d e 0 m 0 n))
  list_rest top now f p =
      placed_listed tiling d e m n (λ r. n) old now
      (record {
        long = p.long;
        in_row = λ r i h k q.
            by_cases (dec_le (r + 1) top) (λ a. let z = reached_above n top top 0 r (omega arith) in rw z at (p.in_row r i h (rw z k) q))
            (λ a. absurd (f r i (omega arith) h k q));
        outside = λ x g.
            p.outside x
            (λ r i h k q z.
            by_cases (dec_le (r + 1) top) (λ a. g r i h (rw (reached_above n top top 0 r (omega arith)) at k) q z)
            (λ a.
            let y : length (stretch (numbers_at tiling d e) r 0 (reached n top top 0 r)) ≡ 0 =
            ap (λ (c : ℕ). length (stretch (numbers_at tiling d e) r 0 c)) (reached_below n top top 0 r (omega arith) (omega arith)) ∙ ap length (stretch_none (numbers_at tiling d e) n r 0) in
            omega arith));
      })
      (λ r h. refl)

  pub list_full : (top : ℕ) (now : List ℕ) → length old / entry_size ≤ count_in d e 0 top 0 n → Upto top top 0 now → now ≡ put old 0 (listed tiling (length old) (differing_in d e 0 m 0 n))
  list_full top now h p =
      list_rest top now (λ r i a b k q. omega (arith, start_counted tiling d e n top, start_rises (numbers_at tiling d e) n top r a)) p

  pub list_done :
      (top : ℕ) (now : List ℕ) → count_in d e 0 m 0 n ≤ count_in d e 0 top 0 n → Upto top top 0 now → now ≡ put old 0 (listed tiling (length old) (differing_in d e 0 m 0 n))
  list_done top now q p =
      list_rest top now
      (λ r i a b k t.
      omega (arith, start_counted tiling d e n top, start_counted tiling d e n m, start_rises (numbers_at tiling d e) n top r a, start_more (numbers_at tiling d e) n r, start_rises (numbers_at tiling d e) n (r + 1) m (omega arith))) p

  pub list_end : (top : ℕ) (now : List ℕ) → top ≡ m → Upto top top 0 now → now ≡ put old 0 (listed tiling (length old) (differing_in d e 0 m 0 n))
  list_end top now z p = list_done top now (rw z (omega arith)) p

-- a row of tiles: its start, a piece more, and its end

module _ (tiling : Tiling) (d : ℕ → ℕ → ℕ → Bool) (e n top bottom : ℕ) (h : top ≤ bottom) where
  pub columns_none : (was : List ℕ) → ColumnsPlaced tiling d e n top bottom 0 was was
  columns_none was m old b p =
      placed_same _ m n _ (reached n top top 0) (reached n top bottom 0) old was
      (λ k.
      by_cases (dec_le (k + 1) top) (λ a. reached_above n top top 0 k (omega arith) ∙ sym (reached_above n top bottom 0 k (omega arith)))
      (λ a.
      reached_below n top top 0 k (omega arith) (omega arith)
      ∙ sym (by_cases (dec_le (k + 1) bottom) (λ c. reached_band n top bottom 0 k (omega arith) (omega arith)) (λ c. reached_below n top bottom 0 k (omega arith) (omega arith)))))
      p

  pub columns_more :
      (left right : ℕ) (was mid now : List ℕ) → left ≤ n → length mid ≡ length was → ColumnsPlaced tiling d e n top bottom left was mid →
      PiecePlaced tiling d e n top bottom bottom left right mid now → ColumnsPlaced tiling d e n top bottom right was now
  columns_more left right was mid now w l p f m old b s =
      let z : cap_of mid ≡ cap_of was = ap (λ (k : ℕ). k / entry_size * entry_size) l in
      let q : Placed (numbers_at tiling d e) m n (cap_of mid) (reached n top bottom left) old mid = rw (← z) at (p m old b s) in
      let r = f m (reached n top bottom left) old b (λ k. reached_few n top bottom left k w) (λ k u v. reached_band n top bottom left k u v) q in
      let y : Placed (numbers_at tiling d e) m n (cap_of was) (rows_done (reached n top bottom left) top bottom right) old now = rw z at r in
      placed_same _ m n _ (rows_done (reached n top bottom left) top bottom right) _ old now turned y
    where
      turned : (k : ℕ) → rows_done (reached n top bottom left) top bottom right k ≡ reached n top bottom right k
      turned k =
          by_cases (dec_le top k)
          (λ a. by_cases (dec_le (k + 1) bottom)
          (λ c. rows_in (reached n top bottom left) top bottom right k a (omega arith) ∙ sym (reached_band n top bottom right k a (omega arith)))
          (λ c.
          rows_out (reached n top bottom left) top bottom right k (λ x y. omega arith) ∙ reached_below n top bottom left k a (omega arith)
          ∙ sym (reached_below n top bottom right k a (omega arith))))
          (λ a.
          rows_out (reached n top bottom left) top bottom right k (λ x y. omega arith) ∙ reached_above n top bottom left k (omega arith)
          ∙ sym (reached_above n top bottom right k (omega arith)))

  pub columns_all : (was now : List ℕ) → ColumnsPlaced tiling d e n top bottom n was now → BandPlaced tiling d e n top bottom was now
  columns_all was now p m old b s =
      placed_same _ m n _ (reached n top bottom n) (reached n bottom bottom 0) old now
      (λ k.
      by_cases (dec_le (k + 1) bottom)
      (λ c.
      by_cases (dec_le (k + 1) top) (λ a. reached_above n top bottom n k (omega arith)) (λ a. reached_band n top bottom n k (omega arith) (omega arith))
      ∙ sym (reached_above n bottom bottom 0 k (omega arith)))
      (λ c. reached_below n top bottom n k (omega arith) (omega arith) ∙ sym (reached_below n bottom bottom 0 k (omega arith) (omega arith))))
      (p m old b s)

  -- one in which no cell differs
  band_plain : (l : List ℕ) → count_in d e top bottom 0 n ≡ 0 → BandPlaced tiling d e n top bottom l l
  band_plain l z =
      columns_all l l
      (columns_more 0 n l l l (omega arith) refl (columns_none l)
      (piece_plain tiling d e n top bottom 0 n (λ r c i. none r c i) (omega arith) (omega arith) 0 l [] h (record { placed = λ i k. absurd (omega arith); waiting = λ i k u. low i })).1)
    where
      none : (r c : ℕ) → Inside top bottom 0 n r c → count_below e (d r c) ≡ 0
      none r c i = sum_each top bottom 0 n (λ r c. count_below e (d r c)) (unfold_count d e top bottom n z) r c i

      low : (i : ℕ) → get_or [] i 0 ≡ min 0 (next_of d e n (top + i) 0)
      low i = omega arith

  pub band_none : (w : ℕ) (l : List ℕ) → w ≡ count_in d e top bottom 0 n → w ≡ 0 → (0 ≡ count_in d e top bottom 0 n) × BandPlaced tiling d e n top bottom l l
  band_none w l p q = (sym q ∙ p, band_plain l (sym p ∙ q))

-- a walk over the pieces of a row of tiles: its start, where it stands in it, a piece more

module _ (tiling : Tiling) (d : ℕ → ℕ → ℕ → Bool) (e n room top bottom : ℕ) (b : top < bottom) where
  pub walk_begins :
      (top2 bottom2 left2 : ℕ) (l next : List ℕ) → (top2 < bottom → ((top2 ≡ top) × (bottom2 ≡ bottom)) × (left2 ≡ 0)) → (bottom ≤ top2 → n ≡ 0) →
      Nexts d e n room top bottom top 0 0 next → BandUpto tiling d e n room top bottom top2 bottom2 left2 l l next
  walk_begins top2 bottom2 left2 l next f g a =
      record {
        within = λ h. let y = f h in (y.0, rw y.1 (a, columns_none tiling d e n top bottom (omega arith) l));
        behind = λ h. rw (g h) (columns_none tiling d e 0 top bottom (omega arith) l);
      }

  module _ (top2 bottom2 left2 right : ℕ) (was mid next : List ℕ) (u : BandUpto tiling d e n room top bottom top2 bottom2 left2 was mid next) (h : top2 < bottom) where
    pub walk_within :
        (m : ℕ) (ends : List ℕ) → m ≡ room → Ends d e n room top bottom ends → Ends d e n m top2 bottom2 ends × Nexts d e n m top2 bottom2 top2 left2 right next
    walk_within m ends o f =
        let y = u.within h in
        rw (o, y.0.0, y.0.1) (f, record { placed = λ i k. absurd (omega arith); waiting = λ i k l. y.1.0.waiting i k l })

    pub walk_more :
        (m top3 bottom3 left3 : ℕ) (now next2 : List ℕ) → m ≡ room → length mid ≡ length was → left2 ≤ n → Follows n top2 bottom2 left2 right top3 bottom3 left3 →
        Nexts d e n m top2 bottom2 bottom2 left2 right next2 → PiecePlaced tiling d e n top2 bottom2 bottom2 left2 right mid now → BandUpto tiling d e n room top bottom top3 bottom3 left3 was now next2
    walk_more m top3 bottom3 left3 now next2 o l w f a p =
        let y = u.within h in
        let c : Nexts d e n room top bottom bottom left2 right next2 = rw (o, y.0.0, y.0.1) at a in
        let g : PiecePlaced tiling d e n top bottom bottom left2 right mid now = rw (y.0.0, y.0.1) at p in
        let z : ColumnsPlaced tiling d e n top bottom right was now = columns_more tiling d e n top bottom (omega arith) left2 right was mid now w l y.1.1 g in
        ⊎_elim
        (λ q.
        record {
          within = λ k. ((q.0 ∙ y.0.0, q.1.0 ∙ y.0.1), rw q.1.1 (nexts_turn d e n room top bottom left2 right right next2 c, z));
          behind = λ k. absurd (omega (arith, y.0.0));
        })
        (λ q.
        record {
          within = λ k. absurd (omega (arith, y.0.1));
          behind = λ k. let v : ColumnsPlaced tiling d e n top bottom n was now = rw q.0 at z in v;
        })
        f.next

-- the list so far: after a row of tiles more
pub list_band :
    (tiling : Tiling) (d : ℕ → ℕ → ℕ → Bool) (e m n top bottom : ℕ) (old mid now : List ℕ) → bottom ≤ m → Placed (numbers_at tiling d e) m n (cap_of old) (reached n top top 0) old mid →
    BandPlaced tiling d e n top bottom mid now → Placed (numbers_at tiling d e) m n (cap_of old) (reached n bottom bottom 0) old now
list_band tiling d e m n top bottom old mid now h p f =
    let z : cap_of mid ≡ cap_of old = ap (λ (k : ℕ). k / entry_size * entry_size) p.long in
    rw z at (f m old h (rw (← z) at p))

-- how many entries there are at most

module _ (d : ℕ → ℕ → ℕ → Bool) (e n : ℕ) where
  count_under : (top bottom : ℕ) → top ≤ bottom → count_in d e 0 bottom 0 n ≡ count_in d e 0 top 0 n + count_in d e top bottom 0 n
  unfolding count_in
  count_under top bottom h = inside_under ◌+◌ 0 sums 0 top bottom 0 n _ (omega arith) h

  pub count_first : count_in d e 0 0 0 n ≡ 0
  unfolding count_in
  count_first = inside_none ◌+◌ 0 sums 0 0 0 n _ (λ r c h. absurd (omega arith))

  row_most : (r : ℕ) → e ≤ 16 → n ≤ 65536 → count_in d e r (r + 1) 0 n ≤ 1048576
  row_most r h k =
      let z : 0 + n ≡ n = omega arith in
      let y : n * e ≤ 65536 * 16 = mul-le-mul k h in
      let f : count_in d e r (r + 1) 0 n ≤ n * e = rw z at (row_few d e r 0 n) in
      omega arith

  pub counts_small : (top bottom : ℕ) (counts : List ℕ) → Counts d e n top bottom counts → e ≤ 16 → n ≤ 65536 → (i : ℕ) → i < bottom - top → get_or counts i 0 ≤ 1048576
  counts_small top bottom counts c h k i l = omega (arith, c.each i (omega arith), row_most (top + i) h k)

  count_most : (m : ℕ) → e ≤ 16 → n ≤ 65536 → count_in d e 0 m 0 n ≤ m * 1048576
  count_most zero h k = omega (arith, count_first)
  count_most (suc m) h k = let z : suc m ≡ m + 1 = omega arith in rw z (omega (arith, count_under m (m + 1) (omega arith), count_most m h k, row_most m h k))

  pub done_small : (top done : ℕ) → done ≡ count_in d e 0 top 0 n → top ≤ 65536 → e ≤ 16 → n ≤ 65536 → done ≤ 1099511627776
  done_small top done q h k l = omega (arith, count_most top k l, q)

  pub done_more : (top bottom done k : ℕ) → done ≡ count_in d e 0 top 0 n → k ≡ count_in d e top bottom 0 n → top ≤ bottom → done + k ≡ count_in d e 0 bottom 0 n
  done_more top bottom done k p q h = omega (arith, p, q, count_under top bottom h)

-- counts that become starts

module _ (d : ℕ → ℕ → ℕ → Bool) (e n : ℕ) where
  pub count_row : (r : ℕ) → count_in d e 0 (r + 1) 0 n ≡ count_in d e 0 r 0 n + count_in d e r (r + 1) 0 n
  unfolding count_in
  count_row r = inside_under ◌+◌ 0 sums 0 r (r + 1) 0 n _ (omega arith) (omega arith)

  next_start : (r : ℕ) → next_of d e n r 0 ≡ count_in d e 0 r 0 n
  unfolding next_of count_in
  next_start r = omega (arith, inside_none ◌+◌ 0 sums r (r + 1) 0 0 (λ r c. count_below e (d r c)) (λ i c g. absurd (omega arith)))

  next_end : (r : ℕ) → next_of d e n r n ≡ count_in d e 0 (r + 1) 0 n
  unfolding next_of
  next_end r = sym (count_row r)

  module _ (room top bottom : ℕ) where
    pub spread_begin : (counts ends : List ℕ) → Counts d e n top bottom counts → Spread d e n room top bottom 0 counts ends
    spread_begin counts ends c = record { nexts = λ j h. absurd (omega arith); lasts = λ j h. absurd (omega arith); waiting = λ j h k. c.each j k }

    pub spread_more :
        (i at next end : ℕ) (counts ends : List ℕ) → Spread d e n room top bottom i counts ends → top + i < bottom → i < length counts → i < length ends →
        at ≡ count_in d e 0 (top + i) 0 n → next ≡ min room at → end ≡ min room (at + get_or counts i 0) →
        Spread d e n room top bottom (i + 1) (set counts i next) (set ends i end) × (at + get_or counts i 0 ≡ count_in d e 0 (top + (i + 1)) 0 n)
    spread_more i at next end counts ends s h k l p q t =
        let c = s.waiting i (omega arith) h in
        let u = count_row (top + i) in
        let v : top + (i + 1) ≡ top + i + 1 = omega arith in
        let w : at + get_or counts i 0 ≡ count_in d e 0 (top + (i + 1)) 0 n = rw v (omega arith) in (
          record {
            nexts = λ j a.
                by_cases (dec_le (j + 1) i) (λ b. get_or-set_other counts i j next 0 (λ z. omega arith) ∙ s.nexts j (omega arith))
                (λ b. let z : j ≡ i = omega arith in rw z (get_or-set_same counts i next 0 k ∙ q ∙ ap (min room) (p ∙ sym (next_start (top + i)))));
            lasts = λ j a.
                by_cases (dec_le (j + 1) i) (λ b. get_or-set_other ends i j end 0 (λ z. omega arith) ∙ s.lasts j (omega arith))
                (λ b. let z : j ≡ i = omega arith in rw z (get_or-set_same ends i end 0 l ∙ t ∙ ap (min room) (w ∙ rw v (sym (next_end (top + i))))));
            waiting = λ j a b. get_or-set_other counts i j next 0 (λ z. omega arith) ∙ s.waiting j (omega arith) b;
          },
          w,
        )

    pub spread_all :
        (i right : ℕ) (counts ends : List ℕ) → Spread d e n room top bottom i counts ends → bottom ≤ top + i → Nexts d e n room top bottom top 0 right counts × Ends d e n room top bottom ends
    spread_all i right counts ends s h =
        (record { placed = λ j a. absurd (omega arith); waiting = λ j a b. s.nexts j (omega arith) }, record { each = λ j a. s.lasts j (omega arith) })

-- numbers that are small stay so where one before them changes
pub small_more :
    (i n most v : ℕ) (l : List ℕ) → ((k : ℕ) → i ≤ k → k < n → get_or l k 0 ≤ most) → (k : ℕ) → i + 1 ≤ k → k < n → get_or (set l i v) k 0 ≤ most
small_more i n most v l f k h g = rw (get_or-set_other l i k v 0 (λ z. omega arith)) (f k (omega arith) g)

-- the same for whatever is counted

pub spread_none : (k from room : ℕ) (counts ends : List ℕ) → SpreadUpto k from room 0 from counts counts ends
spread_none k from room counts ends d e n top c f =
    let z : top + 0 ≡ top = omega arith in
    (spread_begin d e n room top (top + k) counts ends c, rw z f)

pub spread_step :
    (k from room i at next end : ℕ) (old counts ends : List ℕ) → SpreadUpto k from room i at old counts ends → i < k → i < length counts → i < length ends → next ≡ min room at →
    end ≡ min room (at + get_or counts i 0) → SpreadUpto k from room (i + 1) (at + get_or counts i 0) old (set counts i next) (set ends i end)
spread_step k from room i at next end old counts ends s h l u p q d e n top c f =
    let y = s d e n top c f in
    spread_more d e n room top (top + k) i at next end counts ends y.0 (omega arith) l u y.1 p q

pub spread_out : (k from room i at : ℕ) (old counts ends : List ℕ) → SpreadUpto k from room i at old counts ends → k ≤ i → SpreadOut k from room old counts ends
spread_out k from room i at old counts ends s h d e n top c f = spread_all d e n room top (top + k) i 0 counts ends (s d e n top c f).0 (omega arith)

pub spread_band :
    (d : ℕ → ℕ → ℕ → Bool) (e n top bottom from room : ℕ) (old counts ends : List ℕ) → SpreadOut (bottom - top) from room old counts ends → top ≤ bottom →
    Counts d e n top bottom old → from ≡ count_in d e 0 top 0 n → Nexts d e n room top bottom top 0 0 counts × Ends d e n room top bottom ends
spread_band d e n top bottom from room old counts ends s h c f =
    let z : top + (bottom - top) ≡ bottom = omega arith in
    rw z at (s d e n top (rw z c) f)
