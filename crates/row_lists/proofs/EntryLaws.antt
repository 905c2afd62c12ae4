-- The list of what differs: in order, each once, no other, counted. Assumes nothing.
use Prim.Native.Nat.{ℕ, zero, suc, ◌+◌, ◌-◌, ◌<◌}
use mathlib.Core.Path.{◌≡◌, refl, sym, ap, ap₂, ◌∙◌}
use mathlib.Core.List.{List, [], ◌∷◌, ◌++◌}
use mathlib.Core.Bool.{Bool, true, false}
use mathlib.Core.Logic.{◌⊎◌, inl, inr, ⊎_elim, by_cases}
use native.Mathlib.Decide.{dec_le}
use native.Mathlib.Omega.{arith}
use lib.ListN.{length, length-append}
use Rattle.wire.specs.Pick.{pick}
use Rattle.wire.specs.Lists.{one_if, count_below}
use Rattle.blocks.specs.Folds.{fold_below, fold_rectangle, fold_inside}
use Rattle.blocks.proofs.FoldLaws.{fold_same}
use Rattle.blocks.proofs.InsideLaws.{inside_part}
use Rattle.row_lists.specs.Entries.{Entry, entry, entries_at, differing_in, count_in, Before, In, Ascends, ListsEachOnce, SwappedSame}

-- lists put together

in_append : (x : Entry) (l m : List Entry) → In x (l ++ m) → In x l ⊎ In x m
in_append x [] m h = inr h
in_append x (y ∷ l) m h = ⊎_elim (λ e. inl (inl e)) (λ i. ⊎_elim (λ j. inl (inr j)) (λ j. inr j) (in_append x l m i)) h

in_first : (x : Entry) (l m : List Entry) → In x l → In x (l ++ m)
in_first x [] m h = absurd h
in_first x (y ∷ l) m h = ⊎_elim (λ e. inl e) (λ i. inr (in_first x l m i)) h

in_second : (x : Entry) (l m : List Entry) → In x m → In x (l ++ m)
in_second x [] m h = h
in_second x (y ∷ l) m h = inr (in_second x l m h)

ascends_append : (l m : List Entry) → Ascends l → Ascends m → ((x y : Entry) → In x l → In y m → Before x y) → Ascends (l ++ m)
ascends_append [] m a b f = b
ascends_append (x ∷ l) m a b f =
    ((λ y h. ⊎_elim (λ i. a.0 y i) (λ i. f x y (inl refl) i) (in_append y l m h)), ascends_append l m a.1 b (λ y z h i. f y z (inr h) i))

-- many lists put together

module _ (f : ℕ → List Entry) where
  in_fold : (n : ℕ) (x : Entry) → In x (fold_below ◌++◌ [] n f) → (i : ℕ) × (i < n) × In x (f i)
  unfolding fold_below
  in_fold zero x h = absurd h
  in_fold (suc n) x h =
      ⊎_elim (λ i. let y = in_fold n x i in (y.0, omega arith, y.2)) (λ i. (n, omega arith, i)) (in_append x (fold_below ◌++◌ [] n f) (f n) h)

  fold_in : (n i : ℕ) (x : Entry) → i < n → In x (f i) → In x (fold_below ◌++◌ [] n f)
  unfolding fold_below
  fold_in zero i x h m = absurd (omega arith)
  fold_in (suc n) i x h m =
      by_cases (dec_le (i + 1) n) (λ k. in_first x (fold_below ◌++◌ [] n f) (f n) (fold_in n i x (omega arith) m))
      (λ k. let e : i ≡ n = omega arith in in_second x (fold_below ◌++◌ [] n f) (f n) (rw e at m))

  fold_ascends :
      (n : ℕ) → ((i : ℕ) → i < n → Ascends (f i)) → ((i j : ℕ) (x y : Entry) → i < j → j < n → In x (f i) → In y (f j) → Before x y) → Ascends (fold_below ◌++◌ [] n f)
  unfolding fold_below
  fold_ascends zero a b = tt
  fold_ascends (suc n) a b =
      ascends_append (fold_below ◌++◌ [] n f) (f n) (fold_ascends n (λ i h. a i (omega arith)) (λ i j x y h k. b i j x y h (omega arith))) (a n (omega arith))
      (λ x y h k. let z = in_fold n x h in b z.0 n x y z.1 (omega arith) z.2 k)

-- the elements of a cell

module _ (d : ℕ → ℕ → ℕ → Bool) where
  one_in : (b : Bool) (x y : Entry) → In x (pick b (y ∷ []) []) → (x ≡ y) × (b ≡ true)
  one_in true x y h = ⊎_elim (λ e. (e, refl)) (λ z. absurd z) h
  one_in false x y h = absurd h

  in_one : (b : Bool) (y : Entry) → b ≡ true → In y (pick b (y ∷ []) [])
  in_one b y e = rw e (inl refl)

  one_ascends : (b : Bool) (y : Entry) → Ascends (pick b (y ∷ []) [])
  one_ascends true y = ((λ z h. absurd h), tt)
  one_ascends false y = tt

  -- what a cell's entry is
  record Of (n r c : ℕ) (x : Entry) : Type 0 where
    row_is : x.row ≡ r
    column_is : x.column ≡ c
    few : x.element < n
    differs : d x.row x.column x.element ≡ true

  in_entries : (n r c : ℕ) (x : Entry) → In x (entries_at d n r c) → Of n r c x
  unfolding entries_at
  in_entries n r c x h =
      let y = in_fold (λ e. pick (d r c e) (entry r c e ∷ []) []) n x h in
      let z = one_in (d r c y.0) x (entry r c y.0) y.2 in
      let q : x.element ≡ y.0 = ap (λ (w : Entry). w.element) z.0 in
      record {
        row_is = ap (λ (w : Entry). w.row) z.0;
        column_is = ap (λ (w : Entry). w.column) z.0;
        few = omega (arith, y.1, q);
        differs = ap (λ (w : Entry). d w.row w.column w.element) z.0 ∙ z.1;
      }

  entries_in : (n r c e : ℕ) → e < n → d r c e ≡ true → In (entry r c e) (entries_at d n r c)
  unfolding entries_at
  entries_in n r c e h t = fold_in (λ e. pick (d r c e) (entry r c e ∷ []) []) n e (entry r c e) h (in_one (d r c e) (entry r c e) t)

  entries_ascend : (n r c : ℕ) → Ascends (entries_at d n r c)
  unfolding entries_at
  entries_ascend n r c =
      fold_ascends (λ e. pick (d r c e) (entry r c e ∷ []) []) n (λ i h. one_ascends (d r c i) (entry r c i))
      (λ i j x y h k p q.
      let a = (one_in (d r c i) x (entry r c i) p).0 in
      let b = (one_in (d r c j) y (entry r c j) q).0 in
      let ra : x.row ≡ r = ap (λ (w : Entry). w.row) a in
      let rb : y.row ≡ r = ap (λ (w : Entry). w.row) b in
      let ca : x.column ≡ c = ap (λ (w : Entry). w.column) a in
      let cb : y.column ≡ c = ap (λ (w : Entry). w.column) b in
      let ea : x.element ≡ i = ap (λ (w : Entry). w.element) a in
      let eb : y.element ≡ j = ap (λ (w : Entry). w.element) b in
      inr (ra ∙ sym rb, inr (ca ∙ sym cb, omega (arith, ea, eb, h))))

  pub entries_count : (n r c : ℕ) → length (entries_at d n r c) ≡ count_below n (d r c)
  unfolding entries_at fold_below count_below one_if
  entries_count zero r c = refl
  entries_count (suc n) r c =
      length-append (fold_below ◌++◌ [] n (λ e. pick (d r c e) (entry r c e ∷ []) [])) (pick (d r c n) (entry r c n ∷ []) [])
      ∙ ap₂ ◌+◌ (entries_count n r c) (one (d r c n))
    where
      one : (b : Bool) → length (pick b (entry r c n ∷ []) []) ≡ pick b 1 0
      one true = refl
      one false = refl

-- one row

module _ (d : ℕ → ℕ → ℕ → Bool) (n r left w : ℕ) where
  abbrev row : List Entry
  row = fold_below ◌++◌ [] w (λ j. entries_at d n r (left + j))

  record OfRow (x : Entry) : Type 0 where
    column : ℕ
    from_left : column < w
    of : Of d n r (left + column) x

  in_row : (x : Entry) → In x row → OfRow x
  in_row x h = let y = in_fold (λ j. entries_at d n r (left + j)) w x h in record { column = y.0; from_left = y.1; of = in_entries d n r (left + y.0) x y.2 }

  row_ascends : Ascends row
  row_ascends =
      fold_ascends (λ j. entries_at d n r (left + j)) w (λ j h. entries_ascend d n r (left + j))
      (λ i j x y h k p q.
      let a = in_entries d n r (left + i) x p in
      let b = in_entries d n r (left + j) y q in
      inr (a.row_is ∙ sym b.row_is, inl (omega (arith, a.column_is, b.column_is, h))))

pub count_is : (d : ℕ → ℕ → ℕ → Bool) (n top bottom left right : ℕ) → length (differing_in d n top bottom left right) ≡ count_in d n top bottom left right
unfolding differing_in count_in fold_inside fold_rectangle
count_is d n top bottom left right =
    inside_part ◌++◌ [] ◌+◌ 0 length refl (λ l m. length-append l m) top bottom left right (entries_at d n)
    ∙ fold_same ◌+◌ 0 (bottom - top) _ _ (λ i h. fold_same ◌+◌ 0 (right - left) _ _ (λ j k. entries_count d n (top + i) (left + j)))

pub lists_each_once : ListsEachOnce
unfolding differing_in fold_inside fold_rectangle
lists_each_once d n rows columns =
    record {
      ascends =
          fold_ascends row_of (rows - 0) (λ i h. row_ascends d n (0 + i) 0 (columns - 0))
          (λ i j x y h k p q.
          let a = (in_row d n (0 + i) 0 (columns - 0) x p).of in
          let b = (in_row d n (0 + j) 0 (columns - 0) y q).of in
          inl (omega (arith, a.row_is, b.row_is, h)));
      each = λ r c e h k l t.
          let p : 0 + r ≡ r = omega arith in
          let q : 0 + c ≡ c = omega arith in
          fold_in row_of (rows - 0) r (entry r c e) (omega arith)
          (fold_in (λ j. entries_at d n (0 + r) (0 + j)) (columns - 0) c (entry r c e) (omega arith) (rw (p, q) (entries_in d n r c e l t)));
      only = λ x h.
          let y = in_fold row_of (rows - 0) x h in
          let z = in_row d n (0 + y.0) 0 (columns - 0) x y.2 in
          let o = z.of in
          ((omega (arith, o.row_is, y.1), (omega (arith, o.column_is, z.from_left), o.few)), o.differs);
      counted = count_is d n 0 rows 0 columns;
    }
  where
    row_of : ℕ → List Entry
    row_of i = fold_below ◌++◌ [] (columns - 0) (λ j. entries_at d n (0 + i) (0 + j))

pub swapped_same : SwappedSame
unfolding differing_in fold_inside fold_rectangle entries_at
swapped_same d f n rows columns e =
    fold_same ◌++◌ [] (rows - 0) _ _
    (λ i h. fold_same ◌++◌ [] (columns - 0) _ _ (λ j k. fold_same ◌++◌ [] n _ _ (λ l m. rw (e (0 + i) (0 + j) l (omega arith) (omega arith) m))))
