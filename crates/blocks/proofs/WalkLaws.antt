-- A walk over a rectangle that is cut into blocks: where it starts, a piece more, and its end. Assumes nothing.
use Prim.Native.Nat.{ℕ, ◌+◌, ◌-◌, ◌*◌, ◌≤◌, ◌<◌}
use mathlib.Core.Path.{◌≡◌, sym, ap, ◌∙◌}
use mathlib.Core.List.{List}
use mathlib.Core.Logic.{◌⊎◌, inl, inr, ⊎_elim, by_cases}
use native.Mathlib.Decide.{dec_le}
use native.Mathlib.Omega.{arith}
use native.Mathlib.Nat.{mul-le-mul_right}
use Rattle.blocks.specs.Tables.{Inside, Filled}
use Rattle.blocks.specs.Folds.{fold_inside, Joins}
use Rattle.blocks.specs.Walks.{Passed, Begins, Follows, OnBand, fold_passed, Clear, walk_left}
use Rattle.blocks.proofs.TableLaws.{filled_none, filled_join}
use Rattle.blocks.proofs.InsideLaws.{inside_none, inside_first_at, inside_under, inside_beside}

-- a cell passed one piece later was passed before, or is of the piece
module _ {n top bottom left right top2 bottom2 left2 : ℕ} (w : Follows n top bottom left right top2 bottom2 left2) (from r c : ℕ) where
  passed_split : Passed from n top2 bottom2 left2 r c → Inside top bottom left right r c ⊎ (Passed from n top bottom left r c × (Inside top bottom left right r c → ⊥))
  passed_split p = ⊎_elim (λ e. beside e) (λ e. under e) w.next
    where
      old : r < bottom → (top ≤ r → c < left) → Inside top bottom left right r c ⊎ (Passed from n top bottom left r c × (Inside top bottom left right r c → ⊥))
      old h k =
          inr (record { from_first = p.from_first; to_bottom = h; to_last = p.to_last; to_left = k }, (λ i. let z = k i.from_top in omega arith))

      cut : r < bottom → (top ≤ r → c < right) → Inside top bottom left right r c ⊎ (Passed from n top bottom left r c × (Inside top bottom left right r c → ⊥))
      cut h k =
          by_cases (dec_le top r)
          (λ a. let z = k a in by_cases (dec_le left c) (λ b. inl (omega arith)) (λ b. old h (λ x. omega arith)))
          (λ a. old h (λ x. absurd (omega arith)))

      beside :
          (top2 ≡ top) × ((bottom2 ≡ bottom) × (left2 ≡ right)) →
          Inside top bottom left right r c ⊎ (Passed from n top bottom left r c × (Inside top bottom left right r c → ⊥))
      beside e = cut (omega (arith, p.to_bottom)) (λ x. let z = p.to_left (omega arith) in omega arith)

      under :
          (right ≡ n) × ((top2 ≡ bottom) × (left2 ≡ 0)) →
          Inside top bottom left right r c ⊎ (Passed from n top bottom left r c × (Inside top bottom left right r c → ⊥))
      under e = by_cases (dec_le bottom r) (λ a. let z = p.to_left (omega arith) in absurd (omega arith)) (λ a. cut (omega arith) (λ x. omega (arith, p.to_last)))

  passed_later : from ≤ r → r < bottom → c < n → (top ≤ r → c < right) → Passed from n top2 bottom2 left2 r c
  passed_later a b d k =
      ⊎_elim (λ e. record { from_first = a; to_bottom = omega arith; to_last = d; to_left = λ x. let z = k (omega arith) in omega arith })
      (λ e. record { from_first = a; to_bottom = omega (arith, w.rows2); to_last = d; to_left = λ x. absurd (omega arith) }) w.next

  passed_still : Passed from n top bottom left r c → Passed from n top2 bottom2 left2 r c
  passed_still p = passed_later p.from_first p.to_bottom p.to_last (λ x. let z = p.to_left x in omega (arith, w.columns))

  passed_new : from ≤ top → Inside top bottom left right r c → Passed from n top2 bottom2 left2 r c
  passed_new h i = passed_later (omega arith) i.to_bottom (omega (arith, w.within)) (λ x. i.to_right)

-- nothing is passed where it starts, and every cell where it ends
module _ {from n top bottom left r c : ℕ} where
  start_none : Begins from n top left → Passed from n top bottom left r c → ⊥
  start_none b p = let e = b.at (omega (arith, p.to_last)) in let z = p.to_left (omega (arith, p.from_first)) in omega (arith, b.first)

  passed_inside : {rows : ℕ} → top ≡ rows → left ≡ 0 → Passed from n top bottom left r c → Inside from rows 0 n r c
  passed_inside e f p = by_cases (dec_le top r) (λ h. let z = p.to_left h in absurd (omega arith)) (λ h. omega (arith, p.from_first, p.to_last))

  inside_passed : {rows : ℕ} → top ≡ rows → top ≤ bottom → Inside from rows 0 n r c → Passed from n top bottom left r c
  inside_passed e h i = record { from_first = i.from_top; to_bottom = omega arith; to_last = i.to_right; to_left = λ x. absurd (omega arith) }

-- what is joined over the cells passed

module _ {A : Type 0} (op : A → A → A) (unit : A) (j : Joins op unit) (from n : ℕ) (f : ℕ → ℕ → A) where
  no_columns : (top bottom : ℕ) → fold_inside op unit top bottom 0 0 f ≡ unit
  no_columns top bottom = inside_none op unit j top bottom 0 0 f (λ r c h. absurd (omega arith))

  module _ (top bottom left : ℕ) where
    pub passed_none : Begins from n top left → fold_passed op unit from n top bottom left f ≡ unit
    unfolding fold_passed
    passed_none b = rw (b.first, no_columns top bottom) (j.unit_right _ ∙ inside_none op unit j from top 0 n f (λ r c h. let e = b.at (omega arith) in absurd (omega arith)))

    pub passed_all : (rows : ℕ) → top ≡ rows → left ≡ 0 → fold_passed op unit from n top bottom left f ≡ fold_inside op unit from rows 0 n f
    unfolding fold_passed
    passed_all rows e z = rw (e, z, no_columns rows bottom) (j.unit_right _)

    pub passed_more :
        ((x y : A) → op x y ≡ op y x) → (right top2 bottom2 left2 : ℕ) → Follows n top bottom left right top2 bottom2 left2 → from ≤ top →
        op (fold_passed op unit from n top bottom left f) (fold_inside op unit top bottom left right f) ≡ fold_passed op unit from n top2 bottom2 left2 f
    unfolding fold_passed
    passed_more comm right top2 bottom2 left2 w h =
        j.assoc _ _ _ ∙ ap (op (fold_inside op unit from top 0 n f)) (sym (inside_beside op unit j comm top bottom 0 left right f (omega arith) w.columns))
        ∙ ⊎_elim (λ e. rw (e.0, e.1.0, e.1.1))
        (λ e.
        rw (e.0, e.1.0, e.1.1, no_columns bottom bottom2)
        (sym (inside_under op unit j from top bottom 0 n f h w.rows) ∙ sym (j.unit_right _)))
        w.next

  -- the first by rows that counts

  module _ (top bottom left : ℕ) (k : Clear unit from n top bottom left f) where
    pub clear_first :
        (rows : ℕ) (x : A) → f top left ≡ x → ((y : A) → op x y ≡ x) → from ≤ top → top < bottom → top < rows → left < n → fold_inside op unit from rows 0 n f ≡ x
    clear_first rows x q s a d b l =
        inside_first_at op unit j from rows 0 n f top left x q
        (λ i z h. k.each i z (record { from_first = h.from_top; to_bottom = omega arith; to_last = h.to_right; to_left = λ y. absurd (omega arith) }))
        (λ z h g. k.each top z (record { from_first = a; to_bottom = d; to_last = omega arith; to_left = λ y. g })) s (omega arith)

    pub clear_all : (rows : ℕ) → top ≡ rows → top ≤ bottom → fold_inside op unit from rows 0 n f ≡ unit
    clear_all rows e h = inside_none op unit j from rows 0 n f (λ r c i. k.each r c (inside_passed e h i))

module _ {A : Type 0} {unit : A} {from n : ℕ} {f : ℕ → ℕ → A} where
  pub clear_none : {top left : ℕ} (bottom : ℕ) → Begins from n top left → Clear unit from n top bottom left f
  clear_none bottom b = record { each = λ r c p. absurd (start_none b p) }

  pub clear_more :
      {top bottom left right top2 bottom2 left2 : ℕ} → Follows n top bottom left right top2 bottom2 left2 → Clear unit from n top bottom left f →
      ((r c : ℕ) → Inside top bottom left right r c → f r c ≡ unit) → Clear unit from n top2 bottom2 left2 f
  clear_more w k h = record { each = λ r c p. ⊎_elim (λ i. h r c i) (λ i. k.each r c i.0) (passed_split w from r c p) }

-- a list that is filled

module _ {n from : ℕ} {g : ℕ → ℕ → ℕ} where
  pub walked_none : {top left : ℕ} (bottom : ℕ) (l : List ℕ) → Begins from n top left → Filled n g (Passed from n top bottom left) l l
  walked_none bottom l b = filled_none l (λ r c p. start_none b p)

  module _ {top bottom left right top2 bottom2 left2 : ℕ} {old half now : List ℕ} where
    pub walked_more :
        Follows n top bottom left right top2 bottom2 left2 → from ≤ top → Filled n g (Passed from n top bottom left) old half → Filled n g (Inside top bottom left right) half now →
        Filled n g (Passed from n top2 bottom2 left2) old now
    walked_more w h p q =
        filled_join p q (λ r c a. (a.to_last, passed_still w from r c a)) (λ r c a. (omega (arith, w.within), passed_new w from r c h a)) (λ r c a. passed_split w from r c a)

  module _ {top bottom left rows : ℕ} {old now : List ℕ} where
    pub walked_all : Filled n g (Passed from n top bottom left) old now → top ≡ rows → left ≡ 0 → top ≤ bottom → Filled n g (Inside from rows 0 n) old now
    walked_all p e z h =
        record {
          long = p.long;
          in_area = λ r c i. p.in_area r c (inside_passed e h i);
          outside = λ i k. p.outside i (λ r c a. k r c (passed_inside e z a));
        }

-- the walk ends
pub walk_less :
    (rows : ℕ) {n top bottom left right top2 bottom2 left2 : ℕ} → Follows n top bottom left right top2 bottom2 left2 → top < bottom → bottom ≤ rows → left < right →
    walk_left rows n top2 left2 < walk_left rows n top left
walk_less rows {n} {top} {bottom} {left} w h k l =
    ⊎_elim (λ e. rw (e.0, e.1.1) (omega (arith, w.within)))
    (λ e. let m : (rows - bottom + 1) * (n + 1) ≤ (rows - top) * (n + 1) = mul-le-mul_right (n + 1) (omega arith) in rw (e.1.0, e.1.1) (omega arith)) w.next

-- a walk over one row of blocks: its start, a piece of it and a piece more, and its end

module _ {n top bottom : ℕ} (f : ℕ → Type 0) where
  pub band_first : {top2 bottom2 left2 : ℕ} → top2 ≡ top → bottom2 ≡ bottom → left2 ≡ 0 → f 0 → OnBand n top bottom top2 bottom2 left2 f
  band_first a b c g = inl ((a, b), rw c g)

  pub band_in : {top2 bottom2 left2 : ℕ} → OnBand n top bottom top2 bottom2 left2 f → top2 < bottom → ((top2 ≡ top) × (bottom2 ≡ bottom)) × f left2
  band_in o h = ⊎_elim (λ e. e) (λ e. absurd (omega arith)) o

  pub band_next :
      {top1 bottom1 left1 right1 top2 bottom2 left2 : ℕ} → Follows n top1 bottom1 left1 right1 top2 bottom2 left2 → top1 ≡ top → bottom1 ≡ bottom → f right1 →
      OnBand n top bottom top2 bottom2 left2 f
  band_next w a b g =
      ⊎_elim (λ e. inl ((e.0 ∙ a, e.1.0 ∙ b), rw e.1.1 g)) (λ e. inr ((e.1.0 ∙ b, e.1.1), rw (← e.0) g)) w.next

  pub band_out : {top2 bottom2 left2 : ℕ} → OnBand n top bottom top2 bottom2 left2 f → bottom ≤ top2 → top < bottom → ((top2 ≡ bottom) × (left2 ≡ 0)) × f n
  band_out o h k = ⊎_elim (λ e. absurd (omega arith)) (λ e. e) o
