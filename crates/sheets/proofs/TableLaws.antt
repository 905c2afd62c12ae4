-- Scores of two bytes as a table of bytes, twice as wide: a score, a row and a piece at a time; the walk over it; the sheet. Assumes nothing.
use Rattle.std.specs.Prelude.{Result}
use Rattle.answer.specs.declared.Refusal.{Refusal}
use Prim.Native.Nat.{ℕ, zero, suc, ◌+◌, ◌*◌, ◌/◌, ◌%◌, ◌≤◌, ◌<◌}
use mathlib.Core.Path.{◌≡◌, refl, sym, ap, ap₂, ◌∙◌}
use mathlib.Core.List.{List, [], ◌∷◌, ◌++◌, map, map-append, flat_map}
use mathlib.Core.Logic.{inl, inr, ⊎_elim}
use native.Mathlib.Omega.{arith}
use native.Mathlib.Nat.{mul_assoc, mul_comm, mul-le-mul}
use lib.ListN.{length, get_or, set, length-set}
use Rattle.wire.specs.Big.{big_of}
use Rattle.wire.specs.Lists.{below}
use Rattle.wire.proofs.RunLaws.{run_append, run_one, below_cut}
use Rattle.blocks.specs.Tables.{tabled, Inside, Filled}
use Rattle.blocks.specs.Walks.{Passed, Begins, Follows}
use Rattle.blocks.proofs.TableLaws.{place_less, filled_one, filled_beside}
use Rattle.blocks.proofs.WalkLaws.{walked_none, walked_more, walked_all}
use Rattle.answer.specs.declared.Cell.{Cell}
use Rattle.answer.specs.Answers.{cell_bits}
use Rattle.store.specs.declared.many.Rectangle.{Rectangle}
use Rattle.sheets.specs.Back.{score_cell}
use Rattle.sheets.specs.Rows.{HasRoom, score_byte}

-- a number of two bytes, by its place

pub twice : (r c : ℕ) → r * (2 * c) ≡ 2 * (r * c)
twice r c = rw (← mul_assoc r 2 c, mul_comm r 2, mul_assoc 2 r c)

high_byte : (s : List ℕ) (k r c v : ℕ) → v ≡ cell_bits (score_cell s k r c) → v / 256 % 256 ≡ score_byte s k r (2 * c)
unfolding score_byte big_of
high_byte s k r c v e =
    let p : 2 * c / 2 ≡ c = omega arith in
    let q : 2 * c % 2 ≡ 0 = omega arith in
    rw (p, q, e)

low_byte : (s : List ℕ) (k r c v : ℕ) → v ≡ cell_bits (score_cell s k r c) → v % 256 ≡ score_byte s k r (2 * c + 1)
unfolding score_byte big_of
low_byte s k r c v e =
    let p : (2 * c + 1) / 2 ≡ c = omega arith in
    let q : (2 * c + 1) % 2 ≡ 1 = omega arith in
    rw (p, q, e)

-- room for a score
module _ (a : Rectangle) (l : List ℕ) (f : HasRoom a l) (r : ℕ) (h : r < a.rows) where
  pub row_start : r * a.columns ≤ 4294836225
  row_start = let p : r ≤ 65535 = omega (arith, f.sides.rows_few) in mul-le-mul p f.sides.columns_few

  pub row_bytes : r * (2 * a.columns) ≤ 8589672450
  row_bytes = omega (arith, twice r a.columns, row_start)

  pub room_for : (j : ℕ) → j < 2 * a.columns → r * (2 * a.columns) + j < length l
  room_for j k = omega (arith, place_less a.rows (2 * a.columns) r j h k, f.room)

  pub score_room : (c first : ℕ) (m : List ℕ) → first ≡ r * a.columns → length m ≡ length l → c < a.columns → 2 * (first + c) + 2 ≤ length m
  score_room c first m e n k = omega (arith, twice r a.columns, room_for (2 * c + 1) (omega arith))

-- what is filled keeps its length
pub room_still : {n : ℕ} {g : ℕ → ℕ → ℕ} {area : ℕ → ℕ → Type 0} {a : Rectangle} {l m : List ℕ} → Filled n g area l m → HasRoom a l → HasRoom a m
room_still t f = record { sides = f.sides; room = omega (arith, t.long, f.room) }

-- one score more in a row
module _ (s : List ℕ) (k : ℕ) (a : Rectangle) (r left c : ℕ) where
  pub scores_more :
      (x y : Result Cell Refusal) (v at : ℕ) (l m n : List ℕ) → Filled (2 * a.columns) (score_byte s k) (Inside r (r + 1) (2 * left) (2 * c)) l m → x ≡ y → y ≡ score_cell s k r c →
      v ≡ cell_bits x → at ≡ 2 * (r * a.columns + c) → n ≡ set (set m at (v / 256 % 256)) (at + 1) (v % 256) → HasRoom a l → r < a.rows → left ≤ c → c < a.columns →
      Filled (2 * a.columns) (score_byte s k) (Inside r (r + 1) (2 * left) (2 * (c + 1))) l n
  scores_more x y v at l m n t p q b i e f h g w =
      let o = twice r a.columns in
      let z : at ≡ r * (2 * a.columns) + 2 * c = omega arith in
      let z2 : at + 1 ≡ r * (2 * a.columns) + (2 * c + 1) = omega arith in
      let u : v ≡ cell_bits (score_cell s k r c) = b ∙ ap cell_bits (p ∙ q) in
      let d : 2 * c + 1 + 1 ≡ 2 * (c + 1) = omega arith in
      let m2 = set m (r * (2 * a.columns) + 2 * c) (v / 256 % 256) in
      let room = room_for a l f r h in
      let one = filled_one {n = 2 * a.columns} {g = score_byte s k} r (2 * c) (v / 256 % 256) m (high_byte s k r c v u) (omega (arith, t.long, room (2 * c) (omega arith))) in
      let two = filled_one {n = 2 * a.columns} {g = score_byte s k} r (2 * c + 1) (v % 256) m2 (low_byte s k r c v u) (omega (arith, t.long, length-set m (r * (2 * a.columns) + 2 * c) (v / 256 % 256), room (2 * c + 1) (omega arith))) in
      let both = filled_beside (filled_beside t one (omega arith) (omega arith) (omega arith)) two (omega arith) (omega arith) (omega arith) in
      rw (e, z2, z, ← d) both

-- one byte of -1 more
pub unread_more :
    (a : Rectangle) (r left j : ℕ) (l m n : List ℕ) → Filled (2 * a.columns) (λ _ _. 255) (Inside r (r + 1) left j) l m → n ≡ set m (r * (2 * a.columns) + j) 255 →
    HasRoom a l → r < a.rows → left ≤ j → j < 2 * a.columns → Filled (2 * a.columns) (λ _ _. 255) (Inside r (r + 1) left (j + 1)) l n
unread_more a r left j l m n t e f h g w =
    rw e (filled_beside t (filled_one r j 255 m refl (omega (arith, t.long, room_for a l f r h j w))) (omega arith) g (omega arith))

-- where a loop ends
pub filled_ends :
    {n : ℕ} {g : ℕ → ℕ → ℕ} {top bottom left right r c : ℕ} {l m : List ℕ} → Filled n g (Inside top r left c) l m → r ≡ bottom → c ≡ right → Filled n g (Inside top bottom left right) l m
filled_ends t e f = rw (← e, ← f) t

-- the bytes of a tile that is absent

byte_unread : (s : List ℕ) (k r j : ℕ) → cell_bits (score_cell s k r (j / 2)) ≡ 65535 → score_byte s k r j ≡ 255
unfolding score_byte big_of
byte_unread s k r j e = rw e (which (j % 2) (omega arith))
  where
    which : (i : ℕ) → i < 2 → ◌≡◌ {A = ℕ} (get_or (255 ∷ 255 ∷ []) i 0) 255
    which zero h = refl
    which (suc zero) h = refl
    which (suc (suc i)) h = absurd (omega arith)

pub unread_bytes :
    (s : List ℕ) (k n top bottom left right : ℕ) (l m : List ℕ) → Filled n (λ _ _. 255) (Inside top bottom (2 * left) (2 * right)) l m →
    ((r c : ℕ) → Inside top bottom left right r c → cell_bits (score_cell s k r c) ≡ 65535) → Filled n (score_byte s k) (Inside top bottom (2 * left) (2 * right)) l m
unread_bytes s k n top bottom left right l m t f =
    record {
      long = t.long;
      in_area =
          λ r j i.
          t.in_area r j i
          ∙ sym
          (byte_unread s k r j
          (f r (j / 2) (record { from_top = i.from_top; to_bottom = i.to_bottom; from_left = omega (arith, i.from_left); to_right = omega (arith, i.to_right) })));
      outside = t.outside;
    }

-- the walk over the table: its columns are twice the grid's

follows_twice :
    {n top bottom left right top2 bottom2 left2 : ℕ} → Follows n top bottom left right top2 bottom2 left2 →
    Follows (2 * n) top bottom (2 * left) (2 * right) top2 bottom2 (2 * left2)
follows_twice w =
    record {
      rows = w.rows;
      columns = omega (arith, w.columns);
      within = omega (arith, w.within);
      rows2 = w.rows2;
      next = ⊎_elim (λ e. inl (e.0, (e.1.0, omega (arith, e.1.1)))) (λ e. inr (omega (arith, e.0), (e.1.0, omega (arith, e.1.1)))) w.next;
    }

module _ {g : ℕ → ℕ → ℕ} (n : ℕ) where
  pub table_begins : {top left : ℕ} (bottom : ℕ) (l : List ℕ) → Begins 0 n top left → Filled (2 * n) g (Passed 0 (2 * n) top bottom (2 * left)) l l
  table_begins bottom l b = walked_none bottom l (record { first = omega (arith, b.first); at = λ h. b.at (omega arith) })

  pub table_walks :
      {top bottom left right top2 bottom2 left2 : ℕ} {l m o : List ℕ} → Follows n top bottom left right top2 bottom2 left2 →
      Filled (2 * n) g (Passed 0 (2 * n) top bottom (2 * left)) l m → Filled (2 * n) g (Inside top bottom (2 * left) (2 * right)) m o →
      Filled (2 * n) g (Passed 0 (2 * n) top2 bottom2 (2 * left2)) l o
  table_walks w p q = walked_more (follows_twice w) (omega arith) p q

  pub table_all :
      {top bottom left rows : ℕ} {l m : List ℕ} → Filled (2 * n) g (Passed 0 (2 * n) top bottom (2 * left)) l m → top ≡ rows → left ≡ 0 → top ≤ bottom →
      Filled (2 * n) g (Inside 0 rows 0 (2 * n)) l m
  table_all p e z h = walked_all p e (omega arith) h

-- the table is the scores, one behind the other

pair : (f : ℕ → ℕ) (n : ℕ) → map (λ i. get_or (big_of 2 (f ((2 * n + i) / 2))) ((2 * n + i) % 2) 0) (below 2) ≡ big_of 2 (f n)
unfolding below big_of
pair f n =
    let a : (2 * n + 0) / 2 ≡ n = omega arith in
    let b : (2 * n + 0) % 2 ≡ 0 = omega arith in
    let c : (2 * n + 1) / 2 ≡ n = omega arith in
    let d : (2 * n + 1) % 2 ≡ 1 = omega arith in
    rw (a, b, c, d)

row_pairs : (f : ℕ → ℕ) (n : ℕ) → map (λ j. get_or (big_of 2 (f (j / 2))) (j % 2) 0) (below (2 * n)) ≡ flat_map (big_of 2) (map f (below n))
unfolding below flat_map
row_pairs f zero = refl
row_pairs f (suc n) =
    let g : ℕ → ℕ = λ j. get_or (big_of 2 (f (j / 2))) (j % 2) 0 in
    let e : 2 * suc n ≡ 2 * n + 2 = omega arith in
    ap (λ (k : ℕ). map g (below k)) e ∙ below_cut g (2 * n) 2 ∙ ap₂ (λ (x y : List ℕ). x ++ y) (row_pairs f n) (pair f n)
    ∙ ap (λ (l : List ℕ). flat_map (big_of 2) (map f (below n)) ++ l) (sym (run_one (big_of 2) (f n))) ∙ sym (run_append (big_of 2) (map f (below n)) (f n ∷ []))
    ∙ ap (flat_map (big_of 2)) (sym (map-append f (below n) (n ∷ [])))

pub table_pairs : (m n : ℕ) (g : ℕ → ℕ → ℕ) → tabled m (2 * n) (λ r j. get_or (big_of 2 (g r (j / 2))) (j % 2) 0) ≡ flat_map (big_of 2) (tabled m n g)
unfolding tabled flat_map
table_pairs zero n g = refl
table_pairs (suc m) n g =
    ap₂ (λ (x y : List ℕ). x ++ y) (table_pairs m n g) (row_pairs (g m) n) ∙ sym (run_append (big_of 2) (tabled m n g) (map (g m) (below n)))
