-- What a content answers, from what its rows came to. Assumes nothing.
use Prim.Native.Nat.{ℕ, zero, suc, ◌-◌, ◌*◌, ◌≤◌, ◌<◌}
use mathlib.Core.Path.{◌≡◌, refl, sym, ap, ap₂, subst, ◌∙◌}
use mathlib.Core.List.{List, [], ◌∷◌, map}
use mathlib.Core.Bool.{Bool, true, false}
use mathlib.Core.Logic.{by_cases}
use native.Mathlib.Omega.{arith}
use native.Mathlib.Decide.{dec_le}
use native.Mathlib.Nat.{mod-lt}
use lib.ListN.{length, get_or, set, take, length-set}
use lib.Seq.{take-suc-set, length-take-le}
use Rattle.wire.specs.Pick.{pick}
use Rattle.wire.specs.Tests.{Test, ◌≡?◌, is, passes, Holds}
use Rattle.wire.specs.Bytes.{byte_at, u32_at, put}
use Rattle.wire.proofs.TestLaws.{yes, no, means, not_both}
use Rattle.wire.proofs.PutLaws.{put_nil, put_not}
use Rattle.m32.specs.M32.{codes}
use Rattle.huffman.specs.Tree.{Tree, got}
use Rattle.huffman.specs.Nodes.{Nodes}
use Rattle.predict.specs.Predict.{no_row, tile_cells}
use Rattle.predict.proofs.InverseLaws.{rows_length}
use Rattle.predict.proofs.SmallLaws.{cell_small}
use Rattle.std.specs.Prelude.{Option, Some, None}
use Rattle.std.specs.Option.{is_some}
use Rattle.unpack.specs.Unpack.{predictor_of, seed_of, count_of, head_right, tree_in, tree_right, symbols, numbers_in, numbers_of, count_right, numbers_right, values_of, in_range, bits_of_cell, bits_of, Cells, cells, malformed, unpacked, cell_at, cells_in, is_whole}
use Rattle.unpack.specs.Steps.{fitted, tile_numbers, tile_values, TileGood, Tiled, Rooted, RootGood, Answered}
use Rattle.unpack.specs.declared.rows.Tile.{Tile}
use Rattle.unpack.proofs.TileLaws.{tile_done}
use Rattle.unpack.proofs.ValueLaws.{bits_length, fit_in, fit_out}
use Rattle.unpack.proofs.HeadLaws.{head_means, some_tile}

abbrev number_tests : List ℕ → ℕ → ℕ → List Test
number_tests c rows columns =
    (length (numbers_of c rows columns) ≡? rows * columns - 1) ∷ is (count_right (count_of c) (rows * columns - 1) (numbers_of c rows columns)) ∷ []

module _ (c : List ℕ) (rows columns : ℕ) (short : Bool) where
  abbrev tests : List Test
  tests =
      is (head_right c rows columns)
      ∷ is (tree_right c)
      ∷ is (numbers_right (count_of c) (rows * columns - 1) (numbers_of c rows columns))
      ∷ is (in_range short (values_of c rows columns))
      ∷ []

  is_cells : Holds tests → unpacked c rows columns short ≡ cells (bits_of short (values_of c rows columns))
  unfolding unpacked
  is_cells h = ap (λ (b : Bool). pick b (cells (bits_of short (values_of c rows columns))) malformed) (sym (yes tests h))

  is_not_lem : (Holds tests → ⊥) → unpacked c rows columns short ≡ malformed
  unfolding unpacked
  is_not_lem f = ap (λ (b : Bool). pick b (cells (bits_of short (values_of c rows columns))) malformed) (sym (no tests f))

  module _ (inside : ℕ) (d out : List ℕ) where
    answer_not : (Holds tests → ⊥) → Answered (unpacked c rows columns short) inside d out None
    unfolding cell_at is_whole
    answer_not f = rw (is_not_lem f) (record { cell = refl; is = λ w. not_both w refl })

    pub answer_head : (b : Bool) → b ≡ head_right c rows columns → b ≡ false → Answered (unpacked c rows columns short) inside d out None
    answer_head b e f = answer_not (λ h. not_both h.0 (sym e ∙ f))

    pub answer_root : (nodes : List ℕ) (r : Option ℕ) → Rooted c nodes r → r ≡ None → Answered (unpacked c rows columns short) inside d out None
    unfolding Rooted
    answer_root nodes r e f = answer_not (λ h. not_both h.1.0 (subst (Rooted c nodes) f e))

-- as many cells as the tile has
long : (c : List ℕ) (rows columns : ℕ) → 1 ≤ rows * columns → length (numbers_of c rows columns) ≡ rows * columns - 1 → length (values_of c rows columns) ≡ rows * columns
unfolding values_of tile_cells
long c rows columns h e = rows_length (predictor_of c) columns (no_row columns) rows (seed_of c ∷ numbers_of c rows columns) (omega arith)

-- what fits by their number fits whole
fit_whole : (n : ℕ) (d v : List ℕ) → length v ≡ n → fitted n d 0 v ≡ put d 0 v
fit_whole n d v e =
    by_cases (dec_le n (length d)) (λ h. fit_in n d 0 v h) (λ f. sym (fit_out n d 0 v (omega arith)) ∙ sym (put_not d 0 v (omega arith)))

-- a tile's numbers and cells are the content's

module _ (c : List ℕ) (rows columns : ℕ) (t : Tree) (start : ℕ) (e : tree_in c ≡ got t start) where
  numbers_same : numbers_of c rows columns ≡ tile_numbers (symbols t c) start rows columns
  unfolding numbers_of numbers_in tile_numbers
  numbers_same = rw e

  values_same :
      (p s : ℕ) (above row : List ℕ) → p ≡ byte_at c 1 → s ≡ u32_at c 2 → above ≡ no_row columns → length row ≡ columns → 1 ≤ columns →
      values_of c rows columns ≡ tile_values (symbols t c) p start rows above (set row 0 s)
  unfolding values_of tile_values tile_cells
  values_same p s above row ep es ea er h =
      let l : length (set row 0 s) ≡ columns = length-set row 0 s ∙ er in
      let f : take 1 (set row 0 s) ≡ s ∷ [] = take-suc-set row 0 s (omega arith) in
      rw (l, f, ep, es, ea, numbers_same)

module _ (c nodes : List ℕ) (rows columns : ℕ) (short : Bool) (inside start p s : ℕ) (above row d out : List ℕ) (x : Option Tile) (ep : p ≡ byte_at c 1) (es : s ≡ u32_at c 2)
    (ea : above ≡ no_row columns) (er : length row ≡ columns) (w : 1 ≤ columns) (head : head_right c rows columns ≡ true)
    (o : (t : Tree) → Nodes nodes 0 t → Tiled (symbols t c) p short start rows inside above (set row 0 s) d out x) where
  abbrev Answers : Option ℕ → Type 0
  Answers r = (t : Tree) → Nodes nodes 0 t → tree_in c ≡ got t start → tree_right c ≡ true → Answered (unpacked c rows columns short) inside d out r

  abbrev xs : Tree → List ℕ
  xs t = tile_numbers (symbols t c) start rows (length (set row 0 s))

  numbers_are : (t : Tree) → tree_in c ≡ got t start → xs t ≡ numbers_of c rows columns
  numbers_are t e = ap (tile_numbers (symbols t c) start rows) (length-set row 0 s ∙ er) ∙ sym (numbers_same c rows columns t start e)

  values_are : (t : Tree) → tree_in c ≡ got t start → tile_values (symbols t c) p start rows above (set row 0 s) ≡ values_of c rows columns
  values_are t e = sym (values_same c rows columns t start e p s above row ep es ea er w)

  side : rows * length (set row 0 s) ≡ rows * columns
  side = ap (λ (k : ℕ). rows * k) (length-set row 0 s ∙ er)

  pub answer_bad : x ≡ None → Answers None
  unfolding Tiled numbers_right
  answer_bad f t i e g =
      answer_not c rows columns short inside d out
      (λ h.
      let m = means (number_tests c rows columns) h.1.1.0 in
      let l : length (xs t) ≡ rows * length (set row 0 s) - 1 = ap length (numbers_are t e) ∙ m.0 ∙ ap (λ (k : ℕ). k - 1) (sym side) in
      subst (λ (y : Option Tile). Tiled (symbols t c) p short start rows inside above (set row 0 s) d out y) f (o t i) l (ap (in_range short) (values_are t e) ∙ h.1.1.1.0))

  module _ (n v count m : ℕ) (b : Bool) (f : x ≡ tile_done n v) (ec : count ≡ u32_at c 6) (em : m ≡ rows * columns - 1)
      (eb : (ys : List ℕ) → n ≡ length (codes ys) → b ≡ count_right count m ys) where
    good : (t : Tree) → Nodes nodes 0 t → TileGood (symbols t c) p short start rows inside above (set row 0 s) d out n v
    unfolding Tiled
    good t i = subst (λ (y : Option Tile). Tiled (symbols t c) p short start rows inside above (set row 0 s) d out y) f (o t i)

    counts : (t : Tree) → Nodes nodes 0 t → tree_in c ≡ got t start → b ≡ count_right (count_of c) (rows * columns - 1) (numbers_of c rows columns)
    counts t i e =
        eb (numbers_of c rows columns) ((good t i).bytes ∙ ap (λ (l : List ℕ). length (codes l)) (numbers_are t e))
        ∙ ap₂ (λ (j k : ℕ). count_right j k (numbers_of c rows columns)) ec em

    pub answer_count : b ≡ false → Answers None
    unfolding numbers_right
    answer_count g t i e k =
        answer_not c rows columns short inside d out
        (λ h.
        let q = means (number_tests c rows columns) h.1.1.0 in
        not_both q.1.0 (sym (counts t i e) ∙ g))

    pub answer_good : b ≡ true → Answers (Some v)
    unfolding numbers_right cell_at cells_in is_whole
    answer_good g t i e k =
        let q : numbers_right (count_of c) (rows * columns - 1) (numbers_of c rows columns) ≡ true =
        sym (yes (number_tests c rows columns)
        (ap length (sym (numbers_are t e)) ∙ (good t i).full ∙ ap (λ (j : ℕ). j - 1) side, (sym (counts t i e) ∙ g, tt))) in
        let values_long : length (values_of c rows columns) ≡ rows * columns =
        long c rows columns (some_tile rows columns (head_means c rows columns head).0 w)
        (ap length (sym (numbers_are t e)) ∙ (good t i).full ∙ ap (λ (j : ℕ). j - 1) side) in
        rw (is_cells c rows columns short (head, (k, (q, (ap (in_range short) (sym (values_are t e)) ∙ (good t i).range, tt)))))
        (record {
          cell = ap Some ((good t i).value ∙ ap (λ (l : List ℕ). get_or (bits_of short l) inside 0) (values_are t e));
          is = λ z. (good t i).is ∙ ap₂ (λ (j : ℕ) (l : List ℕ). fitted j d 0 (bits_of short l)) side (values_are t e) ∙ fit_whole (rows * columns) d (bits_of short (values_of c rows columns)) (bits_length short (values_of c rows columns) ∙ values_long);
        })

-- a whole content

pub answer_tile_lem :
    (c : List ℕ) (rows columns : ℕ) (short : Bool) (inside : ℕ) (d out nodes : List ℕ) (r : Option ℕ) (start k : ℕ) (x : Option ℕ) →
    Rooted c nodes r → r ≡ Some start → k ≡ columns →
    ((t : Tree) → Nodes nodes 0 t → tree_in c ≡ got t start → tree_right c ≡ true → Answered (unpacked c rows k short) inside d out x) →
    Answered (unpacked c rows columns short) inside d out x
unfolding Rooted
answer_tile_lem c rows columns short inside d out nodes r start k x e f g o =
    let h : RootGood c nodes start = subst (Rooted c nodes) f e in
    subst (λ (j : ℕ). Answered (unpacked c rows j short) inside d out x) g (o h.tree h.laid h.is h.right)

-- the part of 4,096 zeros that a row takes
pub cut_long : (w : ℕ) → w ≤ 4096 → length (take w (no_row 4096)) ≡ w
cut_long w h = length-take-le w (no_row 4096) h

-- a cell is answered of a whole content
pub some_whole : (x : Cells) (i : ℕ) → is_some (cell_at x i) ≡ is_whole x
unfolding cell_at is_whole
some_whole (cells vs) i = refl
some_whole malformed i = refl

-- and of any other there are no cells to write
pub none_written : (x : Cells) (d : List ℕ) → is_whole x ≡ false → d ≡ put d 0 (cells_in x)
unfolding cells_in is_whole
none_written (cells vs) d w = absurd (let z : ◌≡◌ {A = ℕ} 0 1 = cc in omega arith)
none_written malformed d w = sym (put_nil d 0)

-- for those who hold the cells: there are as many as the tile has, and each is the one that is answered by itself

pub whole_long :
    (c : List ℕ) (rows columns : ℕ) (short : Bool) → is_whole (unpacked c rows columns short) ≡ true → length (cells_in (unpacked c rows columns short)) ≡ rows * columns
unfolding unpacked is_whole cells_in numbers_right
whole_long c rows columns short = go (passes (tests c rows columns short)) refl
  where
    go :
        (b : Bool) → passes (tests c rows columns short) ≡ b → is_whole (pick b (cells (bits_of short (values_of c rows columns))) malformed) ≡ true →
        length (cells_in (pick b (cells (bits_of short (values_of c rows columns))) malformed)) ≡ rows * columns
    go true e w =
        let h = means (tests c rows columns short) e in
        let s = head_means c rows columns h.0 in
        let m = means (number_tests c rows columns) h.1.1.0 in
        bits_length short (values_of c rows columns) ∙ long c rows columns (some_tile rows columns s.0 s.1.1.0) m.0
    go false e w = not_both w refl

pub taken_cell : (x : Cells) (i v : ℕ) → cell_at x i ≡ Some v → get_or (cells_in x) i 0 ≡ v
unfolding cell_at cells_in
taken_cell (cells vs) i v e = cc
taken_cell malformed i v e = let z : ◌≡◌ {A = ℕ} 0 1 = cc in absurd (omega arith)

pub whole_cell : (x : Cells) (i : ℕ) → is_whole x ≡ true → cell_at x i ≡ Some (get_or (cells_in x) i 0)
unfolding is_whole cell_at cells_in
whole_cell (cells vs) i w = refl
whole_cell malformed i w = not_both w refl

-- and each has the bits of its type, 16 of a Short, else 32

map_small : (n : ℕ) → 0 < n → (f : ℕ → ℕ) (l : List ℕ) → ((j : ℕ) → f (get_or l j 0) < n) → (i : ℕ) → get_or (map f l) i 0 < n
map_small n h f [] g i = h
map_small n h f (x ∷ xs) g zero = g 0
map_small n h f (x ∷ xs) g (suc i) = map_small n h f xs (λ j. g (suc j)) i

pub bits_small : (c : List ℕ) (rows columns : ℕ) (short : Bool) (i : ℕ) → get_or (cells_in (unpacked c rows columns short)) i 0 < pick short 65536 4294967296
unfolding unpacked cells_in bits_of bits_of_cell values_of
bits_small c rows columns short i = go (passes (tests c rows columns short)) short
  where
    ds : List ℕ
    ds = seed_of c ∷ numbers_of c rows columns

    go : (b t : Bool) → get_or (cells_in (pick b (cells (map (bits_of_cell t) (tile_cells (predictor_of c) rows columns ds))) malformed)) i 0 < pick t 65536 4294967296
    go false true = omega arith
    go false false = omega arith
    go true true = map_small 65536 (omega arith) (bits_of_cell true) (tile_cells (predictor_of c) rows columns ds) (λ j. mod-lt _ (omega arith)) i
    go true false = map_small 4294967296 (omega arith) (bits_of_cell false) (tile_cells (predictor_of c) rows columns ds) (cell_small (predictor_of c) rows columns ds) i
