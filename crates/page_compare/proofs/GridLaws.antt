-- Two pages compared in a rectangle that is the whole grid. Assumes nothing.
use Rattle.std.specs.Prelude.{Ok}
use Prim.Native.Nat.{ℕ, ◌+◌}
use mathlib.Core.Path.{◌≡◌, refl, sym, ap₂, ◌∙◌}
use mathlib.Core.List.{List}
use mathlib.Core.Bool.{true}
use mathlib.Core.Logic.{◌⊎◌, ⊎_elim}
use native.Mathlib.Omega.{arith}
use lib.ListN.{length}
use Rattle.wire.specs.Bytes.{put}
use Rattle.wire.proofs.CountLaws.{count_same}
use Rattle.wire.proofs.PutLaws.{put_nil}
use Rattle.answer.specs.declared.Refusal.{Refusal}
use Rattle.store.specs.declared.many.Rectangle.{Rectangle}
use Rattle.store.specs.Face.{grid_rows, grid_columns, element_count, cell_tile, cell_inside, check, meaning, whole_grid}
use Rattle.store.proofs.PieceLaws.{elements_accepted, accepts_grid, accepts_same}
use Rattle.blocks.proofs.FoldLaws.{fold_same}
use Rattle.blocks.proofs.InsideLaws.{inside_same}
use Rattle.row_lists.specs.Entries.{differing_in, count_in, listed}
use Rattle.row_lists.proofs.EntryLaws.{swapped_same}
use Rattle.row_lists.proofs.ListedLaws.{same_tiling}
use Rattle.comparisons.specs.declared.Comparison.{Comparison}
use Rattle.comparisons.specs.declared.Comparison.TheVariants.{Count, First, Second, Unlike}
use Rattle.comparisons.specs.declared.Halt.{Halt}
use Rattle.comparisons.specs.declared.Halt.TheVariants as halt
use Rattle.comparisons.specs.Comparisons.{alike, differ_at, join_halt, halt_at, halt_in, unless_halted, compared_in, compared_pages, differing_cells, tiling_of, written}
use Rattle.comparisons.proofs.PageLaws.{alike_means, shape_grid, halt_of, count_of, counted_pages}
use Rattle.page_compare.specs.declared.Pair.{Pair}
use Rattle.page_compare.specs.Sides.{area_cells, area_differ, area_tiling, area_halt, area_halt_in, area_compared, Both}

-- the whole grid as a rectangle

module _ (s t : List ℕ) (k j : ℕ) where
  abbrev pair_of : Pair
  pair_of = record { first = k; second = j; elements = element_count s }

  pages_both : check s ≡ Ok tt → check t ≡ Ok tt → alike s t ≡ true → Both s t pair_of (whole_grid s)
  pages_both a b e =
      let h = alike_means s t e in
      let g = shape_grid s t h in
      record {
        first = accepts_grid s a;
        second = accepts_same s t g (whole_grid s) refl b (accepts_grid s a);
        grid = g;
        elements = (refl, h.elements);
        few = (elements_accepted s a).1;
      }

  grid_cells : (u : List ℕ) (i r c e : ℕ) → area_cells u i (whole_grid s) r c e ≡ meaning u i r c e
  unfolding area_cells
  grid_cells u i r c e =
      let x : 0 + r ≡ r = omega arith in
      let y : 0 + c ≡ c = omega arith in
      rw (x, y)

  grid_differ : (r c e : ℕ) → area_differ s t pair_of (whole_grid s) r c e ≡ differ_at (meaning s k) (meaning t j) r c e
  unfolding area_differ differ_at
  grid_differ r c e = rw (grid_cells s k r c e, grid_cells t j r c e)

  grid_list : differing_in (area_differ s t pair_of (whole_grid s)) (element_count s) 0 (grid_rows s) 0 (grid_columns s) ≡ differing_cells s k t j
  unfolding differing_cells
  grid_list =
      swapped_same (area_differ s t pair_of (whole_grid s)) (differ_at (meaning s k) (meaning t j)) (element_count s) (grid_rows s) (grid_columns s) (λ r c e h i l. grid_differ r c e)

  grid_tiling : area_tiling s (whole_grid s) ≡ tiling_of s
  unfolding area_tiling tiling_of
  grid_tiling = same_tiling (area_tiling s (whole_grid s)) (tiling_of s) (from_first (cell_tile s)) (from_first (cell_inside s))
    where
      from_first : (f : ℕ → ℕ → ℕ) (r c : ℕ) → f (0 + r) (0 + c) ≡ f r c
      from_first f r c =
          let x : 0 + r ≡ r = omega arith in
          let y : 0 + c ≡ c = omega arith in
          rw (x, y)

  grid_halts : area_halt_in s t pair_of (whole_grid s) 0 (grid_rows s) 0 (grid_columns s) ≡ halt_of s k t j
  unfolding area_halt_in halt_in area_halt halt_at
  grid_halts =
      inside_same join_halt halt.None 0 (grid_rows s) 0 (grid_columns s) _ _
      (λ r c h. fold_same join_halt halt.None (element_count s) _ _ (λ e i. rw (grid_cells s k r c e, grid_cells t j r c e)))

  grid_counts :
      count_in (area_differ s t pair_of (whole_grid s)) (element_count s) 0 (grid_rows s) 0 (grid_columns s)
      ≡ count_of s k t j
  unfolding count_in
  grid_counts = inside_same ◌+◌ 0 0 (grid_rows s) 0 (grid_columns s) _ _ (λ r c h. count_same (element_count s) _ _ (λ e i. grid_differ r c e))

  grid_compared : area_compared s t pair_of (whole_grid s) ≡ compared_pages s k t j
  unfolding area_compared compared_pages compared_in
  grid_compared = ap₂ (λ (h : Halt) (n : ℕ). unless_halted h (Count n)) grid_halts grid_counts

-- where it is known what is said of two pages, which `Unlike` never is
module _ (x y : Comparison) (e : (x ≡ Unlike) ⊎ (x ≡ y)) where
  pub known_count : (m : ℕ) → x ≡ Count m → x ≡ y
  known_count m f = ⊎_elim (λ h. let z : ◌≡◌ {A = ℕ} 0 1 = cc in absurd (omega arith)) (λ h. h) e

  pub known_first : (r : Refusal) → x ≡ First r → x ≡ y
  known_first r f = ⊎_elim (λ h. let z : ◌≡◌ {A = ℕ} 0 1 = cc in absurd (omega arith)) (λ h. h) e

  pub known_second : (r : Refusal) → x ≡ Second r → x ≡ y
  known_second r f = ⊎_elim (λ h. let z : ◌≡◌ {A = ℕ} 0 1 = cc in absurd (omega arith)) (λ h. h) e

-- as the functions below name it: sides and number of elements as they were read
module _ (s t : List ℕ) (k j rows columns n : ℕ) (p : rows ≡ grid_rows s) (q : columns ≡ grid_columns s) (z : n ≡ element_count s) where
  abbrev both : Pair
  both = record { first = k; second = j; elements = n }

  abbrev area : Rectangle
  area = record { e = 0; row = 0; column = 0; rows = rows; columns = columns }

  pub grid_both : check s ≡ Ok tt → check t ≡ Ok tt → alike s t ≡ true → Both s t both area
  grid_both a b e = rw (p, q, z) (pages_both s t k j a b e)

  pub area_says : (x : Comparison) → x ≡ area_compared s t both area → x ≡ compared_pages s k t j
  area_says x e = e ∙ rw (p, q, z) (grid_compared s t k j)

  module _ (x : Comparison) (e : x ≡ compared_pages s k t j) (m : ℕ) (f : x ≡ Count m) where
    pub area_read : area_halt_in s t both area 0 rows 0 columns ≡ halt.None
    area_read = rw (p, q, z) (grid_halts s t k j ∙ (counted_pages s k t j m (sym e ∙ f)).0)

    pub area_total : m ≡ count_in (area_differ s t both area) n 0 rows 0 columns
    area_total = (counted_pages s k t j m (sym e ∙ f)).1 ∙ rw (p, q, z) (sym (grid_counts s t k j))

    pub area_written :
        (old now : List ℕ) → now ≡ put old 0 (listed (area_tiling s area) (length old) (differing_in (area_differ s t both area) n 0 rows 0 columns)) →
        now ≡ put old 0 (written s k t j (length old) x)
    area_written old now g =
        let l : differing_in (area_differ s t both area) n 0 rows 0 columns ≡ differing_cells s k t j = rw (p, q, z) (grid_list s t k j) in
        let v : area_tiling s area ≡ tiling_of s = rw (p, q) (grid_tiling s t k j) in
        g ∙ rw (l, v, f)

-- counted first, listed then
pub listed_then :
    (s : List ℕ) (k : ℕ) (t : List ℕ) (j : ℕ) (x y : Comparison) (l m n : List ℕ) → x ≡ compared_pages s k t j → y ≡ compared_pages s k t j →
    m ≡ put l 0 (written s k t j (length l) Unlike) → n ≡ put m 0 (written s k t j (length m) x) → n ≡ put l 0 (written s k t j (length l) y)
listed_then s k t j x y l m n e f g h =
    let z : m ≡ l = g ∙ put_nil l 0 in
    let w : x ≡ y = e ∙ sym f in
    h ∙ rw (z, w)
