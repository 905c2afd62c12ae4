-- Two pages: whether they are alike, and what is said of them. Assumes nothing.
use Rattle.std.specs.Prelude.{Err, Ok, Result, ⊤}
use Prim.Native.Nat.{ℕ, ◌+◌, ◌<◌}
use mathlib.Core.Path.{◌≡◌, refl, sym, ◌∙◌}
use mathlib.Core.List.{List, [], ◌∷◌}
use mathlib.Core.Bool.{Bool, true, false}
use native.Mathlib.Omega.{arith}
use lib.ListN.{length}
use lib.Dec.{eqb}
use borrow.Author.Tests.{eqb-true, eq-eqb, ne_eqb}
use Rattle.wire.specs.Bytes.{put}
use Rattle.wire.specs.Tests.{Test, ◌≡?◌, is, all_below}
use Rattle.wire.proofs.TestLaws.{means, yes, no_true, either_way, below_more, below_each, below_not, below_all}
use Rattle.wire.proofs.PutLaws.{put_nil}
use Rattle.answer.specs.declared.Refusal.{Refusal}
use Rattle.answer.specs.Refusals.{unless_refused}
use Rattle.store.specs.Face.{grid_rows, grid_columns, tile_rows, tile_columns, element_count, element, check, meaning, SameGrid}
use Rattle.row_lists.specs.Entries.{count_in}
use Rattle.comparisons.specs.declared.Comparison.{Comparison}
use Rattle.comparisons.specs.declared.Comparison.TheVariants.{Count, First, Second, Unlike}
use Rattle.comparisons.specs.declared.Halt.{Halt}
use Rattle.comparisons.specs.declared.Halt.TheVariants as halt
use Rattle.comparisons.specs.Comparisons.{alike, differ_at, halt_in, unless_halted, compared_in, compared_pages, comparison, written}
use Rattle.comparisons.specs.Sound.{EqualShape}

-- the types of the elements

abbrev pub kind_alike : List ℕ → List ℕ → ℕ → Bool
kind_alike s t e = eqb (element s e).kind (element t e).kind

module _ (s t : List ℕ) where
  pub kinds_not : (n e a b : ℕ) → e < n → a ≡ (element s e).kind → b ≡ (element t e).kind → (a ≡ b → ⊥) → false ≡ all_below n (kind_alike s t)
  kinds_not n e a b h p q f = below_not n (kind_alike s t) e h (ne_eqb (element s e).kind (element t e).kind (λ z. f (p ∙ z ∙ sym q)))

  pub kinds_more : (e a b : ℕ) → a ≡ (element s e).kind → b ≡ (element t e).kind → a ≡ b → all_below e (kind_alike s t) ≡ true → all_below (e + 1) (kind_alike s t) ≡ true
  kinds_more e a b p q z g = below_more e (kind_alike s t) g (eq-eqb (element s e).kind (element t e).kind (sym p ∙ z ∙ q))

  -- whether two pages are alike
  abbrev shape_tests : List Test
  shape_tests =
      (grid_rows s ≡? grid_rows t) ∷ (grid_columns s ≡? grid_columns t) ∷ (tile_rows s ≡? tile_rows t) ∷ (tile_columns s ≡? tile_columns t)
      ∷ (element_count s ≡? element_count t) ∷ is (all_below (element_count s) (kind_alike s t)) ∷ []

  pub alike_means : alike s t ≡ true → EqualShape s t
  unfolding alike
  alike_means e =
      let h = means shape_tests e in
      record {
        rows = h.0;
        columns = h.1.0;
        tile_rows_lem = h.1.1.0;
        tile_columns_lem = h.1.1.1.0;
        elements = h.1.1.1.1.0;
        types = λ i k. eqb-true (element s i).kind (element t i).kind (below_each (element_count s) (kind_alike s t) h.1.1.1.1.1.0 i k);
      }

  pub shape_grid : EqualShape s t → SameGrid s t
  shape_grid h = record { rows = h.rows; columns = h.columns; tile_rows_lem = h.tile_rows_lem; tile_columns_lem = h.tile_columns_lem }

  pub means_alike : EqualShape s t → true ≡ alike s t
  unfolding alike
  means_alike h =
      yes shape_tests (
        h.rows,
        (
          h.columns,
          (
            h.tile_rows_lem,
            (
              h.tile_columns_lem,
              (
                h.elements,
                (below_all (element_count s) (kind_alike s t) (λ i k. eq-eqb (element s i).kind (element t i).kind (h.types i k)), tt),
              ),
            ),
          ),
        ),
      )

  pub not_alike : (EqualShape s t → ⊥) → false ≡ alike s t
  not_alike f = no_true (alike s t) (λ e. f (alike_means e))

  -- where the types alone are left
  pub alike_kinds :
      (n : ℕ) (r : Bool) → r ≡ all_below n (kind_alike s t) → n ≡ element_count s → grid_rows s ≡ grid_rows t → grid_columns s ≡ grid_columns t → tile_rows s ≡ tile_rows t →
      tile_columns s ≡ tile_columns t → element_count s ≡ element_count t → r ≡ alike s t
  unfolding alike
  alike_kinds n r e z a b c d f =
      let k : r ≡ all_below (element_count s) (kind_alike s t) = rw z at e in
      either_way shape_tests r
      (λ h. (a, (b, (c, (d, (f, (sym k ∙ h, tt))))))) (λ h y. let x : false ≡ true = sym h ∙ k ∙ y.1.1.1.1.1.0 in let w : ◌≡◌ {A = ℕ} 0 1 = cc in omega arith)

-- what is said of two pages: one refused, or unlike, or compared

module _ (s : List ℕ) (k : ℕ) (t : List ℕ) (j : ℕ) (v : Result ⊤ Refusal) (p : v ≡ check s) where
  pub compared_first : (r : Refusal) → v ≡ Err r → First r ≡ comparison s k t j
  unfolding comparison unless_refused
  compared_first r e = rw (← p, e)

  module _ (a : v ≡ Ok tt) (w : Result ⊤ Refusal) (q : w ≡ check t) where
    pub compared_second : (r : Refusal) → w ≡ Err r → Second r ≡ comparison s k t j
    unfolding comparison unless_refused
    compared_second r e = rw (← p, a, ← q, e)

    module _ (b : w ≡ Ok tt) (c : Bool) (o : c ≡ alike s t) where
      pub compared_unlike : c ≡ false → Unlike ≡ comparison s k t j
      unfolding comparison unless_refused
      compared_unlike e = rw (← p, a, ← q, b, ← o, e)

      pub compared_alike : (x : Comparison) → c ≡ true → x ≡ compared_pages s k t j → x ≡ comparison s k t j
      unfolding comparison unless_refused
      compared_alike x e f = f ∙ rw (← p, a, ← q, b, ← o, e)

-- nothing is written of a refused call
pub none_written : (x y : Comparison) (l : List ℕ) → x ≡ y → (x ≡ y) × (l ≡ put l 0 [])
none_written x y l e = (e, sym (put_nil l 0))

pub unwritten :
    (s : List ℕ) (k : ℕ) (t : List ℕ) (j : ℕ) (x y : Comparison) (l : List ℕ) → x ≡ y → ((room : ℕ) → written s k t j room y ≡ []) → l ≡ put l 0 (written s k t j (length l) x)
unwritten s k t j x y l e f = rw (e, f (length l)) (sym (put_nil l 0))

-- the first refusal of two pages, and how many cells differ

abbrev pub halt_of : List ℕ → ℕ → List ℕ → ℕ → Halt
halt_of s k t j = halt_in (meaning s k) (meaning t j) (element_count s) 0 (grid_rows s) 0 (grid_columns s)

abbrev pub count_of : List ℕ → ℕ → List ℕ → ℕ → ℕ
count_of s k t j = count_in (differ_at (meaning s k) (meaning t j)) (element_count s) 0 (grid_rows s) 0 (grid_columns s)

-- an answer that is a number: nothing is refused, and it is the number of differing cells
unhalted : (h : Halt) (m n : ℕ) → unless_halted h (Count m) ≡ Count n → (h ≡ halt.None) × (n ≡ m)
unfolding unless_halted
unhalted halt.None m n e = (refl, cc)
unhalted (halt.First r) m n e = let z : ◌≡◌ {A = ℕ} 0 1 = cc in absurd (omega arith)
unhalted (halt.Second r) m n e = let z : ◌≡◌ {A = ℕ} 0 1 = cc in absurd (omega arith)

pub counted_pages :
    (s : List ℕ) (k : ℕ) (t : List ℕ) (j n : ℕ) → compared_pages s k t j ≡ Count n →
    (halt_of s k t j ≡ halt.None) × (n ≡ count_of s k t j)
unfolding compared_pages compared_in
counted_pages s k t j n e = unhalted _ _ n e
