-- Functions that ask one test behind the other. Assumes nothing.
use Rattle.std.specs.Prelude.{Ok, Result, ⊤}
use Rattle.answer.specs.declared.Refusal.{Refusal}
use Prim.Native.Nat.{ℕ}
use mathlib.Core.Path.{◌≡◌, sym, ◌∙◌}
use mathlib.Core.List.{List, [], ◌∷◌}
use mathlib.Core.Bool.{Bool, true, false}
use Rattle.wire.specs.Tests.{Test, ◌≡?◌, is, passes}
use Rattle.wire.proofs.TestLaws.{yes, no, not_both, either_way}
use Rattle.answer.specs.Refusals.{verdict_number}
use Rattle.header.specs.Fields.{file_space_reference}
use Rattle.geometry.specs.Tiles.{tiles_across, tiles_down}
use Rattle.bodies.specs.TileDirectory.{tile_directory_at, listed_rows, listed_columns}
use Rattle.check_directory.specs.References.{no_other}
use Rattle.page_check.specs.Stages.{check_records}
use Rattle.writable.specs.Writable.{is_opened, records_right, directory_full, no_file_space}

-- a rule that is asked first: what is behind it decides where it holds

module _ (a b : Bool) (p : a ≡ b) (l : List Test) where
  pub first_not : a ≡ false → false ≡ passes (is b ∷ l)
  unfolding passes
  first_not e = rw (← p, e)

  pub first_holds : a ≡ true → (r : Bool) → r ≡ passes l → r ≡ passes (is b ∷ l)
  unfolding passes
  first_holds e r q = rw (← p, e) q

pub last_is : (a b : Bool) → a ≡ b → a ≡ passes (is b ∷ [])
unfolding passes
last_is a true p = p
last_is a false p = p

pub ruleset asked = (first_not, first_holds, last_is)

-- numbers of verdicts

module _ (v w : Result ⊤ Refusal) (p : v ≡ w) (n : ℕ) (q : n ≡ verdict_number v) where
  pub opened_not : (n ≡ 5 → ⊥) → false ≡ is_opened w
  unfolding is_opened
  opened_not h = no _ (λ y. h (q ∙ rw p y.0))

  pub opened_is : n ≡ 5 → true ≡ is_opened w
  unfolding is_opened
  opened_is h = yes _ (rw (← p) (sym q ∙ h), tt)

module _ (s : List ℕ) (v : Result ⊤ Refusal) (p : v ≡ check_records s (Ok tt)) (n : ℕ) (q : n ≡ verdict_number v) where
  pub records_not : (n ≡ 0 → ⊥) → false ≡ records_right s
  unfolding records_right
  records_not h = no _ (λ y. h (q ∙ rw p y.0))

  pub records_is : n ≡ 0 → true ≡ records_right s
  unfolding records_right
  records_is h = yes _ (rw (← p) (sym q ∙ h), tt)

-- the tile directory's sides

module _ (s : List ℕ) (at rows down : ℕ) (p : at ≡ tile_directory_at s) (q : rows ≡ listed_rows s at) (t : down ≡ tiles_down s) where
  pub rows_not : (rows ≡ down → ⊥) → false ≡ directory_full s
  unfolding directory_full
  rows_not h = no _ (λ y. h (q ∙ rw p y.0 ∙ sym t))

  module _ (h : rows ≡ down) (columns across : ℕ) (u : columns ≡ listed_columns s at) (v : across ≡ tiles_across s) where
    pub columns_not : (columns ≡ across → ⊥) → false ≡ directory_full s
    unfolding directory_full
    columns_not k = no _ (λ y. k (u ∙ rw p y.1.0 ∙ sym v))

    pub full_is : columns ≡ across → true ≡ directory_full s
    unfolding directory_full
    full_is k = yes _ (rw (← p) (sym q ∙ h ∙ t), (rw (← p) (sym u ∙ k ∙ v), tt))

-- the file-space directory

module _ (s : List ℕ) (r : ℕ) (p : r ≡ file_space_reference s) where
  pub referred_not : (r ≡ 0 → ⊥) → false ≡ no_file_space s
  unfolding no_file_space
  referred_not h = no _ (λ y. h (p ∙ y.0))

  pub space_none : r ≡ 0 → (b : Bool) → b ≡ no_other s 3 0 → b ≡ no_file_space s
  unfolding no_file_space
  space_none h b q = either_way _ b (λ z. (sym p ∙ h, (sym q ∙ z, tt))) (λ z y. not_both y.1.0 (sym q ∙ z))

-- two types

module _ (a b : ℕ) where
  pub last_used : (a ≡ 0 → ⊥) → false ≡ passes ((a ≡? 0) ∷ (b ≡? 0) ∷ [])
  last_used h = no _ (λ y. h y.0)

  pub next_used : (b ≡ 0 → ⊥) → false ≡ passes ((a ≡? 0) ∷ (b ≡? 0) ∷ [])
  next_used h = no _ (λ y. h y.1.0)

  pub two_free : a ≡ 0 → b ≡ 0 → true ≡ passes ((a ≡? 0) ∷ (b ≡? 0) ∷ [])
  two_free h k = yes _ (h, (k, tt))
