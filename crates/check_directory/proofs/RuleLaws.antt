-- The tile directory, whole: the ways out of its rule. Assumes nothing.
use Prim.Native.Nat.{ℕ}
use mathlib.Core.Path.{◌≡◌, refl, sym, ◌∙◌}
use mathlib.Core.List.{List}
use mathlib.Core.Bool.{Bool, true, false, not}
use lib.ListN.{length}
use borrow.Author.Tests.{eq-eqb, ne_eqb, not-true}
use Rattle.wire.proofs.TestLaws.{yes, no, not_both}
use Rattle.header.specs.Fields.{tile_directory_reference}
use Rattle.record.specs.Chain.{records_of}
use Rattle.wire.specs.Lists.{count_below}
use Rattle.check_directory.specs.References.{refers_to, no_other}
use Rattle.record.specs.Record.{padded}
use Rattle.check_directory.specs.TileRules.{form_right, rectangle_right, gives, tiles_listed, tile_directory_right}
use Rattle.bodies.specs.TileDirectory.{tile_directory_at, reference_count, references_end}
use Rattle.check_directory.proofs.OnlyLaws.{only_is}

-- what an answer tells of the rule that it is equal to, where the code asks for its opposite
pub not_told : {r b : Bool} → r ≡ b → not r ≡ true → b ≡ false
not_told p e = sym p ∙ not-true _ e

pub is_told : {r b : Bool} → r ≡ b → not r ≡ false → b ≡ true
is_told {r} p e = sym p ∙ go r e
  where
    go : (x : Bool) → not x ≡ false → x ≡ true
    go true h = refl
    go false h = not_both refl h

module _ (s : List ℕ) (r : ℕ) (a b : Bool) (p : r ≡ tile_directory_reference s) (q : a ≡ refers_to s 5 r) where
  pub no_reference : not a ≡ true → false ≡ tile_directory_right s
  unfolding tile_directory_right
  no_reference e = no _ (λ y. not_both y.0 (rw (← p) (not_told q e)))

  module _ (t : b ≡ no_other s 5 r) where
    pub one_other : not b ≡ true → false ≡ tile_directory_right s
    unfolding tile_directory_right
    one_other e = no _ (λ y. not_both y.1.0 (rw (← p) (not_told t e)))

    pub all_right :
        (c d e f : Bool) (g m : ℕ) → not a ≡ false → not b ≡ false → c ≡ form_right s → not c ≡ false → d ≡ rectangle_right s → not d ≡ false →
        e ≡ padded s (tile_directory_at s) (references_end s) → not e ≡ false → f ≡ tiles_listed s → not f ≡ false →
        g ≡ count_below (reference_count s) (gives s) → m ≡ length (records_of s 2) → g ≡ m → true ≡ tile_directory_right s
    unfolding tile_directory_right
    all_right c d e f g m a1 b1 c2 c1 d2 d1 e2 e1 f2 f1 i j k =
        let u = is_told d2 d1 in
        let v = is_told f2 f1 in
        yes _
        (rw (← p) (is_told q a1), (rw (← p) (is_told t b1), (is_told c2 c1, (u, (is_told e2 e1, (v, (sym (only_is s u v) ∙ eq-eqb _ _ (sym i ∙ k ∙ j), tt)))))))

module _ (s : List ℕ) (b : Bool) (e : not b ≡ true) where
  pub no_form : b ≡ form_right s → false ≡ tile_directory_right s
  unfolding tile_directory_right
  no_form q = no _ (λ y. not_both y.1.1.0 (not_told q e))

  pub no_rectangle : b ≡ rectangle_right s → false ≡ tile_directory_right s
  unfolding tile_directory_right
  no_rectangle q = no _ (λ y. not_both y.1.1.1.0 (not_told q e))

  pub no_room : b ≡ padded s (tile_directory_at s) (references_end s) → false ≡ tile_directory_right s
  unfolding tile_directory_right
  no_room q = no _ (λ y. not_both y.1.1.1.1.0 (not_told q e))

  pub one_unlisted : b ≡ tiles_listed s → false ≡ tile_directory_right s
  unfolding tile_directory_right
  one_unlisted q = no _ (λ y. not_both y.1.1.1.1.1.0 (not_told q e))

pub one_more_lem :
    (s : List ℕ) (g m : ℕ) → g ≡ count_below (reference_count s) (gives s) → m ≡ length (records_of s 2) → (g ≡ m → ⊥) →
    false ≡ tile_directory_right s
unfolding tile_directory_right
one_more_lem s g m i j k =
    no _
    (λ y.
    not_both y.1.1.1.1.1.1.0
    (sym (only_is s y.1.1.1.0 y.1.1.1.1.1.0) ∙ ne_eqb _ _ (λ z. k (i ∙ z ∙ sym j))))
