-- Stage 9: a reference and the tile record that it is of. Assumes nothing.
use Prim.Native.Nat.{ℕ, ◌+◌, ◌-◌, ◌*◌, ◌/◌, ◌%◌, ◌≤◌, ◌<◌}
use mathlib.Core.Path.{◌≡◌, refl, sym, ◌∙◌}
use mathlib.Core.List.{List, [], ◌∷◌}
use mathlib.Core.Bool.{Bool, true, false}
use native.Mathlib.Omega.{arith}
use borrow.Author.Tests.{eqb-true, eq-eqb, ne_eqb}
use Rattle.wire.specs.Bytes.{u32_at}
use Rattle.wire.specs.Tests.{◌≡?◌}
use Rattle.wire.proofs.TestLaws.{means, yes, not_both}
use Rattle.wire.proofs.ListLaws.{some_member, member_some}
use Rattle.record.specs.Record.{content_at}
use Rattle.record.specs.Chain.{records_of}
use Rattle.record.specs.Types.{tile_type}
use Rattle.geometry.specs.Tiles.{tiles_across, tile_count}
use Rattle.bodies.specs.TileRecord.{tile_index}
use Rattle.bodies.specs.TileDirectory.{tile_directory_at, first_row, first_column, listed_columns, number_of, tile_reference}
use Rattle.check_directory.specs.References.{refers_to}
use Rattle.check_directory.specs.TileRules.{gives_tile}
use Rattle.reasons.specs.declared.Fault.{Fault}
use Rattle.reasons.specs.Rows.{first_failing, rows_below, Reason}
use Rattle.reasons.proofs.ReasonLaws.{below_stop}
use Rattle.explain.specs.DirectoryRows.{number_in, given_right, given_rows}
use Rattle.std.specs.Prelude.{Ok, Err}

pub number_told :
    (s : List ℕ) (i at a q m f g d e w : ℕ) → at ≡ tile_directory_at s → a ≡ tiles_across s → q ≡ i / a → m ≡ i % a → f ≡ first_row s at →
    d ≡ q - f → g ≡ first_column s at → e ≡ m - g → w ≡ listed_columns s at → d * w + e ≡ number_in s i
unfolding number_in number_of
number_told s i at a q m f g d e w p r t u x y z v c = rw (y, v, t, u, x, z, c, r, p)

gives_of : (s : List ℕ) (i : ℕ) → gives_tile s i ≡ true → (refers_to s tile_type (tile_reference s i) ≡ true) × (tile_index s (tile_reference s i - 8) ≡ i)
unfolding gives_tile refers_to
gives_of s i e =
    some_member _ _ (records_of s tile_type) e
    (λ x m q.
    let h = means ((content_at x ≡? tile_reference s i) ∷ (tile_index s x ≡? i) ∷ []) q in
    let z : tile_reference s i - 8 ≡ x = omega (arith, h.0) in
    (member_some _ (records_of s tile_type) m (eq-eqb _ _ h.0), rw z h.1.0))

of_gives : (s : List ℕ) (i : ℕ) → refers_to s tile_type (tile_reference s i) ≡ true → tile_index s (tile_reference s i - 8) ≡ i → gives_tile s i ≡ true
unfolding gives_tile refers_to
of_gives s i e j =
    some_member _ _ (records_of s tile_type) e
    (λ x m q.
    let z = eqb-true (x + 8) (tile_reference s i) q in
    let y : tile_reference s i - 8 ≡ x = omega (arith, z) in
    member_some _ (records_of s tile_type) m (sym (yes _ (z, (rw (← y) j, tt)))))

module _ (s : List ℕ) (i r : ℕ) (p : r ≡ tile_reference s i) where
  pub given_zero : r ≡ 0 → true ≡ given_right s i
  unfolding given_right
  given_zero h = rw (eq-eqb (tile_reference s i) 0 (sym p ∙ h))

  module _ (n : r ≡ 0 → ⊥) (b : Bool) (q : b ≡ refers_to s tile_type r) where
    given_else : (c : Bool) → gives_tile s i ≡ c → c ≡ given_right s i
    unfolding given_right
    given_else c e = rw (ne_eqb (tile_reference s i) 0 (λ z. n (p ∙ z))) (sym e)

    pub given_none : b ≡ false → false ≡ given_right s i
    given_none e = given_else false (go (gives_tile s i) refl)
      where
        go : (c : Bool) → gives_tile s i ≡ c → c ≡ false
        go false d = refl
        go true d = not_both (gives_of s i d).0 (rw (← p) (sym q ∙ e))

    module _ (x j : ℕ) (t : b ≡ true) (u : x ≡ r - 8) (v : j ≡ u32_at s (x + 8)) where
      index : j ≡ tile_index s (tile_reference s i - 8)
      unfolding tile_index
      index = v ∙ rw (u, p)

      pub given_own : j ≡ i → true ≡ given_right s i
      given_own e = given_else true (of_gives s i (rw (← p) (sym q ∙ t)) (sym index ∙ e))

      pub given_other : (j ≡ i → ⊥) → false ≡ given_right s i
      given_other e = given_else false (go (gives_tile s i) refl)
        where
          go : (c : Bool) → gives_tile s i ≡ c → c ≡ false
          go false d = refl
          go true d = absurd (e (index ∙ (gives_of s i d).1))

pub given_stop :
    (s : List ℕ) (n i : ℕ) (a : Reason) (x : Fault) → n ≡ tile_count s → a ≡ first_failing (given_rows s i) → a ≡ Err x →
    first_failing (rows_below i (given_rows s)) ≡ Ok tt → i < n → Err x ≡ first_failing (rows_below (tile_count s) (given_rows s))
given_stop s n i a x p q r h k = below_stop i (given_rows s) a q (tile_count s) x r h (omega arith)
