-- The file-space directory's fields, from what the functions below them answer. Assumes nothing.
use Prim.Native.Nat.{ℕ, ◌+◌, ◌*◌, ◌≤◌, ◌<◌}
use mathlib.Core.Path.{◌≡◌, sym, ap, ◌∙◌}
use mathlib.Core.List.{List}
use mathlib.Core.Bool.{Bool, true, false}
use native.Mathlib.Omega.{arith}
use borrow.Author.Tests.{ne_eqb}
use Rattle.wire.proofs.TestLaws.{means, yes, no, not_both, either_way}
use Rattle.header.specs.Fields.{file_space_reference}
use Rattle.record.specs.Record.{padded}
use Rattle.check_lists.specs.FileSpace.{free_not_empty, free_fits}
use Rattle.bodies.specs.ListDirectories.{file_space_at, free_count, free_entry_at}

module _ (s : List ℕ) (r : ℕ) (p : r ≡ file_space_reference s) where
  pub fits_none : r ≡ 0 → true ≡ free_fits s
  unfolding free_fits
  fits_none h = rw (← p, h)

  module _ (n : ℕ) (some : r ≡ 0 → ⊥) (q : n ≡ free_count s) where
    pub fits_empty : n < 1 → false ≡ free_fits s
    unfolding free_fits free_not_empty
    fits_empty h = rw (← p, ne_eqb r 0 some) (no _ (λ y. omega (arith, (means _ y.0).0)))

    pub fits_negative : 2147483647 < n → false ≡ free_fits s
    unfolding free_fits
    fits_negative h = rw (← p, ne_eqb r 0 some) (no _ (λ y. omega (arith, y.1.0)))

    pub fits_is : (d : ℕ) (b : Bool) → d ≡ file_space_at s → 1 ≤ n → n ≤ 2147483647 → b ≡ padded s d (d + 12 + n * 12) → b ≡ free_fits s
    unfolding free_fits free_not_empty free_entry_at
    fits_is d b t h k e =
        let m : d + 12 + n * 12 ≡ file_space_at s + 12 + 12 * free_count s = omega arith in
        let f : b ≡ padded s (file_space_at s) (file_space_at s + 12 + 12 * free_count s) = e ∙ ap (padded s d) m ∙ ap (λ (x : ℕ). padded s x (file_space_at s + 12 + 12 * free_count s)) t in
        rw (← p, ne_eqb r 0 some)
        (either_way _ b (λ v. (sym (yes _ (omega arith, tt)), (omega arith, (sym f ∙ v, tt)))) (λ v y. not_both y.1.1.0 (sym f ∙ v)))
