-- The first half of the check, a return at a time. Assumes nothing.
use Rattle.std.specs.Prelude.{Err, Result, ⊤}
use Rattle.answer.specs.declared.Refusal.{Refusal}
use Prim.Native.Nat.{ℕ, min, ◌≤◌, ◌<◌}
use mathlib.Core.Path.{◌≡◌}
use mathlib.Core.List.{List, [], ◌∷◌}
use mathlib.Core.Bool.{Bool, true, false}
use lib.ListN.{length}
use Rattle.wire.proofs.TestLaws.{yes, no}
use Rattle.wire.specs.Tests.{◌≤?◌}
use Rattle.answer.specs.declared.Refusal.TheVariants.{Input}
use Rattle.answer.specs.Refusals.{gate}
use native.Mathlib.Omega.{arith}
use borrow.Author.Tests.{le-leb, lt-leb}
use Rattle.record.specs.Chain.{header_end}
use Rattle.check_header.specs.HeaderRecord.{length_right}
use Rattle.check_start.specs.Start.{no_more, header_given, needed}

module _ (s : List ℕ) (n : ℕ) where
  pub more : (v : Result ⊤ Refusal) → n < length s → Err Input ≡ gate (no_more s n) Input v
  unfolding no_more gate
  more v h = rw (← no ((length s ≤? n) ∷ []) (λ k. omega arith))

  pub no_more_lem : (v w : Result ⊤ Refusal) → length s ≤ n → w ≡ v → w ≡ gate (no_more s n) Input v
  unfolding no_more gate
  no_more_lem v w h e = rw (← yes ((length s ≤? n) ∷ []) (omega arith, tt)) e

  module _ (b : Bool) (p : b ≡ length_right s n) where
    pub unlawful_given : b ≡ false → true ≡ header_given s n
    unfolding header_given
    unlawful_given e = rw (← p, e)

    module _ (e : b ≡ true) (x : ℕ) (q : x ≡ header_end s) where
      pub header_lacks : length s < x → false ≡ header_given s n
      unfolding header_given
      header_lacks h = rw (← p, e) (no ((header_end s ≤? length s) ∷ []) (λ k. omega arith))

      pub header_whole : x ≤ length s → true ≡ header_given s n
      unfolding header_given
      header_whole h = rw (← p, e) (yes ((header_end s ≤? length s) ∷ []) (omega arith, tt))

  -- how many bytes a stage needs

  module _ (r : ℕ) where
    pub needs_16 : r ≡ min n 16 → length s < 16 → r ≡ needed s n
    unfolding needed
    needs_16 e h = rw (lt-leb 16 (length s) h) e

    module _ (h : 16 ≤ length s) where
      pub needs_24 : r ≡ min n 24 → length s < 24 → r ≡ needed s n
      unfolding needed
      needs_24 e k = rw (le-leb 16 (length s) h, lt-leb 24 (length s) k) e

      pub needs_header : (x : ℕ) → x ≡ header_end s → r ≡ min n x → 24 ≤ length s → r ≡ needed s n
      unfolding needed
      needs_header x q e k = rw (le-leb 16 (length s) h, le-leb 24 (length s) k, ← q) e

pub ruleset given-rules = (more, no_more_lem, unlawful_given, header_lacks, header_whole, needs_16, needs_24, needs_header)
