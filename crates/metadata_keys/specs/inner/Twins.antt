-- A metadata record that has another's pair of name and ID, as the functions look for it.
use Rattle.std.specs.Prelude.{ℕ, List, [], ◌∷◌, Bool}
use Rattle.wire.specs.Tests.{◌≡?◌, ◌≢?◌, is, passes}
use Rattle.record.specs.Record.{type_at}
use Rattle.record.specs.Chain.{records_of}
use Rattle.record.specs.Types.{metadata_type}
use Rattle.wire.specs.Lists.{some}
use Rattle.metadata_keys.specs.Pairs.{same_key}

-- a metadata record that is not the one at x and has its pair of name and ID
unfoldable pub twin_of : List ℕ → ℕ → ℕ → Bool
twin_of s x y = passes ((type_at s y ≡? metadata_type) ∷ (x ≢? y) ∷ is (same_key s x y) ∷ [])

unfoldable pub has_twin : List ℕ → ℕ → Bool
has_twin s x = some (λ y. passes ((x ≢? y) ∷ is (same_key s x y) ∷ [])) (records_of s metadata_type)

-- a metadata record that has one
unfoldable pub doubled : List ℕ → ℕ → Bool
doubled s x = passes ((type_at s x ≡? metadata_type) ∷ is (has_twin s x) ∷ [])
