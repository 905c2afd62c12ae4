-- Document 01, stage 9: a list of n entries counted from 0, and the records of a type that they are of. `entryIs x k` says that
-- entry k is that of the record at x.
use Rattle.std.specs.Prelude.{ℕ, List, Bool, eqb}
use Rattle.wire.specs.Tests.{all_below}
use Rattle.record.specs.Chain.{records_of}
use Rattle.wire.specs.Lists.{every, some, count_below}

-- every record of the type is listed once
unfoldable pub listed_once : List ℕ → ℕ → ℕ → (ℕ → ℕ → Bool) → Bool
listed_once s kind n entryIs = every (λ x. eqb (count_below n (entryIs x)) 1) (records_of s kind)

-- and nothing else is
unfoldable pub nothing_else : List ℕ → ℕ → ℕ → (ℕ → ℕ → Bool) → Bool
nothing_else s kind n entryIs = all_below n (λ k. some (λ x. entryIs x k) (records_of s kind))
