-- Rules over a list, and its members. Assumes nothing.
use Prim.Native.Nat.{ℕ}
use mathlib.Core.Path.{◌≡◌, sym}
use mathlib.Core.List.{List, [], ◌∷◌}
use mathlib.Core.Bool.{true}
use borrow.Author.Tests.{eq-eqb}
use Rattle.wire.specs.Tests.{passes}
use Rattle.record.specs.Record.{content_at}
use Rattle.wire.specs.Lists.{every, some}
use Rattle.record.specs.Chain.{records_of}
use Rattle.check_directory.specs.References.{refers_to, no_other}

-- the only record of a type, where a reference is its content
pub one_of_type :
    (s : List ℕ) (kind reference x : ℕ) → records_of s kind ≡ x ∷ [] → reference ≡ content_at x →
    (refers_to s kind reference ≡ true) × (no_other s kind reference ≡ true)
unfolding refers_to no_other some every passes
one_of_type s kind reference x e r = let h = eq-eqb _ _ (sym r) in (rw (e, h), rw (e, h))
