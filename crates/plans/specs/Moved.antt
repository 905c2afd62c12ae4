-- Req 11: old start to new start, of a plan that holds both for a while. s is the page; xs are old starts of kept records, ps new ones, zs
-- both.
use Rattle.std.specs.Prelude.{ℕ, ◌+◌, ◌*◌, ◌/◌, ◌%◌, ◌≤◌, ◌<◌, ◌≡◌, true, List, [], ◌∷◌, length, get_or, eqb}
use Rattle.wire.specs.Pick.{pick}
use Rattle.correct.specs.Plan.{kept_starts, plan_right}
use Rattle.correct.specs.Squeezing.{moved_to}

-- both starts in one number of 64 bits: the old one above, the new one below, each of 32
unfoldable pub both_in : ℕ → ℕ → ℕ
both_in x p = p % 4294967296 + 4294967296 * (x % 4294967296)

unfoldable pub old_in : ℕ → ℕ
old_in z = z / 4294967296

unfoldable pub new_in : ℕ → ℕ
new_in z = z % 4294967296

-- a plan that takes old starts in; a new start that has no record stays
unfoldable pub both_starts : List ℕ → List ℕ → List ℕ
both_starts xs [] = []
both_starts [] (p ∷ ps) = p ∷ ps
both_starts (x ∷ xs) (p ∷ ps) = both_in x p ∷ both_starts xs ps

unfoldable pub new_starts : List ℕ → List ℕ
new_starts [] = []
new_starts (z ∷ zs) = new_in z ∷ new_starts zs

-- the new content of the record whose content was c; 0 where none had it, as of 0
unfoldable pub named_in : List ℕ → ℕ → ℕ
named_in [] c = 0
named_in (z ∷ zs) c = pick (eqb (old_in z + 8) c) (new_in z + 8) (named_in zs c)

-- old starts ascend
pub record Ascend (zs : List ℕ) : Type 0 where
  pub up : (i j : ℕ) → i < j → j < length zs → old_in (get_or zs i 0) < old_in (get_or zs j 0)

-- zs holds both starts: it names what the plan does, and the plan comes back
pub record Packs (s ps zs : List ℕ) : Type 0 where
  pub long : length zs ≡ length ps
  pub ascend : Ascend zs
  pub named : (c : ℕ) → named_in zs c ≡ moved_to s ps c
  pub back : new_starts zs ≡ ps

-- a right plan on a page of at most 2^32 bytes does, when it has taken the old starts in
abbrev pub PlanPacks : Type 0
PlanPacks = (s ps : List ℕ) → plan_right s ps ≡ true → length s ≤ 4294967296 → Packs s ps (both_starts (kept_starts s) ps)
