-- Req 11: when records may be moved. d is the buffer, n the page's length, zs a plan that holds both starts of each record for a while.
use Rattle.std.specs.Prelude.{ℕ, ◌≡◌, List, [], ◌∷◌, true}
use Rattle.writable.specs.Writable.{open_for_writing}
use Rattle.correct.specs.Front.{page_in}
use Rattle.correct.specs.Plan.{kept_starts, plan_right}
use Rattle.plans.specs.Moved.{old_in, new_starts, Packs}

-- the old starts that it holds
unfoldable pub old_starts : List ℕ → List ℕ
old_starts [] = []
old_starts (z ∷ zs) = old_in z ∷ old_starts zs

-- the page is open for writing, the new starts are a right plan for it, and the old ones are those of its kept records
pub record PlanReady (d : List ℕ) (n : ℕ) (zs : List ℕ) : Type 0 where
  pub open_page_lem : open_for_writing (page_in d n) ≡ true
  pub right : plan_right (page_in d n) (new_starts zs) ≡ true
  pub packs : Packs (page_in d n) (new_starts zs) zs
  pub old : old_starts zs ≡ kept_starts (page_in d n)
