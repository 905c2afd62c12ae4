-- Stages 6 to 9 behind each other: which refusal the first fault gives. Assumes nothing.
use Rattle.std.specs.Prelude.{Err, None, Ok, Option, Result, Some, ⊤}
use Prim.Native.Nat.{ℕ}
use mathlib.Core.Path.{◌≡◌, refl}
use mathlib.Core.List.{List}
use mathlib.Core.Bool.{Bool, true, false}
use lib.ListN.{length}
use Rattle.answer.specs.declared.Refusal.{Refusal}
use Rattle.answer.specs.declared.Refusal.TheVariants.{Chain, Checksum, Body, Directory}
use Rattle.answer.specs.Refusals.{gate, unless_refused}
use Rattle.check_header.specs.Stages.{check_header}
use Rattle.check_records.specs.Faults.{chain_fault, checksum_fault, body_fault}
use Rattle.check_lists.specs.Stage.{directories_right}
use Rattle.page_check.specs.Stages.{unless, check_records, check_to_bodies, check_directories, check_from_records, check}

module _ (s : List ℕ) (v : Result ⊤ Refusal) (f : Option ℕ) (p : f ≡ chain_fault s) where
  pub stage_6 : (x : ℕ) → f ≡ Some x → Err (Chain x) ≡ check_records s v
  unfolding check_records unless
  stage_6 x e = rw (← p, e)

  module _ (e : f ≡ None) (g : Option ℕ) (q : g ≡ checksum_fault s) where
    pub stage_7 : (x : ℕ) → g ≡ Some x → Err (Checksum x) ≡ check_records s v
    unfolding check_records unless
    stage_7 x k = rw (← p, e, ← q, k)

    module _ (k : g ≡ None) (h : Option ℕ) (r : h ≡ body_fault s) where
      pub stage_8 : (x : ℕ) → h ≡ Some x → Err (Body x) ≡ check_records s v
      unfolding check_records unless
      stage_8 x m = rw (← p, e, ← q, k, ← r, m)

      pub stages_pass : h ≡ None → v ≡ check_records s v
      unfolding check_records unless
      stages_pass m = rw (← p, e, ← q, k, ← r, m)

pub header_refused : (s : List ℕ) (v : Result ⊤ Refusal) (x : Refusal) → v ≡ check_header s (length s) → v ≡ Err x → Err x ≡ check_to_bodies s
unfolding check_to_bodies unless_refused
header_refused s v x p e = rw (← p, e)

pub header_passed : (s : List ℕ) (v w : Result ⊤ Refusal) → v ≡ check_header s (length s) → v ≡ Ok tt → w ≡ check_records s (Ok tt) → w ≡ check_to_bodies s
unfolding check_to_bodies unless_refused
header_passed s v w p e q = rw (← p, e) q

-- stage 9

pub directories_yes : (s : List ℕ) (b : Bool) → b ≡ directories_right s → b ≡ true → Ok tt ≡ check_directories s
unfolding check_directories gate
directories_yes s b p e = rw (← p, e)

pub directories_not : (s : List ℕ) (b : Bool) → b ≡ directories_right s → b ≡ false → Err Directory ≡ check_directories s
unfolding check_directories gate
directories_not s b p e = rw (← p, e)

-- what comes behind stages 8 and 5

pub records_then : (s : List ℕ) (v : Result ⊤ Refusal) → check_records s v ≡ unless_refused Err (check_records s (Ok tt)) v
unfolding check_records unless_refused unless
records_then s v = go (chain_fault s) (checksum_fault s) (body_fault s)
  where
    go :
        (f g h : Option ℕ) →
        unless f Chain (unless g Checksum (unless h Body v)) ≡ unless_refused Err (unless f Chain (unless g Checksum (unless h Body (Ok tt)))) v
    go (Some x) g h = refl
    go None (Some x) h = refl
    go None None (Some x) = refl
    go None None None = refl

pub bodies_then : (s : List ℕ) → check s ≡ unless_refused Err (check_to_bodies s) (check_directories s)
unfolding check check_to_bodies check_from_records unless_refused
bodies_then s = go (check_header s (length s))
  where
    go : (w : Result ⊤ Refusal) → unless_refused Err w (check_records s (check_directories s)) ≡ unless_refused Err (unless_refused Err w (check_records s (Ok tt))) (check_directories s)
    go (Ok accepted) = records_then s (check_directories s)
    go (Err r) = refl

module _ (s : List ℕ) (v : Result ⊤ Refusal) (p : v ≡ check_records s (Ok tt)) where
  pub records_refused : (x : Refusal) → v ≡ Err x → Err x ≡ check_from_records s
  unfolding check_from_records unless_refused
  records_refused x e = rw (records_then s (check_directories s), ← p, e)

  pub records_passed : (w : Result ⊤ Refusal) → v ≡ Ok tt → w ≡ check_directories s → w ≡ check_from_records s
  unfolding check_from_records unless_refused
  records_passed w e q = rw (records_then s (check_directories s), ← p, e) q

module _ (s : List ℕ) (v : Result ⊤ Refusal) (p : v ≡ check_to_bodies s) where
  pub bodies_refused : (x : Refusal) → v ≡ Err x → Err x ≡ check s
  unfolding unless_refused
  bodies_refused x e = rw (bodies_then s, ← p, e)

  pub bodies_passed : (w : Result ⊤ Refusal) → v ≡ Ok tt → w ≡ check_directories s → w ≡ check s
  unfolding unless_refused
  bodies_passed w e q = rw (bodies_then s, ← p, e) q

pub ruleset in_order = (
  stage_6,
  stage_7,
  stage_8,
  stages_pass,
  header_refused,
  header_passed,
  directories_yes,
  directories_not,
  records_refused,
  records_passed,
  bodies_refused,
  bodies_passed,
)
