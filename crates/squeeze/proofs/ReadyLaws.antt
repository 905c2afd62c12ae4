-- A right plan of an open page that has taken the old starts in is ready. Assumes nothing.
use Prim.Native.Nat.{ℕ, ◌+◌, ◌≤◌, ◌<◌}
use mathlib.Core.Path.{◌≡◌, refl, ap₂}
use mathlib.Core.List.{List, [], ◌∷◌, Memᴰ}
use mathlib.Core.Bool.{true}
use native.Mathlib.Omega.{arith}
use lib.ListN.{length}
use Rattle.wire.proofs.ListLaws.{select_member}
use Rattle.record.specs.Record.{length_at}
use Rattle.record.specs.Chain.{header_end, records}
use Rattle.record.proofs.ChainLaws.{ok_means, starts_ok}
use Rattle.page_check.proofs.GivenLaws.{sound_range}
use Rattle.writable.specs.Writable.{open_for_writing}
use Rattle.writable.proofs.OpenLaws.{open_means}
use Rattle.correct.specs.Front.{page_in}
use Rattle.correct.specs.Plan.{is_kept, kept_starts, plan_from, plan_right}
use Rattle.plans.specs.Moved.{both_starts, new_starts, Packs}
use Rattle.plans.proofs.PackLaws.{old_is, plan_packs}
use Rattle.squeezed.proofs.PlanLaws.{false_true}
use Rattle.squeezed.proofs.NamedLaws.{step}
use Rattle.squeeze.specs.Ready.{old_starts, PlanReady}

old_both :
    (s : List ℕ) (e : ℕ) (xs ps : List ℕ) → plan_from s e xs ps ≡ true → ((x : ℕ) → Memᴰ x xs → x < 4294967296) → old_starts (both_starts xs ps) ≡ xs
unfolding old_starts both_starts plan_from
old_both s e [] [] h f = refl
old_both s e [] (p ∷ ps) h f = false_true h
old_both s e (x ∷ xs) [] h f = false_true h
old_both s e (x ∷ xs) (p ∷ ps) h f =
    ap₂ ◌∷◌ (old_is x p (f x (Memᴰ.head refl))) (old_both s (p + length_at s x) xs ps (step s e x p xs ps h).rest (λ y m. f y (Memᴰ.tail m)))

kept_low : (s : List ℕ) → length s < 4294967296 → (x : ℕ) → Memᴰ x (kept_starts s) → x < 4294967296
unfolding kept_starts records
kept_low s h x m = omega (arith, (ok_means s x (starts_ok s x (header_end s) (select_member (is_kept s) _ m).0)).inside)

module _ (d : List ℕ) (n : ℕ) (ps : List ℕ) (o : open_for_writing (page_in d n) ≡ true) (h : plan_right (page_in d n) ps ≡ true) where
  page_most : length (page_in d n) ≤ 16777216
  page_most = (sound_range (page_in d n) (records (page_in d n)) (open_means (page_in d n) o).sound).file

  plan_packed : Packs (page_in d n) ps (both_starts (kept_starts (page_in d n)) ps)
  plan_packed = plan_packs (page_in d n) ps h (omega (arith, page_most))

  pub plan_back : new_starts (both_starts (kept_starts (page_in d n)) ps) ≡ ps
  plan_back = plan_packed.back

  pub plan_ready : PlanReady d n (both_starts (kept_starts (page_in d n)) ps)
  unfolding plan_right
  plan_ready =
      let s = page_in d n in
      record {
        open_page_lem = o;
        right = rw plan_back h;
        packs = rw plan_back plan_packed;
        old = old_both s (header_end s) (kept_starts s) ps h (kept_low s (omega (arith, page_most)));
      }
