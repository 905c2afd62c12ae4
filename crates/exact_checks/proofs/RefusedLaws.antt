-- Each refusal of the check has its reason, and each reason gives its refusal. Assumes nothing.
use Rattle.std.specs.Prelude.{Err, None, Ok, Option, Result, Some, ⊤}
use Prim.Native.Nat.{ℕ, ◌≤◌}
use mathlib.Core.Path.{◌≡◌, refl, sym, ap, ◌∙◌}
use mathlib.Core.Bool.{Bool, true, false, not}
use mathlib.Core.List.Memᴰ
use mathlib.Core.List.{List, [], ◌∷◌, ◌++◌, Memᴰ}
use mathlib.Core.Logic.{⊎_elim}
use lib.ListN.{length}
use Rattle.wire.specs.Pick.{pick}
use Rattle.answer.specs.declared.Refusal.{Refusal}
use Rattle.answer.specs.declared.Refusal.TheVariants as refusal
use Rattle.answer.specs.Refusals.{gate, unless_refused}
use Rattle.answer.proofs.VerdictLaws.{refused_not, refused_is, behind_passed}
use Rattle.record.specs.Chain.{find, find_not, header_end, records}
use Rattle.record.proofs.FindLaws.{found_not, at_is, none_breaks, all_keep}
use Rattle.check_header.specs.Identification.{identified, version_right}
use Rattle.check_header.specs.HeaderRecord.{header_right}
use Rattle.check_header.specs.Ceilings.{within_ceilings}
use Rattle.check_header.specs.Stages.{closed, first_two, next_two, stages, check_header}
use Rattle.check_header.specs.Passed.{Headed}
use Rattle.check_header.proofs.PassedLaws.{range_of}
use Rattle.check_records.specs.Checksum.{checksum_right}
use Rattle.check_records.specs.Faults.{body_right, right_of, first_wrong, chain_fault, checksum_fault, body_fault}
use Rattle.check_records.proofs.RecordLaws.{chain_whole, whole_chain, chain_fault_exactly}
use Rattle.check_lists.specs.Stage.{directories_right}
use Rattle.page_check.specs.Stages.{unless, check, check_records, check_to_bodies, check_directories, check_from_records}
use Rattle.page_check.proofs.StageLaws.{bodies_then}
use Rattle.exact_checks.specs.Refused.{Closed, Chained, Summed, Bodied, FirstWrong, Reason, RefusedExactly, ToBodiesExactly}

-- the first record of which a rule does not hold

wrong_more : (p : ℕ → Bool) (y : ℕ) (ys : List ℕ) (x : ℕ) → p y ≡ true → FirstWrong p ys x → FirstWrong p (y ∷ ys) x
wrong_more p y ys x h w =
    record {
      before = y ∷ w.before;
      behind = w.behind;
      all = ap (λ (l : List ℕ). y ∷ l) w.all;
      right = λ z m. ⊎_elim (λ e. ap p e ∙ h) (λ n. w.right z n) (Memᴰ.cases_cons m);
      wrong = w.wrong;
    }

first_wrong_lem : (p : ℕ → Bool) (l : List ℕ) (x : ℕ) → find_not p l ≡ Some x → FirstWrong p l x
unfolding find find_not
first_wrong_lem p [] x e = found_not (sym e) refl
first_wrong_lem p (y ∷ ys) x e = go (p y) refl e (first_wrong_lem p ys x)
  where
    go : (b : Bool) → p y ≡ b → pick (not b) (Some y) (find_not p ys) ≡ Some x → (find_not p ys ≡ Some x → FirstWrong p ys x) → FirstWrong p (y ∷ ys) x
    go true i k f = wrong_more p y ys x i (f k)
    go false i k f =
        let q : y ≡ x = at_is k in
        record { before = []; behind = ys; all = ap (λ (z : ℕ). z ∷ ys) q; right = λ z m. absurd (Memᴰ.not-nil m); wrong = ap p (sym q) ∙ i }

wrong_at : (p : ℕ → Bool) (before behind : List ℕ) (x : ℕ) → ((y : ℕ) → Memᴰ y before → p y ≡ true) → p x ≡ false → find_not p (before ++ (x ∷ behind)) ≡ Some x
unfolding find find_not
wrong_at p [] behind x r w = rw w
wrong_at p (y ∷ ys) behind x r w = rw (r y (Memᴰ.head refl)) (wrong_at p ys behind x (λ z m. r z (Memᴰ.tail m)) w)

wrong_first : (p : ℕ → Bool) (l : List ℕ) (x : ℕ) → FirstWrong p l x → find_not p l ≡ Some x
wrong_first p l x w = ap (find_not p) w.all ∙ wrong_at p w.before w.behind x w.right w.wrong

-- a test and what comes behind it

by_gate : (P : Result ⊤ Refusal → Type 0) (b : Bool) (r : Refusal) (v : Result ⊤ Refusal) → (b ≡ false → P (Err r)) → (b ≡ true → P v) → P (gate b r v)
unfolding gate
by_gate P true r v f g = g refl
by_gate P false r v f g = f refl

by_fault : (P : Result ⊤ Refusal → Type 0) (x : Option ℕ) (r : ℕ → Refusal) (v : Result ⊤ Refusal) → ((y : ℕ) → x ≡ Some y → P (Err (r y))) → (x ≡ None → P v) → P (unless x r v)
unfolding unless
by_fault P None r v f g = g refl
by_fault P (Some y) r v f g = f y refl

-- a verdict's reason, where it is a refusal
abbrev Told : List ℕ → Result ⊤ Refusal → Type 0
Told s (Ok tt) = Unit {0}
Told s (Err r) = Reason s r

headed : (s : List ℕ) → Closed s → Headed s (length s)
headed s h = record { block = h.0.0.0.0; version = h.0.0.0.1; header = h.0.0.1; ceilings = h.0.1 }

module _ (s : List ℕ) (h : Closed s) where
  inside : header_end s ≤ length s
  inside = (range_of s (length s) (headed s h)).header_inside

  records_told : Told s (check_from_records s)
  unfolding check_from_records check_records check_directories checksum_fault body_fault first_wrong right_of
  records_told =
      by_fault (Told s) (chain_fault s) refusal.Chain _ (λ x e. (h, (chain_fault_exactly s x).0 e))
      (λ c.
      let w : Chained s = (h, chain_whole s inside c) in
      by_fault (Told s) (find_not (checksum_right s) (16 ∷ records s)) refusal.Checksum _ (λ x e. (w, first_wrong_lem (checksum_right s) (16 ∷ records s) x e))
      (λ d.
      let u : Summed s = (w, λ x m. none_breaks (checksum_right s) (16 ∷ records s) d m) in
      by_fault (Told s) (find_not (body_right s) (records s)) refusal.Body _ (λ x e. (u, first_wrong_lem (body_right s) (records s) x e))
      (λ f. by_gate (Told s) (directories_right s) refusal.Directory (Ok tt) (λ i. ((u, λ x m. none_breaks (body_right s) (records s) f m), i)) (λ i. tt))))

module _ (s : List ℕ) where
  abbrev Behind : Result ⊤ Refusal → Type 0
  Behind v = Told s (unless_refused Err v (check_from_records s))

  told : Told s (check s)
  unfolding check check_header stages first_two next_two unless_refused
  told =
      by_gate Behind (identified s (length s)) refusal.Identification _ (λ i. i)
      (λ i.
      by_gate Behind (version_right s) refusal.Version _ (λ j. (i, j))
      (λ j.
      by_gate Behind (header_right s (length s)) refusal.Header _ (λ k. ((i, j), k))
      (λ k.
      by_gate Behind (within_ceilings s (length s)) refusal.Ceiling _ (λ l. (((i, j), k), l))
      (λ l. by_gate Behind (closed s) refusal.Opened (Ok tt) (λ m. ((((i, j), k), l), m)) (λ m. records_told s ((((i, j), k), l), m))))))

  -- and back
  header_passes : Closed s → check s ≡ check_from_records s
  unfolding check check_header stages first_two next_two gate unless_refused
  header_passes h = rw (h.0.0.0.0, h.0.0.0.1, h.0.0.1, h.0.1, h.1)

  no_sum : Summed s → checksum_fault s ≡ None
  unfolding checksum_fault first_wrong right_of
  no_sum h = all_keep (checksum_right s) (16 ∷ records s) h.1

  no_body : Bodied s → body_fault s ≡ None
  unfolding body_fault first_wrong right_of
  no_body h = all_keep (body_right s) (records s) h.1

  chain_given : (x : ℕ) → Reason s (refusal.Chain x) → (v : Result ⊤ Refusal) → check_records s v ≡ Err (refusal.Chain x)
  unfolding check_records unless
  chain_given x h v = rw ((chain_fault_exactly s x).1 h.1)

  sum_given : (x : ℕ) → Reason s (refusal.Checksum x) → (v : Result ⊤ Refusal) → check_records s v ≡ Err (refusal.Checksum x)
  unfolding check_records unless checksum_fault first_wrong right_of
  sum_given x h v = rw (whole_chain s (records s) h.0.1, wrong_first (checksum_right s) (16 ∷ records s) x h.1)

  body_given : (x : ℕ) → Reason s (refusal.Body x) → (v : Result ⊤ Refusal) → check_records s v ≡ Err (refusal.Body x)
  unfolding check_records unless body_fault first_wrong right_of
  body_given x h v = rw (whole_chain s (records s) h.0.0.1, no_sum h.0, wrong_first (body_right s) (records s) x h.1)

  bodies_behind : Bodied s → (v : Result ⊤ Refusal) → check_records s v ≡ v
  unfolding check_records unless
  bodies_behind h v = rw (whole_chain s (records s) h.0.0.1, no_sum h.0, no_body h)

  directory_given : Reason s refusal.Directory → check_directories s ≡ Err refusal.Directory
  unfolding check_directories gate
  directory_given h = rw h.1

  given_by : (r : Refusal) → Reason s r → check s ≡ Err r
  unfolding check check_from_records check_header stages first_two next_two gate unless_refused
  given_by refusal.Identification h = rw h
  given_by refusal.Version h = rw (h.0, h.1)
  given_by refusal.Header h = rw (h.0.0, h.0.1, h.1)
  given_by refusal.Ceiling h = rw (h.0.0.0, h.0.0.1, h.0.1, h.1)
  given_by refusal.Opened h = rw (h.0.0.0.0, h.0.0.0.1, h.0.0.1, h.0.1, h.1)
  given_by (refusal.Chain x) h = header_passes h.0 ∙ chain_given x h (check_directories s)
  given_by (refusal.Checksum x) h = header_passes h.0.0 ∙ sum_given x h (check_directories s)
  given_by (refusal.Body x) h = header_passes h.0.0.0 ∙ body_given x h (check_directories s)
  given_by refusal.Directory h = header_passes h.0.0.0.0 ∙ bodies_behind h.0 (check_directories s) ∙ directory_given h
  given_by refusal.OutsideGrid h = absurd h
  given_by (refusal.Compressed x) h = absurd h
  given_by refusal.Input h = absurd h
  given_by refusal.Room h = absurd h
  given_by (refusal.Malformed x) h = absurd h
  given_by refusal.NotOpen h = absurd h
  given_by refusal.Incomplete h = absurd h

told_as : (s : List ℕ) (v : Result ⊤ Refusal) (r : Refusal) → v ≡ Err r → Told s v → Reason s r
told_as s v r e h = rw e at h

pub refused_exactly : RefusedExactly
refused_exactly s r = (λ e. told_as s (check s) r e (told s), given_by s r)

-- without stage 9: by the reason

to_bodies_passes : (s : List ℕ) → Closed s → check_to_bodies s ≡ check_records s (Ok tt)
unfolding check_to_bodies check_header stages first_two next_two gate unless_refused
to_bodies_passes s h = rw (h.0.0.0.0, h.0.0.0.1, h.0.0.1, h.0.1, h.1)

bodies_pass : (s : List ℕ) → Bodied s → check_to_bodies s ≡ Ok tt
bodies_pass s h = to_bodies_passes s h.0.0.0 ∙ bodies_behind s h (Ok tt)

-- any other refusal is that of stages 1 to 8
module _ (s : List ℕ) (r : Refusal) (n : r ≡ refusal.Directory → ⊥) (e : check s ≡ Err r) where
  directories_not : (b : Bool) → gate b refusal.Directory (Ok tt) ≡ Err r → check_to_bodies s ≡ Err r
  unfolding gate
  directories_not true q = refused_not (sym q)
  directories_not false q = absurd (n (sym (refused_is q)))

  bodies_refuse : check_to_bodies s ≡ Err r
  unfolding unless_refused check_directories
  bodies_refuse = go (check_to_bodies s) refl (sym (bodies_then s) ∙ e)
    where
      go : (v : Result ⊤ Refusal) → check_to_bodies s ≡ v → unless_refused Err v (check_directories s) ≡ Err r → check_to_bodies s ≡ Err r
      go (Ok accepted) k q = directories_not (directories_right s) q
      go (Err x) k q = k ∙ q

pub to_bodies_exactly : ToBodiesExactly
to_bodies_exactly s =
    record {
      accepted = λ e. (behind_passed (check_to_bodies s) (check_directories s) (sym (bodies_then s) ∙ e)).0;
      directory = λ e. bodies_pass s ((refused_exactly s refusal.Directory).0 e).0;
      refused = bodies_refuse s;
    }
