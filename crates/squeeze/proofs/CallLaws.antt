-- Squeezing as a call: what it is judged by, and that its byte stores make its page. Assumes nothing.
use Rattle.std.specs.Prelude.{Err, Ok, Result, ⊤}
use Prim.Native.Nat.{ℕ, ◌-◌}
use mathlib.Core.Path.{◌≡◌, refl, sym, ap, ◌∙◌}
use mathlib.Core.Logic.{by_cases}
use mathlib.Core.List.{List, [], ◌∷◌}
use mathlib.Core.Bool.{true}
use native.Mathlib.Decide.{dec_le}
use native.Mathlib.Omega.{arith}
use lib.ListN.{length}
use Rattle.wire.specs.Tests.{◌≤?◌}
use Rattle.wire.specs.Bytes.{part, put}
use Rattle.wire.proofs.TestLaws.{yes, no}
use Rattle.answer.specs.declared.Refusal.{Refusal}
use Rattle.answer.specs.Refusals.{gate, unless_refused}
use Rattle.answer.proofs.VerdictLaws.{gate_passed}
use Rattle.stores.specs.Stores.{store_count, stopped}
use Rattle.writable.specs.Writable.{open_for_writing}
use Rattle.writable.proofs.OpenLaws.{open_means}
use Rattle.correct.specs.Front.{page_in}
use Rattle.correct.specs.Plan.{kept_starts, plan_right, planned_end, tight_plan}
use Rattle.correct.specs.Answers.{on_open_page, plan_then, answered}
use Rattle.correct.specs.Writes.{squeeze_writes}
use Rattle.correct.specs.Calls.{Call, Role, line_of, admitted, change_on, change_of, answer_by, stopped_by, made_by}
use Rattle.correct.proofs.ListLaws.{part_page}
use Rattle.effects.specs.Effects.{CallMakes}
use Rattle.effects.proofs.PassedLaws.{answer_passed, admitted_wants, wanted_admitted, refused_admitted, passed, judged_once}
use Rattle.calls.proofs.AnswerLaws.{on_refused, on_made}
use Rattle.plans.specs.Tight.{starts_then, tight_verdict, tight_answer, tight_count, tight_out}
use Rattle.plans.specs.Moved.{both_starts, new_starts}
use Rattle.plans.proofs.TightLaws.{tight_out_lem}
use Rattle.squeezed.proofs.MakeMoves.{squeeze_makes}
use Rattle.squeeze.specs.Ready.{PlanReady}
use Rattle.squeeze.proofs.ReadyLaws.{plan_ready, plan_back}

-- its byte stores make its page
pub squeezing_makes : (ps : List ℕ) → CallMakes (Call.Squeezing ps)
unfolding line_of plan_then
squeezing_makes ps b n w i a e = squeeze_makes b n w i (open_means (page_in b n) a) ps (gate_passed _ _ _ e).0

-- what is judged behind the page, by what is judged of the page

module _ (b : List ℕ) (n : ℕ) {v : Result ⊤ Refusal} (e : v ≡ on_open_page b n (Ok tt)) (behind : Result ⊤ Refusal) where
  behind_open : v ≡ Ok tt → on_open_page b n behind ≡ behind
  unfolding admitted
  behind_open f = let w = admitted_wants Role.Works b n (Ok tt) (sym e ∙ f) in wanted_admitted Role.Works b n behind w.0 w.1.0

  behind_refused : (r : Refusal) → v ≡ Err r → on_open_page b n behind ≡ Err r
  unfolding admitted
  behind_refused r f = refused_admitted Role.Works b n r behind (sym e ∙ f)

-- the checker answers as the call: by the page, and then by the plan

module _ (b : List ℕ) (n : ℕ) {v : Result ⊤ Refusal} (e : v ≡ on_open_page b n (Ok tt)) (ps : List ℕ) where
  abbrev judged : Result ⊤ Refusal
  judged = plan_then (page_in b n) ps (Ok tt)

  plan_verdict : (change_of (Call.Squeezing ps) b n).verdict ≡ on_open_page b n judged
  unfolding admitted line_of
  plan_verdict = judged_once (Call.Squeezing ps) b n

  answer_is : {w : Result ⊤ Refusal} → on_open_page b n judged ≡ w → answer_by (change_of (Call.Squeezing ps) b n) ≡ answered w (planned_end (page_in b n) ps)
  unfolding answer_by change_of change_on line_of
  answer_is f = ap (λ (x : Result ⊤ Refusal). answered x (planned_end (page_in b n) ps)) (plan_verdict ∙ f)

  pub plan_refused : (r : Refusal) → v ≡ Err r → Err r ≡ answer_by (change_of (Call.Squeezing ps) b n)
  unfolding answered unless_refused
  plan_refused r f = sym (answer_is (behind_refused b n e judged r f))

  pub plan_told :
      {s : List ℕ} {a : Result ℕ Refusal} → v ≡ Ok tt → s ≡ part b 0 n → a ≡ answered (plan_then s ps (Ok tt)) (planned_end s ps) →
      a ≡ answer_by (change_of (Call.Squeezing ps) b n)
  plan_told f g h =
      h ∙ ap (λ (l : List ℕ). answered (plan_then l ps (Ok tt)) (planned_end l ps)) (part_page b n g) ∙ sym (answer_is (behind_open b n e judged f))

-- making the tight plan: the answer, the number of starts, the list

abbrev Slides : List ℕ → ℕ → List ℕ → Result ℕ Refusal → ℕ → List ℕ → Type 0
Slides b n ps a m l = (a ≡ tight_answer b n ps) × ((m ≡ tight_count b n) × (l ≡ tight_out b n ps))

-- what has no room is not put
left_by : (s ps : List ℕ) → put ps 0 (tight_plan s) ≡ unless_refused (λ r. ps) (starts_then s ps (Ok tt)) (put ps 0 (tight_plan s))
unfolding starts_then gate unless_refused
left_by s ps =
    by_cases (dec_le (length (kept_starts s)) (length ps)) (λ h. rw (sym (yes ((length (kept_starts s) ≤? length ps) ∷ []) (h, tt))))
    (λ h. rw (sym (no ((length (kept_starts s) ≤? length ps) ∷ []) (λ z. h z.0))) (sym (tight_out_lem s ps (omega arith))))

module _ (b : List ℕ) (n : ℕ) (ps : List ℕ) {v : Result ⊤ Refusal} (e : v ≡ on_open_page b n (Ok tt)) where
  abbrev roomy : Result ⊤ Refusal
  roomy = starts_then (page_in b n) ps (Ok tt)

  pub slides_refused : (r : Refusal) → v ≡ Err r → Slides b n ps (Err r) 0 ps
  unfolding tight_answer tight_verdict tight_count tight_out answered unless_refused
  slides_refused r f =
      let g : on_open_page b n (Ok tt) ≡ Err r = sym e ∙ f in
      rw (g, behind_refused b n e roomy r f) (refl, (refl, refl))

  pub slides_passed :
      (s : List ℕ) {a : Result ℕ Refusal} {m : ℕ} {l : List ℕ} → v ≡ Ok tt → s ≡ page_in b n →
      a ≡ answered (starts_then s ps (Ok tt)) (planned_end s (tight_plan s)) → m ≡ length (kept_starts s) → l ≡ put ps 0 (tight_plan s) → Slides b n ps a m l
  unfolding tight_answer tight_verdict tight_count tight_out unless_refused
  slides_passed s f h p q w =
      let g : on_open_page b n (Ok tt) ≡ Ok tt = sym e ∙ f in
      rw (g, behind_open b n e roomy f, ← h) (p, (q, w ∙ left_by s ps))

-- what squeezing may rely on where it is not refused
pub squeeze_ready :
    (b : List ℕ) (n : ℕ) (ps : List ℕ) {a : Result ℕ Refusal} (m : ℕ) → a ≡ answer_by (change_of (Call.Squeezing ps) b n) → a ≡ Ok m →
    (open_for_writing (page_in b n) ≡ true) × (plan_right (page_in b n) ps ≡ true)
unfolding answer_by line_of plan_then
squeeze_ready b n ps m e f =
    let w = passed (Call.Squeezing ps) b n (answer_passed _ _ m (sym e ∙ f)).0 in
    (w.1.0, (gate_passed _ _ _ w.1.1).0)

-- the plan holds both starts of each record meanwhile, and then what it held

module _
    (b : List ℕ) (n : ℕ) (ps : List ℕ) (w : (open_for_writing (page_in b n) ≡ true) × (plan_right (page_in b n) ps ≡ true)) {s zs : List ℕ} (e : s ≡ part b 0 n)
    (f : zs ≡ both_starts (kept_starts s) ps)
  where
    both_are : zs ≡ both_starts (kept_starts (page_in b n)) ps
    both_are = f ∙ ap (λ (l : List ℕ). both_starts (kept_starts l) ps) (part_page b n e)

    pub pack_ready : PlanReady b n zs
    pack_ready = rw both_are (plan_ready b n ps w.0 w.1)

    pub squeezing_done :
        (k : ℕ) {left : ℕ} {l qs : List ℕ} → left ≡ k - store_count (squeeze_writes b (page_in b n) (new_starts zs)) →
        l ≡ stopped k (squeeze_writes b (page_in b n) (new_starts zs)) b → qs ≡ new_starts zs →
        (left ≡ k - store_count (squeeze_writes b (page_in b n) ps)) × ((l ≡ stopped k (squeeze_writes b (page_in b n) ps) b) × (qs ≡ ps))
    squeezing_done k g h i =
        let q : new_starts zs ≡ ps = ap new_starts both_are ∙ plan_back b n ps w.0 w.1 in
        (rw q at g, (rw q at h, i ∙ q))

-- by what the checker answers; the plan stands beside
module _ (k : ℕ) (b : List ℕ) (n : ℕ) (ps : List ℕ) {a : Result ℕ Refusal} (e : a ≡ answer_by (change_of (Call.Squeezing ps) b n)) where
  abbrev Squeezes : Result ℕ Refusal → ℕ → List ℕ → List ℕ → Type 0
  Squeezes x made l qs =
      (x ≡ answer_by (change_of (Call.Squeezing ps) b n))
      × ((made ≡ made_by k (change_of (Call.Squeezing ps) b n)) × ((l ≡ stopped_by k (change_of (Call.Squeezing ps) b n) b) × (qs ≡ ps)))

  pub stopped_refused : (r : Refusal) → a ≡ Err r → Squeezes (Err r) 0 b ps
  stopped_refused r f = let s = on_refused k (change_of (Call.Squeezing ps) b n) b e r f in (s.0, (s.1.0, (s.1.1, refl)))

  pub stopped_made :
      (m : ℕ) {left : ℕ} {l qs : List ℕ} → a ≡ Ok m → left ≡ k - store_count (squeeze_writes b (page_in b n) ps) →
      l ≡ stopped k (squeeze_writes b (page_in b n) ps) b → qs ≡ ps → Squeezes (Ok m) (k - left) l qs
  unfolding change_of change_on line_of
  stopped_made m f g h i = let s = on_made k (change_of (Call.Squeezing ps) b n) b e m f g h in (s.0, (s.1.0, (s.1.1, i)))
