-- The calls: where they are judged, their byte stores leave what is to be left. Assumes nothing.
use Rattle.std.specs.Prelude.{Err, Ok, Result, ⊤}
use Prim.Native.Nat.{ℕ, ◌-◌, ◌≤◌, ◌<◌}
use mathlib.Core.Path.{◌≡◌, refl, sym, ap, ◌∙◌}
use mathlib.Core.List.{List}
use mathlib.Core.Bool.{true}
use native.Mathlib.Omega.{arith}
use Rattle.wire.specs.Bytes.{Bytes}
use Rattle.answer.specs.declared.Refusal.{Refusal}
use Rattle.answer.specs.Refusals.{unless_refused}
use Rattle.answer.specs.Answers.{written}
use Rattle.answer.proofs.VerdictLaws.{gate_passed}
use Rattle.stores.specs.Stores.{run, cut, store_count, stopped}
use Rattle.stores.proofs.StoreLaws.{stopped_all}
use Rattle.correct.specs.Front.{page_in, workable}
use Rattle.correct.specs.Storing.{stored_length}
use Rattle.correct.specs.Answers.{workable_then, answered}
use Rattle.correct.specs.Calls.{Call, kind_of, Change, line_of, admitted, change_on, change_of, answer_by, out_by, unless_refused_writes, stores_by, stopped_by, made_by}
use Rattle.effects.specs.Effects.{Makes, CallMakes}
use Rattle.effects.proofs.PassedLaws.{room_passed, tile_passed, cells_passed, answer_passed, answer_refused, admitted_wants, refused_admitted, passed, on_wanted}
use Rattle.calls.specs.declared.Plan.{Plan}
use Rattle.calls.specs.declared.Judged.{Judged}
use Rattle.calls.specs.declared.Judged.TheVariants as judged
use Rattle.calls.specs.Layouts.{plan_of, judged_of}
use Rattle.calls.proofs.ReadLaws.{worked_of}

-- a call that stops after k byte stores: its answer, the number of stores, the buffer

abbrev pub Stops : ℕ → Change → List ℕ → Result ℕ Refusal → ℕ → List ℕ → Type 0
Stops k c b a made l = (a ≡ answer_by c) × ((made ≡ made_by k c) × (l ≡ stopped_by k c b))

module _ (k : ℕ) (c : Change) (b : List ℕ) where
  refused_by_lem : (r : Refusal) → c.verdict ≡ Err r → Stops k c b (Err r) 0 b
  unfolding answer_by stores_by stopped_by made_by answered unless_refused store_count stopped cut run
  refused_by_lem r e = rw e (refl, (omega arith, refl))

  made_by_lem :
      {m left : ℕ} {l : List ℕ} → c.verdict ≡ Ok tt → m ≡ c.long → left ≡ k - store_count c.writes → l ≡ stopped k c.writes b →
      Stops k c b (Ok m) (k - left) l
  unfolding answer_by stores_by stopped_by made_by answered unless_refused
  made_by_lem e f g h = rw e (ap Ok f, (omega arith, h))

  -- by what judging answers
  module _ {a : Result ℕ Refusal} (e : a ≡ answer_by c) where
    told_refused : (r : Refusal) → a ≡ Err r → c.verdict ≡ Err r
    unfolding answer_by
    told_refused r f = answer_refused c.verdict c.long r (sym e ∙ f)

    told_passed : (m : ℕ) → a ≡ Ok m → (c.verdict ≡ Ok tt) × (c.long ≡ m)
    unfolding answer_by
    told_passed m f = answer_passed c.verdict c.long m (sym e ∙ f)

    pub on_refused : (r : Refusal) → a ≡ Err r → Stops k c b (Err r) 0 b
    on_refused r f = refused_by_lem r (told_refused r f)

    pub on_made : (m : ℕ) {left : ℕ} {l : List ℕ} → a ≡ Ok m → left ≡ k - store_count c.writes → l ≡ stopped k c.writes b → Stops k c b (Ok m) (k - left) l
    on_made m f g h = let p = told_passed m f in made_by_lem p.0 (sym p.1) g h

-- on a page that is taken to be as the call wants it

module _ (call : Call) (b : List ℕ) (n : ℕ) where
  on_passed : (change_on call b n).verdict ≡ Ok tt → (workable (page_in b n) ≡ true) × ((line_of call b (page_in b n)).verdict ≡ Ok tt)
  unfolding change_on workable_then
  on_passed e = gate_passed _ _ _ e

  pub on_workable : {a : Result ℕ Refusal} (m : ℕ) → a ≡ answer_by (change_on call b n) → a ≡ Ok m → workable (page_in b n) ≡ true
  on_workable m e f = (on_passed (told_passed 0 (change_on call b n) b e m f).0).0

-- removing
pub remove_index : (b : List ℕ) (n i : ℕ) {a : Result ℕ Refusal} (m : ℕ) → a ≡ answer_by (change_on (Call.Removing i) b n) → a ≡ Ok m → i < 65536
unfolding line_of
remove_index b n i m e f =
    let w = on_passed (Call.Removing i) b n (told_passed 0 (change_on (Call.Removing i) b n) b e m f).0 in
    omega (arith, (tile_passed (page_in b n) i _ w.1).0, (worked_of (page_in b n) w.0).tiles)

-- storing, as it was planned
module _ (b : List ℕ) (n i : ℕ) (c : List ℕ) {j : Judged} (e : j ≡ judged_of b n i c) where
  abbrev change : Change
  change = change_on (Call.Storing i c) b n

  store_told : (r : Refusal) → j ≡ judged.Refused r → change.verdict ≡ Err r
  unfolding judged_of unless_refused
  store_told r f = go change.verdict refl
    where
      go : (v : Result ⊤ Refusal) → change.verdict ≡ v → change.verdict ≡ Err r
      go (Ok accepted) g = let q : judged.Planned (plan_of (page_in b n) i) ≡ judged.Refused r = sym (rw g at e) ∙ f in let z : ◌≡◌ {A = ℕ} 0 1 = cc in absurd (omega arith)
      go (Err q) g = let y : judged.Refused q ≡ judged.Refused r = sym (rw g at e) ∙ f in let z : q ≡ r = cc in g ∙ ap Err z

  store_planned : (p : Plan) → j ≡ judged.Planned p → (change.verdict ≡ Ok tt) × (p ≡ plan_of (page_in b n) i)
  unfolding judged_of unless_refused
  store_planned p f = go change.verdict refl
    where
      go : (v : Result ⊤ Refusal) → change.verdict ≡ v → (change.verdict ≡ Ok tt) × (p ≡ plan_of (page_in b n) i)
      go (Ok accepted) g = let y : judged.Planned (plan_of (page_in b n) i) ≡ judged.Planned p = sym (rw g at e) ∙ f in (g, cc)
      go (Err q) g = let y : judged.Refused q ≡ judged.Planned p = sym (rw g at e) ∙ f in let z : ◌≡◌ {A = ℕ} 0 1 = cc in absurd (omega arith)

  pub store_refused : (k : ℕ) (r : Refusal) → j ≡ judged.Refused r → Stops k change b (Err r) 0 b
  store_refused k r f = refused_by_lem k change b r (store_told r f)

  module _ (p : Plan) (f : j ≡ judged.Planned p) where
    judged_so : (workable (page_in b n) ≡ true) × ((line_of (Call.Storing i c) b (page_in b n)).verdict ≡ Ok tt)
    judged_so = on_passed (Call.Storing i c) b n (store_planned p f).0

    pub store_ready : (workable (page_in b n) ≡ true) × ((p ≡ plan_of (page_in b n) i) × (stored_length (page_in b n) i ≤ 16777216))
    unfolding line_of
    store_ready =
        let w = judged_so in
        (w.0, ((store_planned p f).1, (room_passed b _ (cells_passed (page_in b n) c _ (tile_passed (page_in b n) i _ w.1).1).1).1))

    pub store_index : i < 65536
    unfolding line_of
    store_index = let w = judged_so in omega (arith, (tile_passed (page_in b n) i _ w.1).0, (worked_of (page_in b n) w.0).tiles)

    pub store_made : (k : ℕ) {left : ℕ} {l : List ℕ} → left ≡ k - store_count change.writes → l ≡ stopped k change.writes b → Stops k change b (Ok p.long) (k - left) l
    unfolding change_on line_of plan_of
    store_made k g h = let q = store_planned p f in made_by_lem k change b q.0 (ap (λ (x : Plan). x.long) q.1) g h

-- the check, and then the call

module _ (call : Call) (b : List ℕ) (n : ℕ) {v : Result ⊤ Refusal} (e : v ≡ admitted (kind_of call).role b n (Ok tt)) where
  pub check_refused : (k : ℕ) (r : Refusal) → v ≡ Err r → Stops k (change_of call b n) b (Err r) 0 b
  unfolding change_of
  check_refused k r f = refused_by_lem k (change_of call b n) b r (refused_admitted (kind_of call).role b n r (change_on call b n).verdict (sym e ∙ f))

  pub check_passed :
      (k : ℕ) {a : Result ℕ Refusal} {m : ℕ} {l : List ℕ} → v ≡ Ok tt → Stops k (change_on call b n) b a m l → Stops k (change_of call b n) b a m l
  check_passed k f s = let w = admitted_wants (kind_of call).role b n (Ok tt) (sym e ∙ f) in rw (on_wanted call b n w.0 w.1.0) at s

-- with a budget that is enough it is the call

whole_by : (b : List ℕ) (c : Change) → (c.verdict ≡ Ok tt → Makes b c.writes c.page c.long) → stopped_by 18446744073709551615 c b ≡ out_by c b
unfolding out_by stores_by stopped_by answer_by answered unless_refused stopped cut run
whole_by b c m = go c.verdict refl
  where
    go :
        (v : Result ⊤ Refusal) → c.verdict ≡ v →
        stopped 18446744073709551615 (unless_refused_writes (answered v c.long) c.writes) b ≡ written (answered v c.long) c.page b
    go (Ok accepted) e = let q = m e in stopped_all 18446744073709551615 c.writes b q.few ∙ q.holds
    go (Err r) e = refl

pub whole_call :
    (call : Call) → CallMakes call → (b : List ℕ) (n : ℕ) → Bytes b → {l : List ℕ} →
    l ≡ stopped_by 18446744073709551615 (change_of call b n) b → l ≡ out_by (change_of call b n) b
unfolding change_of change_on
whole_call call m b n w h = h ∙ whole_by b (change_of call b n) (λ e. let p = passed call b n e in m b n w p.0 p.1.0 p.1.1)
