-- What each call is judged by: which refusal is given, and that none is. Assumes nothing.
use Rattle.std.specs.Prelude.{Err, Ok, Result, ⊤}
use Prim.Native.Nat.{ℕ, min, ◌≤◌, ◌<◌}
use mathlib.Core.Path.{◌≡◌, refl, sym, ap, ◌∙◌}
use mathlib.Core.List.{List, [], ◌∷◌}
use mathlib.Core.Bool.{Bool, true, false}
use native.Mathlib.Omega.{arith}
use lib.ListN.{length}
use Rattle.wire.specs.Tests.{Test, Holds, passes, ◌≤?◌}
use Rattle.wire.specs.Bytes.{part}
use Rattle.wire.proofs.TestLaws.{yes}
use Rattle.answer.specs.declared.Refusal.{Refusal}
use Rattle.answer.specs.declared.Refusal.TheVariants.{OutsideGrid, Input, NotOpen}
use Rattle.answer.specs.Refusals.{gate, unless_refused}
use Rattle.geometry.specs.Tiles.{tile_count}
use Rattle.geometry.specs.Sizes.{tile_bytes, cap}
use Rattle.page_check.specs.Stages.{check}
use Rattle.writable.specs.Writable.{open_for_writing}
use Rattle.correct.specs.Front.{page_in, workable}
use Rattle.correct.specs.Opening.{opened_length}
use Rattle.correct.specs.Closing.{closed_length}
use Rattle.correct.specs.Storing.{stored_length}
use Rattle.correct.specs.Answers.{on_page, on_open_page, on_accepted_page, workable_then, tile_then, cells_then, time_then, room_left, answered}
use Rattle.correct.specs.Calls.{Call, line_of, change_on, answer_by}
use Rattle.correct.proofs.ListLaws.{part_page}
use Rattle.effects.proofs.PassedLaws.{gate_no, gate_yes}
use Rattle.calls.specs.declared.Plan.{Plan}
use Rattle.calls.specs.declared.Judged.{Judged}
use Rattle.calls.specs.declared.Judged.TheVariants as judged
use Rattle.calls.specs.Layouts.{plan_of}
use Rattle.calls.proofs.ReadLaws.{worked_of, worked_page}

-- the page's length, and what the page is

pub accepted_past : (b : List ℕ) (n : ℕ) (v : Result ⊤ Refusal) → length b < n → Err Input ≡ on_accepted_page b n v
unfolding on_accepted_page on_page
accepted_past b n v h = gate_no _ Input _ (λ p. omega (arith, p.0))

pub open_past : (b : List ℕ) (n : ℕ) (v : Result ⊤ Refusal) → length b < n → Err Input ≡ on_open_page b n v
unfolding on_open_page on_page
open_past b n v h = gate_no _ Input _ (λ p. omega (arith, p.0))

module _ (b : List ℕ) (n : ℕ) {s : List ℕ} (h : n ≤ length b) (e : s ≡ part b 0 n) where
  pub check_told : {v : Result ⊤ Refusal} → v ≡ check s → v ≡ on_accepted_page b n (Ok tt)
  unfolding on_accepted_page on_page unless_refused
  check_told f = f ∙ ap check (part_page b n e) ∙ alone (check (page_in b n)) ∙ gate_yes _ Input _ (h, tt)
    where
      alone : (v : Result ⊤ Refusal) → v ≡ unless_refused Err v (Ok tt)
      alone (Ok accepted) = refl
      alone (Err r) = refl

  module _ {f : Bool} (g : f ≡ open_for_writing s) where
    told : {c : Bool} → f ≡ c → open_for_writing (page_in b n) ≡ c
    told z = ap open_for_writing (sym (part_page b n e)) ∙ sym g ∙ z

    pub open_not : f ≡ false → Err NotOpen ≡ on_open_page b n (Ok tt)
    unfolding on_open_page on_page gate
    open_not z = rw (← yes ((n ≤? length b) ∷ []) (h, tt), told z)

    pub open_yes : f ≡ true → Ok tt ≡ on_open_page b n (Ok tt)
    unfolding on_open_page on_page gate
    open_yes z = rw (← yes ((n ≤? length b) ∷ []) (h, tt), told z)

-- what is answered behind a test, of whatever kind the answer is

module _ {A : Type 0} (refused : Refusal → A) (x : A) where
  test_no : (l : List Test) (q : Refusal) (v : Result ⊤ Refusal) → (Holds l → ⊥) → refused q ≡ unless_refused refused (gate (passes l) q v) x
  unfolding unless_refused
  test_no l q v h = rw (← gate_no l q v h)

  test_yes : (l : List Test) (q : Refusal) (v : Result ⊤ Refusal) → Holds l → {a : A} → a ≡ unless_refused refused v x → a ≡ unless_refused refused (gate (passes l) q v) x
  test_yes l q v h e = e ∙ ap (λ (w : Result ⊤ Refusal). unless_refused refused w x) (gate_yes l q v h)

  pub time_zero : (t : ℕ) (v : Result ⊤ Refusal) → t ≡ 0 → refused Input ≡ unless_refused refused (time_then t v) x
  unfolding time_then
  time_zero t v e = test_no _ Input v (λ p. p.0 e)

  pub time_set : (t : ℕ) (v : Result ⊤ Refusal) → (t ≡ 0 → ⊥) → {a : A} → a ≡ unless_refused refused v x → a ≡ unless_refused refused (time_then t v) x
  unfolding time_then
  time_set t v z e = test_yes _ Input v (z, tt) e

  -- what every call takes for granted
  module _ (call : Call) (b : List ℕ) (n : ℕ) {s : List ℕ} {w : Bool} (e : s ≡ part b 0 n) (f : w ≡ workable s) where
    pub work_no : w ≡ false → refused NotOpen ≡ unless_refused refused (change_on call b n).verdict x
    unfolding change_on workable_then gate unless_refused
    work_no g = rw (worked_page b n e f g)

    pub work_yes : w ≡ true → {a : A} → a ≡ unless_refused refused (line_of call b (page_in b n)).verdict x → a ≡ unless_refused refused (change_on call b n).verdict x
    unfolding change_on workable_then gate
    work_yes g q = rw (worked_page b n e f g) q

  module _ (b : List ℕ) (n i count : ℕ) {s : List ℕ} (e : s ≡ part b 0 n) (f : count ≡ tile_count s) where
    count_is : count ≡ tile_count (page_in b n)
    count_is = f ∙ ap tile_count (part_page b n e)

    pub tile_outside : (v : Result ⊤ Refusal) → count ≤ i → refused OutsideGrid ≡ unless_refused refused (tile_then (page_in b n) i v) x
    unfolding tile_then
    tile_outside v h = test_no _ OutsideGrid v (λ p. omega (arith, p.0, count_is))

    pub tile_in_lem : (v : Result ⊤ Refusal) → i < count → {a : A} → a ≡ unless_refused refused v x → a ≡ unless_refused refused (tile_then (page_in b n) i v) x
    unfolding tile_then
    tile_in_lem v h g = test_yes _ OutsideGrid v (omega (arith, count_is), tt) g

  module _ (b : List ℕ) (n : ℕ) (c : List ℕ) (u : ℕ) {s : List ℕ} (o : workable (page_in b n) ≡ true) (e : s ≡ part b 0 n) (f : u ≡ min (tile_bytes s) cap) where
    bytes_is : u ≡ tile_bytes (page_in b n)
    bytes_is =
        let z : tile_bytes s ≡ tile_bytes (page_in b n) = ap tile_bytes (part_page b n e) in
        omega (arith, (worked_of (page_in b n) o).tile)

    pub cells_wrong : (v : Result ⊤ Refusal) → (length c ≡ u → ⊥) → refused Input ≡ unless_refused refused (cells_then (page_in b n) c v) x
    unfolding cells_then
    cells_wrong v z = test_no _ Input v (λ p. z (p.0 ∙ sym bytes_is))

    pub cells_right : (v : Result ⊤ Refusal) → length c ≡ u → {a : A} → a ≡ unless_refused refused v x → a ≡ unless_refused refused (cells_then (page_in b n) c v) x
    unfolding cells_then
    cells_right v h g = test_yes _ Input v (h ∙ bytes_is, tt) g

-- storing: the plan that is judged is that of the page

pub plan_told :
    (b : List ℕ) (n i : ℕ) {s : List ℕ} {p : Plan} {a : Judged} → s ≡ part b 0 n → p ≡ plan_of s i →
    a ≡ unless_refused judged.Refused (room_left b p.long) (judged.Planned p) →
    a ≡ unless_refused judged.Refused (room_left b (stored_length (page_in b n) i)) (judged.Planned (plan_of (page_in b n) i))
unfolding plan_of
plan_told b n i e f h =
    h ∙ ap (λ (q : Plan). unless_refused judged.Refused (room_left b q.long) (judged.Planned q)) (f ∙ ap (λ (x : List ℕ). plan_of x i) (part_page b n e))

-- the calls but storing, whose answer is a length

module _ (call : Call) (b : List ℕ) (n : ℕ) {s : List ℕ} {w : Bool} (e : s ≡ part b 0 n) (f : w ≡ workable s) where
  pub not_workable : w ≡ false → Err NotOpen ≡ answer_by (change_on call b n)
  unfolding answer_by answered
  not_workable g = work_no Err _ call b n e f g

  is_workable : w ≡ true → {a : Result ℕ Refusal} → a ≡ answer_by (line_of call b (page_in b n)) → a ≡ answer_by (change_on call b n)
  unfolding answer_by answered change_on
  is_workable g q = work_yes Err _ call b n e f g q

module _ (b : List ℕ) (n : ℕ) {s : List ℕ} {w : Bool} (e : s ≡ part b 0 n) (f : w ≡ workable s) (g : w ≡ true) where
  module _ (i : ℕ) {count : ℕ} (h : count ≡ tile_count s) where
    pub remove_outside : count ≤ i → Err OutsideGrid ≡ answer_by (change_on (Call.Removing i) b n)
    unfolding answer_by answered line_of
    remove_outside k = is_workable (Call.Removing i) b n e f g (tile_outside Err _ b n i count e h _ k)

    pub remove_long : i < count → Ok (length s) ≡ answer_by (change_on (Call.Removing i) b n)
    unfolding answer_by answered line_of unless_refused
    remove_long k = is_workable (Call.Removing i) b n e f g (tile_in_lem Err _ b n i count e h (Ok tt) k (ap (λ (x : List ℕ). Ok (length x)) (part_page b n e)))

  -- with a time, and a length that is worked out from the page
  timed_by : (t : ℕ) (l : List ℕ → ℕ) {m : ℕ} {a : Result ℕ Refusal} → m ≡ l s → a ≡ answered (time_then t (room_left b m)) m → a ≡ answered (time_then t (room_left b (l (page_in b n)))) (l (page_in b n))
  timed_by t l k q = q ∙ ap (λ (x : ℕ). answered (time_then t (room_left b x)) x) (k ∙ ap l (part_page b n e))

  pub open_timed : (t : ℕ) {m : ℕ} {a : Result ℕ Refusal} → m ≡ opened_length s → a ≡ answered (time_then t (room_left b m)) m → a ≡ answer_by (change_on (Call.Opening t) b n)
  unfolding answer_by line_of
  open_timed t k q = is_workable (Call.Opening t) b n e f g (timed_by t opened_length k q)

  pub close_timed : (t : ℕ) {m : ℕ} {a : Result ℕ Refusal} → m ≡ closed_length s → a ≡ answered (time_then t (room_left b m)) m → a ≡ answer_by (change_on (Call.Closing t) b n)
  unfolding answer_by line_of
  close_timed t k q = is_workable (Call.Closing t) b n e f g (timed_by t closed_length k q)
