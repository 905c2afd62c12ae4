-- What a call that is not refused has passed, and that a page is judged once. Assumes nothing.
use Rattle.std.specs.Prelude.{Err, Ok, Result, ⊤}
use Prim.Native.Nat.{ℕ, ◌≤◌, ◌<◌}
use mathlib.Core.Path.{◌≡◌, refl, sym, ap, ◌∙◌}
use mathlib.Core.List.{List, [], ◌∷◌}
use mathlib.Core.Bool.{Bool, true, false}
use native.Mathlib.Omega.{arith}
use lib.ListN.{length}
use Rattle.wire.specs.Tests.{Test, Holds, passes, ◌≤?◌}
use Rattle.wire.proofs.TestLaws.{means, yes, no}
use Rattle.answer.specs.declared.Refusal.{Refusal}
use Rattle.answer.specs.declared.Refusal.TheVariants.{Ceiling, Input, Room, NotOpen}
use Rattle.answer.specs.Refusals.{gate, unless_refused}
use Rattle.answer.proofs.VerdictLaws.{refused_not, gate_passed, behind_passed, same_behind}
use Rattle.record.specs.Chain.{records}
use Rattle.geometry.specs.Tiles.{tile_count}
use Rattle.geometry.specs.Sizes.{tile_bytes}
use Rattle.check_header.specs.Ceilings.{most_file_bytes}
use Rattle.page_check.specs.Stages.{check}
use Rattle.page_check.specs.Accepted.{Sound}
use Rattle.page_check.proofs.AcceptedLaws.{accepted_sound}
use Rattle.page_check.proofs.GivenLaws.{sound_range}
use Rattle.writable.proofs.OpenLaws.{open_sound}
use Rattle.correct.specs.Front.{page_in, workable}
use Rattle.correct.specs.Answers.{on_page, on_open_page, on_accepted_page, workable_then, tile_then, cells_then, time_then, room_left, answered}
use Rattle.correct.specs.Calls.{Call, Role, kind_of, line_of, admitted, judged_by, change_on, change_of}
use Rattle.effects.specs.Effects.{Wants, OnWanted, JudgedOnce}
use Rattle.effects.proofs.DirectoryStands.{directory_behind}

-- a test, and what is behind it

pub gate_no : (l : List Test) (r : Refusal) (v : Result ⊤ Refusal) → (Holds l → ⊥) → Err r ≡ gate (passes l) r v
unfolding gate
gate_no l r v h = rw (← no l h)

pub gate_yes : (l : List Test) (r : Refusal) (v : Result ⊤ Refusal) → Holds l → v ≡ gate (passes l) r v
unfolding gate
gate_yes l r v h = rw (← yes l h)

-- the room that is left

pub room_short : (b : List ℕ) (m : ℕ) → length b < m → Err Room ≡ room_left b m
unfolding room_left
room_short b m h = gate_no _ Room _ (λ p. omega (arith, p.0))

pub room_past : (b : List ℕ) (m : ℕ) → m ≤ length b → most_file_bytes < m → Err Ceiling ≡ room_left b m
unfolding room_left
room_past b m h g = gate_no _ Ceiling _ (λ p. omega (arith, p.0)) ∙ gate_yes _ Room _ (h, tt)

pub room_enough : (b : List ℕ) (m : ℕ) → m ≤ length b → m ≤ most_file_bytes → Ok tt ≡ room_left b m
unfolding room_left
room_enough b m h g = gate_yes _ Ceiling _ (g, tt) ∙ gate_yes _ Room _ (h, tt)

-- what is passed

pub room_passed : (b : List ℕ) (m : ℕ) → room_left b m ≡ Ok tt → (m ≤ length b) × (m ≤ most_file_bytes)
unfolding room_left
room_passed b m e =
    let a = gate_passed _ _ _ e in
    ((means _ a.0).0, (means _ (gate_passed _ _ _ a.1).0).0)

pub time_passed : (t : ℕ) (v : Result ⊤ Refusal) → time_then t v ≡ Ok tt → (t ≡ 0 → ⊥) × (v ≡ Ok tt)
unfolding time_then
time_passed t v e = let a = gate_passed _ _ _ e in ((means _ a.0).0, a.1)

pub tile_passed : (s : List ℕ) (i : ℕ) (v : Result ⊤ Refusal) → tile_then s i v ≡ Ok tt → (i < tile_count s) × (v ≡ Ok tt)
unfolding tile_then
tile_passed s i v e = let a = gate_passed _ _ _ e in let k = (means _ a.0).0 in (omega arith, a.1)

pub cells_passed : (s c : List ℕ) (v : Result ⊤ Refusal) → cells_then s c v ≡ Ok tt → (length c ≡ tile_bytes s) × (v ≡ Ok tt)
unfolding cells_then
cells_passed s c v e = let a = gate_passed _ _ _ e in ((means _ a.0).0, a.1)

-- an answer by its verdict

-- a refusal is no length
pub not_refused : {C : Type 0} {r : Refusal} {m : ℕ} → Err r ≡ Ok m → C
not_refused e = let z : ◌≡◌ {A = ℕ} 0 1 = cc in absurd (omega arith)

pub answer_passed : (v : Result ⊤ Refusal) (k m : ℕ) → answered v k ≡ Ok m → (v ≡ Ok tt) × (k ≡ m)
unfolding answered unless_refused
answer_passed (Ok accepted) k m e = (refl, cc)
answer_passed (Err r) k m e = not_refused e

pub answer_refused : (v : Result ⊤ Refusal) (k : ℕ) (r : Refusal) → answered v k ≡ Err r → v ≡ Err r
unfolding answered unless_refused
answer_refused (Ok accepted) k r e = not_refused (sym e)
answer_refused (Err q) k r e = let z : q ≡ r = cc in ap Err z

-- a page that a call is made on

pub sound_workable : {s : List ℕ} → Sound s → workable s ≡ true
unfolding workable
sound_workable {s} o =
    sym (yes _ (o.headed.ceilings, (omega (arith, (sound_range s (records s) o).header_least), (directory_behind s o.chain o.tile_directory, tt))))

pub admitted_wants : (r : Role) (b : List ℕ) (n : ℕ) (v : Result ⊤ Refusal) → admitted r b n v ≡ Ok tt → (n ≤ length b) × (Wants r (page_in b n) × (v ≡ Ok tt))
unfolding admitted on_accepted_page on_open_page on_page
admitted_wants Role.Opens b n v e = let a = gate_passed _ _ _ e in ((means _ a.0).0, behind_passed _ _ a.1)
admitted_wants Role.Works b n v e = let a = gate_passed _ _ _ e in ((means _ a.0).0, gate_passed _ _ _ a.1)
admitted_wants Role.Closes b n v e = let a = gate_passed _ _ _ e in ((means _ a.0).0, gate_passed _ _ _ a.1)

pub wanted_admitted : (r : Role) (b : List ℕ) (n : ℕ) (v : Result ⊤ Refusal) → n ≤ length b → Wants r (page_in b n) → admitted r b n v ≡ v
unfolding admitted on_accepted_page on_open_page on_page gate unless_refused
wanted_admitted Role.Opens b n v h w = rw (← yes ((n ≤? length b) ∷ []) (h, tt), w)
wanted_admitted Role.Works b n v h w = rw (← yes ((n ≤? length b) ∷ []) (h, tt), w)
wanted_admitted Role.Closes b n v h w = rw (← yes ((n ≤? length b) ∷ []) (h, tt), w)

gate_refused : (a : Bool) (p r : Refusal) (v w : Result ⊤ Refusal) → gate a p v ≡ Err r → (v ≡ Err r → w ≡ Err r) → gate a p w ≡ Err r
unfolding gate
gate_refused true p r v w e h = h e
gate_refused false p r v w e h = e

behind_refused : (u w : Result ⊤ Refusal) (r : Refusal) → unless_refused {A = Result ⊤ Refusal} Err u (Ok tt) ≡ Err r → unless_refused Err u w ≡ Err r
unfolding unless_refused
behind_refused (Ok accepted) w r e = refused_not (sym e)
behind_refused (Err q) w r e = e

pub refused_admitted : (k : Role) (b : List ℕ) (n : ℕ) (r : Refusal) (v : Result ⊤ Refusal) → admitted k b n (Ok tt) ≡ Err r → admitted k b n v ≡ Err r
unfolding admitted on_accepted_page on_open_page on_page
refused_admitted Role.Opens b n r v e = gate_refused _ Input r _ _ e (behind_refused (check (page_in b n)) v r)
refused_admitted Role.Works b n r v e = gate_refused _ Input r _ _ e (λ f. gate_refused _ NotOpen r (Ok tt) v f (λ z. refused_not (sym z)))
refused_admitted Role.Closes b n r v e = gate_refused _ Input r _ _ e (λ f. gate_refused _ NotOpen r (Ok tt) v f (λ z. refused_not (sym z)))

-- a call that is not refused
pub passed : (call : Call) (b : List ℕ) (n : ℕ) → (change_of call b n).verdict ≡ Ok tt → (n ≤ length b) × (Wants (kind_of call).role (page_in b n) × ((line_of call b (page_in b n)).verdict ≡ Ok tt))
unfolding change_of change_on workable_then
passed call b n e = let a = admitted_wants (kind_of call).role b n _ e in (a.0, (a.1.0, (gate_passed _ _ _ a.1.1).1))

pub on_wanted : OnWanted
unfolding change_of
on_wanted call b n h w = sym (ap (λ (v : Result ⊤ Refusal). judged_by v (change_on call b n)) (wanted_admitted (kind_of call).role b n (change_on call b n).verdict h w))

-- the test of what every call takes for granted is passed where the page is as the call wants it

gates_same : (a : Bool) (p : Refusal) (v w : Result ⊤ Refusal) → (a ≡ true → v ≡ w) → gate a p v ≡ gate a p w
unfolding gate
gates_same true p v w h = h refl
gates_same false p v w h = refl

workable_none : {s : List ℕ} (v : Result ⊤ Refusal) → Sound s → workable_then s v ≡ v
unfolding workable_then gate
workable_none v o = rw (sound_workable o)

admitted_same : (r : Role) (b : List ℕ) (n : ℕ) (v : Result ⊤ Refusal) → admitted r b n (workable_then (page_in b n) v) ≡ admitted r b n v
unfolding admitted on_accepted_page on_open_page on_page
admitted_same Role.Opens b n v = gates_same _ _ _ _ (λ e. same_behind Err _ _ _ (λ a. workable_none v (accepted_sound (page_in b n) a)))
admitted_same Role.Works b n v = gates_same _ _ _ _ (λ e. gates_same _ _ _ _ (λ o. workable_none v (open_sound (page_in b n) o)))
admitted_same Role.Closes b n v = gates_same _ _ _ _ (λ e. gates_same _ _ _ _ (λ o. workable_none v (open_sound (page_in b n) o)))

pub judged_once : JudgedOnce
unfolding change_of change_on
judged_once call b n = admitted_same (kind_of call).role b n (line_of call b (page_in b n)).verdict
