-- A log replayed: what it is judged by, and the walk over its entries. Assumes nothing.
use Rattle.std.specs.Prelude.{Err, Ok, Result, ⊤, Option, Some, None}
use Prim.Native.Nat.{ℕ, ◌+◌, ◌-◌, ◌≤◌, ◌<◌, min}
use native.Mathlib.Omega.{arith}
use mathlib.Core.Path.{◌≡◌, refl, sym, ap, ◌∙◌}
use mathlib.Core.Logic.{◌⊎◌, inl, inr, ⊎_elim}
use mathlib.Core.List.{List, [], ◌∷◌}
use mathlib.Core.Bool.{Bool, true, false}
use lib.ListN.{length}
use Rattle.wire.specs.Tests.{◌≤?◌}
use Rattle.wire.specs.Bytes.{Bytes, part}
use Rattle.wire.proofs.TestLaws.{means, yes}
use Rattle.answer.specs.declared.Refusal.{Refusal}
use Rattle.answer.specs.declared.Refusal.TheVariants.{Input, NotOpen}
use Rattle.answer.specs.Refusals.{gate, unless_refused}
use Rattle.answer.proofs.VerdictLaws.{gate_passed, refused_not}
use Rattle.correction_logs.specs.Log.{end_of_entry, entry_right, log_right}
use Rattle.correction_logs.proofs.LogLaws.{end_least, Walks, walks_first, walks_on, walks_less, walks_right, right_least, right_end}
use Rattle.geometry.specs.Tiles.{tile_count}
use Rattle.geometry.specs.Sizes.{tile_bytes, cap}
use Rattle.writable.specs.Writable.{open_for_writing}
use Rattle.writable.proofs.OpenLaws.{open_sound}
use Rattle.correct.specs.Front.{page_in}
use Rattle.correct.specs.Answers.{on_page, on_open_page}
use Rattle.correct.specs.Calls.{Call, State, page_of, change_on, answer_by, stopped_by, answer_of, out_of}
use Rattle.correct.proofs.ListLaws.{part_page}
use Rattle.effects.proofs.PassedLaws.{sound_workable}
use Rattle.calls.proofs.JudgeLaws.{open_past}
use Rattle.calls.proofs.ReadLaws.{worked_of}
use Rattle.lawful.proofs.CaseLaws.{Refusing, refusing_gate}
use Rattle.lawful.proofs.StepLaws.{after_buffer, after_bytes, refused_leaves}
use Rattle.replay.specs.Entries.{call_at, calls_from, right_for, log_calls}
use Rattle.replay.specs.Replay.{Outcome, replayed, replay_verdict, outcome_of, told_of, told, replay_answer, replay_out}
use Rattle.replay.specs.ByHand.{WentThrough, StoppedAt, DoneBy, DoneByHand, StoppedBy, StoppedByHand, RefusedFirst}
use Rattle.replay.specs.declared.Replayed.{Replayed}
use Rattle.replay.specs.declared.Replayed.TheVariants.{Done, Stopped, Refused}
use Rattle.replay.proofs.EntryLaws.{call_entry, call_given, calls_none, calls_next, calls_given, calls_entries, calls_right}
use Rattle.replay.proofs.HandLaws.{replayed_on, replayed_stop, none_by, by_is, by_hand}
use Rattle.replay.proofs.StepLaws.{entry_answers, entry_writes, step_open, step_after, stays_open, stopped_for}

-- what is judged before the page is touched

pub open_tile : (s : List ℕ) {u : ℕ} → open_for_writing s ≡ true → u ≡ min (tile_bytes s) cap → u ≡ tile_bytes s
open_tile s o e = omega (arith, (worked_of s (sound_workable (open_sound s o))).tile)

module _ (b : List ℕ) (n : ℕ) (log : List ℕ) where
  pub judged_past : length b < n → Err Input ≡ replay_verdict b n log
  unfolding replay_verdict
  judged_past h = open_past b n _ h

  module _ {s : List ℕ} (h : n ≤ length b) (e : s ≡ part b 0 n) {f : Bool} (g : f ≡ open_for_writing s) where
    opened : {c : Bool} → f ≡ c → open_for_writing (page_in b n) ≡ c
    opened z = ap open_for_writing (sym (part_page b n e)) ∙ sym g ∙ z

    pub judged_closed : f ≡ false → Err NotOpen ≡ replay_verdict b n log
    unfolding replay_verdict on_open_page on_page gate
    judged_closed z = rw (← yes ((n ≤? length b) ∷ []) (h, tt), opened z)

    module _ (o : f ≡ true) {k u : ℕ} {x : Bool} (p : k ≡ tile_count s) (q : u ≡ min (tile_bytes s) cap) (r : x ≡ log_right k u log) where
      logged : {c : Bool} → x ≡ c → right_for (page_in b n) log ≡ c
      unfolding right_for
      logged z =
          let i = part_page b n e in
          let t : u ≡ tile_bytes s = open_tile s (sym g ∙ o) q in
          ap (λ (y : List ℕ). log_right (tile_count y) (tile_bytes y) log) (sym i) ∙ sym (r ∙ rw (p, t)) ∙ z

      pub judged_wrong : x ≡ false → Err Input ≡ replay_verdict b n log
      unfolding replay_verdict on_open_page on_page gate
      judged_wrong z = rw (← yes ((n ≤? length b) ∷ []) (h, tt), opened o, logged z)

      pub judged_right : x ≡ true → Ok tt ≡ replay_verdict b n log
      unfolding replay_verdict on_open_page on_page gate
      judged_right z = rw (← yes ((n ≤? length b) ∷ []) (h, tt), opened o, logged z)

  pub record Admitted : Type 0 where
    pub inside : n ≤ length b
    pub open_page_lem : open_for_writing (page_in b n) ≡ true
    pub right : log_right (tile_count (page_in b n)) (tile_bytes (page_in b n)) log ≡ true

  pub admitted : replay_verdict b n log ≡ Ok tt → Admitted
  unfolding replay_verdict on_open_page on_page right_for
  admitted e =
      let x = gate_passed _ _ _ e in
      let y = gate_passed _ _ _ x.1 in
      record { inside = (means _ x.0).0; open_page_lem = y.0; right = (gate_passed _ _ _ y.1).0 }

  pub tile_told_lem : {s : List ℕ} {u : ℕ} → replay_verdict b n log ≡ Ok tt → s ≡ part b 0 n → u ≡ min (tile_bytes s) cap → u ≡ tile_bytes (page_in b n)
  tile_told_lem v e f = open_tile (page_in b n) (admitted v).open_page_lem (f ∙ ap (λ (x : List ℕ). min (tile_bytes x) cap) (part_page b n e))

  -- what is answered then

  pub answer_refused : {v : Result ⊤ Refusal} → v ≡ replay_verdict b n log → (r : Refusal) → v ≡ Err r → (Refused r ≡ replay_answer b n log) × (b ≡ replay_out b n log)
  unfolding replay_answer replay_out unless_refused
  answer_refused e r f = rw (← e, f) (refl, refl)

  pub answer_done :
      {v : Result ⊤ Refusal} → v ≡ replay_verdict b n log → v ≡ Ok tt → {x : Replayed} {l : List ℕ} → x ≡ told (outcome_of b n log) →
      l ≡ (outcome_of b n log).state.buffer → (x ≡ replay_answer b n log) × (l ≡ replay_out b n log)
  unfolding replay_answer replay_out unless_refused
  answer_done e f p q = rw (← e, f) (p, q)

-- the walk: what is still to do comes to what the whole comes to

module _ (m t : ℕ) (log : List ℕ) (o : Outcome) where
  pub record Going (at : ℕ) (d : List ℕ) (k done : ℕ) : Type 0 where
    pub rest : replayed (calls_from m t log at) (record { buffer = d; long = k }) done ≡ o
    pub walks : Walks m t log at
    pub right : log_right m t log ≡ true
    pub bytes : Bytes d
    pub open_page_lem : open_for_writing (page_in d k) ≡ true
    pub few : done + 5 ≤ at

  module _ {at : ℕ} {d : List ℕ} {k done : ℕ} (w : Going at d k done) where
    pub going_inside : at ≤ length log
    going_inside = w.walks.inside

    -- to the end
    pub going_end : length log ≤ at → (Done k done ≡ told o) × (d ≡ o.state.buffer)
    unfolding told replayed
    going_end h =
        let e : record { state = record { buffer = d; long = k }; done = done; stop = None } ≡ o
        = sym (ap (λ (calls : List Call). replayed calls (record { buffer = d; long = k }) done) (calls_none m t log at h)) ∙ w.rest
        in
        (ap told e, ap (λ (x : Outcome). x.state.buffer) e)

    -- or an entry more
    module _ (h : at < length log) (y : Bytes log) {a : Result ℕ Refusal} {l : List ℕ} (e : a ≡ answer_by (change_on (call_at t log at) d k)) (f : l ≡ stopped_by 18446744073709551615 (change_on (call_at t log at) d k) d) where
      abbrev call : Call
      call = call_at t log at

      abbrev here : State
      here = record { buffer = d; long = k }

      entry : entry_right m t log at ≡ true
      entry = walks_right m t log at w.walks w.right h

      next : replayed (call ∷ calls_from m t log (end_of_entry t log at)) here done ≡ o
      next = sym (ap (λ (calls : List Call). replayed calls here done) (calls_next m t log at entry)) ∙ w.rest

      answers : a ≡ answer_of call here
      answers = entry_answers d k w.bytes w.open_page_lem call (call_entry t log at) (call_given t log at y) e

      writes : l ≡ out_of call here
      writes = entry_writes d k w.bytes w.open_page_lem call (call_entry t log at) (call_given t log at y) f

      pub going_less : {q : ℕ} → q ≡ min (end_of_entry t log at) (length log) → length log - q < length log - at
      going_less {q} g = walks_less m t log at q going_inside (sym entry) (right_end m t log at q entry g)

      pub going_on : (j : ℕ) → a ≡ Ok j → {q : ℕ} → q ≡ min (end_of_entry t log at) (length log) → Going q l j (done + 1)
      unfolding page_of
      going_on j p {q} g =
          let i = right_end m t log at q entry g in
          let x = step_after d k w.bytes w.open_page_lem call (call_entry t log at) (call_given t log at y) j (sym answers ∙ p) writes in
          let z = step_open d k w.bytes w.open_page_lem call (call_entry t log at) (call_given t log at y) j (sym answers ∙ p) in
          let u = replayed_on call (calls_from m t log (end_of_entry t log at)) here done j (sym answers ∙ p) in
          record {
            rest = rw (i, ← x) (sym u ∙ next);
            walks = walks_on m t log at q w.walks (sym entry) i;
            right = w.right;
            bytes = rw x at (after_bytes call here w.bytes (call_given t log at y));
            open_page_lem = rw x at z;
            few = omega (arith, i, w.few, end_least t log at);
          }

      pub going_stop : (r : Refusal) → a ≡ Err r → (Stopped r k done ≡ told o) × (l ≡ o.state.buffer)
      unfolding told
      going_stop r p =
          let e = sym (replayed_stop call (calls_from m t log (end_of_entry t log at)) here done r (sym answers ∙ p)) ∙ next in
          let u = sym (after_buffer call here) ∙ ap (λ (st : State). st.buffer) (refused_leaves call here r (sym answers ∙ p)) in
          (ap told e, writes ∙ u ∙ ap (λ (x : Outcome). x.state.buffer) e)

pub going_first :
    (b : List ℕ) (n : ℕ) (log : List ℕ) {t : ℕ} → Bytes b → replay_verdict b n log ≡ Ok tt → t ≡ tile_bytes (page_in b n) →
    Going (tile_count (page_in b n)) t log (outcome_of b n log) 5 b n 0
unfolding outcome_of log_calls
going_first b n log v e f =
    let a = admitted b n log e in
    record {
      rest = rw f;
      walks = rw f (walks_first _ _ log (right_least _ _ log a.right));
      right = rw f a.right;
      bytes = v;
      open_page_lem = a.open_page_lem;
      few = omega arith;
    }

-- what an answer tells

not_done : {C : Type 0} {r : Refusal} {m k p l : ℕ} → Stopped r m k ≡ Done p l → C
not_done e = let z : ◌≡◌ {A = ℕ} 0 1 = cc in absurd (omega arith)

not_refused : {C : Type 0} {r : Refusal} {m k : ℕ} → Refused r ≡ Done m k → C
not_refused e = let z : ◌≡◌ {A = ℕ} 0 1 = cc in absurd (omega arith)

not_stopped : {C : Type 0} {q r : Refusal} {m k : ℕ} → Refused q ≡ Stopped r m k → C
not_stopped e = let z : ◌≡◌ {A = ℕ} 0 1 = cc in absurd (omega arith)

told_done : (o : Outcome) (m k : ℕ) → told o ≡ Done m k → (o.stop ≡ None) × ((o.state.long ≡ m) × (o.done ≡ k))
unfolding told
told_done o m k = go o.stop refl
  where
    go : (x : Option Refusal) → o.stop ≡ x → told_of x o.state o.done ≡ Done m k → (o.stop ≡ None) × ((o.state.long ≡ m) × (o.done ≡ k))
    go None e f = (e, (cc, cc))
    go (Some r) e f = not_done f

told_stopped : (o : Outcome) (r : Refusal) (m k : ℕ) → told o ≡ Stopped r m k → (o.stop ≡ Some r) × ((o.state.long ≡ m) × (o.done ≡ k))
unfolding told
told_stopped o r m k = go o.stop refl
  where
    go : (x : Option Refusal) → o.stop ≡ x → told_of x o.state o.done ≡ Stopped r m k → (o.stop ≡ Some r) × ((o.state.long ≡ m) × (o.done ≡ k))
    go None e f = not_done (sym f)
    go (Some q) e f = let z : q ≡ r = cc in (e ∙ ap Some z, (cc, cc))

module _ (b : List ℕ) (n : ℕ) (log : List ℕ) where
  abbrev calls : List Call
  calls = log_calls (page_in b n) log

  abbrev start : State
  start = record { buffer = b; long = n }

  -- refused before the first entry, or what the entries come to

  pub record Went : Type 0 where
    pub accepted : replay_verdict b n log ≡ Ok tt
    pub answer : replay_answer b n log ≡ told (outcome_of b n log)
    pub out : replay_out b n log ≡ (outcome_of b n log).state.buffer

  pub record Turned (r : Refusal) : Type 0 where
    pub refused : replay_verdict b n log ≡ Err r
    pub answer : replay_answer b n log ≡ Refused r
    pub out : replay_out b n log ≡ b

  pub either : {C : Type 0} → ((r : Refusal) → Turned r → C) → (Went → C) → C
  unfolding replay_answer replay_out unless_refused
  either {C} f g = go (replay_verdict b n log) refl
    where
      go : (x : Result ⊤ Refusal) → replay_verdict b n log ≡ x → C
      go (Ok accepted) e = g (record { accepted = e; answer = rw e; out = rw e })
      go (Err r) e = f r (record { refused = e; answer = rw e; out = rw e })

  first_alone : Refusing (λ r. (r ≡ Input) ⊎ (r ≡ NotOpen)) (replay_verdict b n log)
  unfolding replay_verdict on_open_page on_page
  first_alone =
      refusing_gate (λ r. (r ≡ Input) ⊎ (r ≡ NotOpen)) _ Input _ (inl refl)
      (refusing_gate (λ r. (r ≡ Input) ⊎ (r ≡ NotOpen)) _ NotOpen _ (inr refl)
      (refusing_gate (λ r. (r ≡ Input) ⊎ (r ≡ NotOpen)) _ Input _ (inl refl) (λ r e. refused_not (sym e))))

  -- the page and its length then

  module _ (w : Went) where
    left_is : {m : ℕ} → (outcome_of b n log).state.long ≡ m → record { buffer = replay_out b n log; long = m } ≡ (outcome_of b n log).state
    left_is l = rw (w.out, ← l)

    left_open : Bytes b → Bytes log → {m : ℕ} → (outcome_of b n log).state.long ≡ m → open_for_writing (page_in (replay_out b n log) m) ≡ true
    unfolding outcome_of log_calls page_of
    left_open v y l =
        ap (λ (st : State). open_for_writing (page_of st)) (left_is l)
        ∙ stays_open b n v (admitted b n log w.accepted).open_page_lem calls (calls_given _ _ log y 5) (calls_entries _ _ log 5)

    done_by : Bytes b → Bytes log → (m k : ℕ) → told (outcome_of b n log) ≡ Done m k → DoneBy b n log m k
    unfolding outcome_of
    done_by v y m k e =
        let x = told_done (outcome_of b n log) m k e in
        ⊎_elim
        (λ (z : WentThrough calls start (replayed calls start 0)).
        record { each = z.each; left = left_is x.1.0 ∙ z.state; entries = sym x.1.1 ∙ z.done; open_page_lem = left_open v y x.1.0 })
        (λ (z : StoppedAt calls start (replayed calls start 0)). none_by z.by (sym z.stop ∙ x.0)) (by_hand calls start)

    stopped_by_lem : Bytes b → Bytes log → (r : Refusal) (m k : ℕ) → told (outcome_of b n log) ≡ Stopped r m k → StoppedBy b n log r m k
    unfolding outcome_of log_calls page_of
    stopped_by_lem v y r m k e =
        let x = told_stopped (outcome_of b n log) r m k e in
        let o = (admitted b n log w.accepted).open_page_lem in
        ⊎_elim (λ (z : WentThrough calls start (replayed calls start 0)). none_by r (sym x.0 ∙ z.stop))
        (λ (z : StoppedAt calls start (replayed calls start 0)).
        record {
          which = stopped_for calls start 0 v o (calls_given _ _ log y 5) (calls_entries _ _ log 5) (calls_right _ _ log 5) r x.0;
          first = z.first;
          call = z.call;
          rest = z.rest;
          whole = z.whole;
          each = z.each;
          refused = z.refused ∙ ap Err (by_is (sym z.stop ∙ x.0));
          left = left_is x.1.0 ∙ z.state;
          entries = sym x.1.1 ∙ z.done;
          open_page_lem = left_open v y x.1.0;
        })
        (by_hand calls start)

pub done_by_hand : DoneByHand
done_by_hand b n log v y m k e = either b n log (λ r x. not_refused (sym x.answer ∙ e)) (λ w. done_by b n log w v y m k (sym w.answer ∙ e))

pub stopped_by_hand : StoppedByHand
stopped_by_hand b n log v y r m k e = either b n log (λ q x. not_stopped (sym x.answer ∙ e)) (λ w. stopped_by_lem b n log w v y r m k (sym w.answer ∙ e))

told_not : {C : Type 0} (o : Outcome) (r : Refusal) → told o ≡ Refused r → C
unfolding told
told_not {C} o r = go o.stop
  where
    go : (x : Option Refusal) → told_of x o.state o.done ≡ Refused r → C
    go None e = not_refused (sym e)
    go (Some q) e = not_stopped (sym e)

pub refused_first : RefusedFirst
refused_first b n log r e =
    either b n log (λ q x. let z : q ≡ r = refusal_is (sym x.answer ∙ e) in (rw z at (first_alone b n log q x.refused), x.out))
    (λ w. told_not (outcome_of b n log) r (sym w.answer ∙ e))
  where
    refusal_is : {q r : Refusal} → Refused q ≡ Refused r → q ≡ r
    refusal_is e = cc

pub record ToTheEnd (b : List ℕ) (n : ℕ) (log : List ℕ) (m : ℕ) : Type 0 where
  pub accepted : replay_verdict b n log ≡ Ok tt
  pub left : record { buffer = replay_out b n log; long = m } ≡ (outcome_of b n log).state
  pub stop : (outcome_of b n log).stop ≡ None

pub to_the_end : (b : List ℕ) (n : ℕ) (log : List ℕ) (m k : ℕ) → replay_answer b n log ≡ Done m k → ToTheEnd b n log m
to_the_end b n log m k e =
    either b n log (λ r x. not_refused (sym x.answer ∙ e))
    (λ w.
    let x = told_done (outcome_of b n log) m k (sym w.answer ∙ e) in
    record { accepted = w.accepted; left = left_is b n log w x.1.0; stop = x.0 })
