-- Req 05: a cut after any byte store leaves the old page, the new page, or a file refused with 5. Assumes nothing.
use Prim.Native.Nat.{ℕ, ◌+◌, ◌-◌, ◌≤◌, ◌<◌}
use native.Mathlib.Omega.{arith}
use mathlib.Core.Path.{◌≡◌, refl, sym, ap, ◌∙◌}
use mathlib.Core.Logic.{inl, ⊎_elim}
use mathlib.Core.List.{List, [], ◌∷◌, ◌++◌, append_assoc, append-nil}
use lib.ListN.{length, take, drop, get_or, take-append-drop}
use Rattle.wire.specs.Bytes.{Bytes, Same, byte_at, part, zeros}
use Rattle.wire.proofs.ByteLaws.{same_append, part_in, part_length, part_at_lem, bytes_length}
use Rattle.record.specs.Chain.{header_end, records}
use Rattle.header.specs.Fields.{time_opened}
use Rattle.check_header.specs.Judged.{SameJudged}
use Rattle.check_header.proofs.Judged.{end_same}
use Rattle.page_check.specs.Accepted.{Sound}
use Rattle.page_check.proofs.AcceptedLaws.{accepted_sound}
use Rattle.page_check.proofs.GivenLaws.{sound_range}
use Rattle.stores.specs.Stores.{Write, run, store_count, stopped}
use Rattle.stores.specs.Writes.{one_write}
use Rattle.stores.proofs.StoreLaws.{stopped_none, stopped_all, length_stopped}
use Rattle.correct.specs.Front.{page_in}
use Rattle.correct.specs.Closing.{closed_page}
use Rattle.correct.specs.FieldWrites.{first_set}
use Rattle.correct.specs.Calls.{Call, Given, AllGiven, line_of, State, page_of, stores_of, after, after_all}
use Rattle.page_laws.proofs.FrontLaws.{judged_kept}
use Rattle.effects.proofs.MadeLaws.{run_append}
use Rattle.effects.proofs.FrontEffects.{run_none}
use Rattle.lawful.specs.Marks.{Harmless, time_bytes, mark_of, Ends}
use Rattle.lawful.proofs.HarmlessLaws.{harmless_append}
use Rattle.lawful.proofs.StepLaws.{line_in, Stepped, stepped, does, after_buffer, after_bytes}
use Rattle.corrected.proofs.SequenceLaws.{page_inside}
use Rattle.power.specs.Calls.{stores_of_all, cut_at}
use Rattle.power.specs.PowerCut.{and_close, Corrects, Cut, PowerCut}
use Rattle.power.proofs.CutLaws.{Between, between_refused}
use Rattle.power.proofs.CallLaws.{cut_all}
use Rattle.power.proofs.PhaseLaws.{OpenedBy, Phase, closes_not, all_calls}

-- calls and one more

all_then : (calls : List Call) (call : Call) (st : State) → after_all (calls ++ (call ∷ [])) st ≡ after call (after_all calls st)
unfolding after_all
all_then [] call st = refl
all_then (c ∷ calls) call st = all_then calls call (after c st)

stores_then : (calls : List Call) (call : Call) (st : State) → stores_of_all (calls ++ (call ∷ [])) st ≡ stores_of_all calls st ++ stores_of call (after_all calls st)
unfolding stores_of_all after_all
stores_then [] call st = append-nil (stores_of call st)
stores_then (c ∷ calls) call st =
    ap (λ (ws : List Write). stores_of c st ++ ws) (stores_then calls call (after c st))
    ∙ sym (append_assoc (stores_of c st) (stores_of_all calls (after c st)) (stores_of call (after_all calls (after c st))))

given_first : (calls : List Call) (call : Call) → AllGiven (calls ++ (call ∷ [])) → AllGiven calls
given_first [] call g = _
given_first (c ∷ calls) call g = (g.0, given_first calls call g.1)

given_last : (calls : List Call) (call : Call) → AllGiven (calls ++ (call ∷ [])) → Given call
given_last [] call g = g.0
given_last (c ∷ calls) call g = given_last calls call g.1

run_all : (calls : List Call) → AllGiven calls → (st : State) → Bytes st.buffer → run (stores_of_all calls st) st.buffer ≡ (after_all calls st).buffer
unfolding stores_of_all after_all
run_all [] g st w = run_none st.buffer
run_all (c ∷ calls) g st w =
    run_append (stores_of c st) (stores_of_all calls (after c st)) st.buffer
    ∙ ap (run (stores_of_all calls (after c st))) ((does c st w g.0).whole ∙ sym (after_buffer c st))
    ∙ run_all calls g.1 (after c st) (after_bytes c st w g.0)

module _ (st : State) (calls : List Call) (t m : ℕ) (c : Corrects st calls t m) where
  abbrev s : List ℕ
  s = page_of st

  abbrev st2 : State
  st2 = after_all calls st

  abbrev p : List ℕ
  p = page_of st2

  abbrev ws : List Write
  ws = stores_of_all (and_close calls t) st

  sound : Sound s
  sound = accepted_sound s c.accepted

  given : AllGiven calls
  given = given_first calls (Call.Closing t) c.given

  phases : Phase st c.accepted st2 ([] ++ stores_of_all calls st) × Bytes st2.buffer
  phases = all_calls st c.accepted calls st [] (inl (record { same = refl; none = refl })) c.bytes given c.none_closes

  -- between the byte that the opening sets and the one that the closing clears

  given_closing : Given (Call.Closing t)
  given_closing = given_last calls (Call.Closing t) c.given

  closing : Stepped (Call.Closing t) st2 m
  closing = stepped (Call.Closing t) st2 m phases.1 given_closing c.closes

  opened : OpenedBy st c.accepted st2 (stores_of_all calls st)
  opened = ⊎_elim (λ y. absurd (closes_not st c.accepted (Call.Closing t) m refl c.bytes given_closing (rw y.same at c.closes))) (λ w. w) phases.0

  abbrev v : List ℕ
  v = time_bytes p

  v_long : length v ≡ 8
  unfolding time_bytes
  v_long = bytes_length 8 (time_opened p)

  mark_inside : first_set v < 8
  mark_inside = omega (arith, opened.marked.lowest.inside, v_long)

  first_set_lem : get_or (part v (first_set v) 1) 0 0 ≡ 0 → ⊥
  unfolding byte_at
  first_set_lem z =
      let l = opened.marked.lowest in
      let e : first_set v + 0 ≡ first_set v = omega arith in
      l.set (ap (λ (x : ℕ). get_or v x 0) (sym e) ∙ sym (part_at_lem v (first_set v) 1 (omega (arith, l.inside)) 0 (omega arith)) ∙ z)

  clears : Ends (header_end p) (mark_of p) (stores_of (Call.Closing t) st2)
  clears = rw closing.stores closing.done.marks

  between_stores : Between (header_end s) (mark_of p) ws
  between_stores =
      let b = opened.marked.begins in
      let f = clears in
      let ends : header_end p ≡ header_end s = sym (end_same opened.judged.frame) in
      let h : Harmless (header_end s) (mark_of p) f.before = rw ends at f.harmless in
      let first = part v (first_set v) 1 in
      record {
        first = first;
        middle = b.middle ++ f.before;
        whole =
            stores_then calls (Call.Closing t) st
            ∙ ap (λ (xs : List Write). xs ++ stores_of (Call.Closing t) st2) b.whole
            ∙ ap (λ (ys : List Write). (one_write (mark_of p) first ++ b.middle) ++ ys) f.whole
            ∙ sym (append_assoc (one_write (mark_of p) first ++ b.middle) f.before (one_write (mark_of p) (zeros 1)))
            ∙ ap (λ (xs : List Write). xs ++ one_write (mark_of p) (zeros 1)) (append_assoc (one_write (mark_of p) first) b.middle f.before);
        one_first = part_length v (first_set v) 1 (omega (arith, opened.marked.lowest.inside));
        set = first_set_lem;
        harmless = harmless_append b.harmless h;
      }

  begins : (a b : ℕ) → b ≤ header_end s → Same s st.buffer a b
  unfolding page_of page_in
  begins a b k =
      let h = page_inside st.buffer st.long sound in
      let r = sound_range s (records s) sound in
      let x = take st.long st.buffer in
      let e : s ≡ x = part_in st.buffer 0 st.long (omega arith) in
      let l : b ≤ length x = omega (arith, r.header_inside, ap length e) in
      let y : Same x (x ++ drop st.long st.buffer) a b = same_append x (drop st.long st.buffer) a b l in
      rw e (rw (take-append-drop st.long st.buffer) at y)

  buffer_same : SameJudged s st.buffer
  buffer_same =
      let r = sound_range s (records s) sound in
      let w = begins 0 (header_end s) (omega arith) in
      judged_kept (begins 0 40 (omega (arith, r.header_least))) (begins 88 (header_end s - 4) (omega arith)) r.header_least r.header_inside w.in_second

  cut_is : (k : ℕ) → stopped k ws st.buffer ≡ cut_at k (and_close calls t) st
  cut_is k = cut_all (and_close calls t) c.given st c.bytes k

  closed_is : (line_in (Call.Closing t) st2).page ≡ closed_page p t
  unfolding line_of
  closed_is = refl

  last_page : page_in (stopped (store_count ws) ws st.buffer) m ≡ closed_page p t
  unfolding page_of
  last_page =
      let e : run ws st.buffer ≡ (after (Call.Closing t) st2).buffer =
      run_all (and_close calls t) c.given st c.bytes ∙ ap (λ (x : State). x.buffer) (all_then calls (Call.Closing t) st) in
      let l : (after (Call.Closing t) st2).long ≡ m = ap (λ (x : State). x.long) closing.state in
      rw (stopped_all (store_count ws) ws st.buffer (omega arith), e, ← l) (closing.page ∙ closed_is)

  pub power_cut_of : Cut st calls t m
  unfolding page_in
  power_cut_of =
      record {
        before = sym (cut_is 0) ∙ stopped_none ws st.buffer;
        behind = rw (← cut_is (store_count ws)) last_page;
        accepted = rw (← closed_is) closing.done.left;
        between =
            λ k g h l x y z.
            let a = length_stopped k ws st.buffer in
            let r = sound_range s (records s) sound in
            let b = between_refused s st.buffer (length s) (mark_of p) ws sound.headed buffer_same (omega (arith, r.header_least)) (omega arith) (omega (arith, mark_inside)) between_stores k g h l x y z in
            let f : part (stopped k ws st.buffer) 0 l ≡ take l (stopped k ws st.buffer) = part_in (stopped k ws st.buffer) 0 l (omega arith) in
            rw (← cut_is k, f) b;
      }

pub power_cut : PowerCut
power_cut st calls t m c = power_cut_of st calls t m c
