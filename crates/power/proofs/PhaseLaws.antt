-- A sequence of calls on an accepted file: before it is opened no byte is stored; then its stores begin with a byte of the opened time,
-- and until it is closed none reaches into that byte or into what is judged. Assumes nothing.
use Rattle.std.specs.Prelude.{Err, Ok, Result}
use Rattle.answer.specs.declared.Refusal.{Refusal}
use Prim.Native.Nat.{ℕ}
use native.Mathlib.Omega.{arith}
use mathlib.Core.Path.{◌≡◌, refl, sym, ap, ◌∙◌}
use mathlib.Core.Logic.{◌⊎◌, inr, ⊎_elim}
use mathlib.Core.List.{List, [], ◌∷◌, ◌++◌, append_assoc, append-nil}
use mathlib.Core.Bool.{true}
use Rattle.wire.specs.Bytes.{Bytes, bytes_of}
use Rattle.wire.proofs.TestLaws.{not_both}
use Rattle.record.specs.Chain.{header_end}
use Rattle.header.specs.Fields.{time_opened}
use Rattle.check_header.specs.Judged.{SameJudged}
use Rattle.check_header.proofs.Judged.{end_same}
use Rattle.page_check.specs.Stages.{check}
use Rattle.page_check.specs.Accepted.{Sound}
use Rattle.page_check.proofs.AcceptedLaws.{accepted_obeys, accepted_sound}
use Rattle.writable.specs.Writable.{open_for_writing}
use Rattle.writable.proofs.OpenLaws.{open_means, open_sound}
use Rattle.stores.specs.Stores.{Write}
use Rattle.correct.specs.Calls.{Call, Given, AllGiven, Role, kind_of, Change, State, page_of, answer_of, stores_of, after, after_all}
use Rattle.effects.proofs.PassedLaws.{not_refused}
use Rattle.page_laws.proofs.FrontLaws.{judged_trans}
use Rattle.page_laws.proofs.PageLaws.{sound_judged}
use Rattle.lawful.specs.Marks.{time_bytes, SetsMark, KeepsMark, Marks}
use Rattle.effects.specs.Effects.{Wants}
use Rattle.lawful.specs.Lawful.{Leaves}
use Rattle.lawful.proofs.MarkLaws.{begins_append}
use Rattle.lawful.proofs.StepLaws.{line_in, refused_leaves, refused_stores, stepped, after_bytes}
use Rattle.power.specs.Calls.{stores_of_all, IsRefused, NoneCloses}

-- a page that is accepted is not open for writing
not_open : (p : List ℕ) → check p ≡ Ok tt → open_for_writing p ≡ true → ⊥
not_open p a b = not_both (accepted_obeys p a).not_opened (open_means p b).opened

-- the byte that an opening set is set still

time_same : (s t : List ℕ) → time_opened t ≡ time_opened s → time_bytes t ≡ time_bytes s
unfolding time_bytes
time_same s t e = ap (bytes_of 8) e

marked_then : {e : ℕ} {s page : List ℕ} {xs : List Write} (ys : List Write) → SetsMark e s xs → KeepsMark e s page ys → SetsMark e page (xs ++ ys)
marked_then {s = s} {page = page} ys m k =
    let z = time_same s page k.time in
    record { lowest = rw z m.lowest; begins = rw z (begins_append ys m.begins k.harmless) }

module _ (st0 : State) (a0 : check (page_of st0) ≡ Ok tt) where
  abbrev s : List ℕ
  s = page_of st0

  sound : Sound s
  sound = accepted_sound s a0

  abbrev e : ℕ
  e = header_end s

  -- opened, by the stores xs
  pub record OpenedBy (st : State) (xs : List Write) : Type 0 where
    pub marked : SetsMark e (page_of st) xs
    pub open_page_lem : open_for_writing (page_of st) ≡ true
    pub judged : SameJudged s (page_of st)

  -- not yet opened: nothing was stored
  pub record NotYet (st : State) (xs : List Write) : Type 0 where
    pub same : st ≡ st0
    pub none : xs ≡ []

  abbrev pub Phase : State → List Write → Type 0
  Phase st xs = NotYet st xs ⊎ OpenedBy st xs

  -- on the accepted file a call that is not refused opens it

  opens : (r : Role) (c : Change) → Wants r s → Leaves r c.page → Marks r s c → (open_for_writing c.page ≡ true) × SetsMark e c.page c.writes
  opens Role.Opens c w l m = (l, m)
  opens Role.Works c w l m = absurd (not_open s a0 w)
  opens Role.Closes c w l m = absurd (not_open s a0 w)

  pub closes_not : (call : Call) (m : ℕ) → (kind_of call).role ≡ Role.Closes → Bytes st0.buffer → Given call → answer_of call st0 ≡ Ok m → ⊥
  closes_not call m z b g q = go (kind_of call).role z (stepped call st0 m b g q).wanted
    where
      go : (r : Role) → r ≡ Role.Closes → Wants r s → ⊥
      go Role.Opens f w = let y : ◌≡◌ {A = ℕ} 0 1 = cc in absurd (omega arith)
      go Role.Works f w = not_open s a0 w
      go Role.Closes f w = not_open s a0 w

  first_call : (call : Call) (m : ℕ) → Bytes st0.buffer → Given call → answer_of call st0 ≡ Ok m → OpenedBy (after call st0) (stores_of call st0)
  first_call call m b g q =
      let w = stepped call st0 m b g q in
      let d = w.done in
      let o = opens (kind_of call).role (line_in call st0) w.wanted d.left d.marks in
      record { marked = rw (w.page, w.stores) o.1; open_page_lem = rw w.page o.0; judged = rw w.page (sound_judged sound d.follows.header) }

  -- and on an open page one that is not refused, and does not close it, leaves it open

  works :
      (r : Role) (p : List ℕ) (c : Change) → open_for_writing p ≡ true → (r ≡ Role.Closes → ⊥) → Wants r p → Leaves r c.page → Marks r p c →
      (open_for_writing c.page ≡ true) × KeepsMark (header_end p) p c.page c.writes
  works Role.Opens p c o n w l m = absurd (not_open p w o)
  works Role.Works p c o n w l m = (l, m)
  works Role.Closes p c o n w l m = absurd (n refl)

  next_call :
      (call : Call) (st : State) (xs : List Write) (m : ℕ) → OpenedBy st xs → Bytes st.buffer → Given call →
      ((kind_of call).role ≡ Role.Closes → IsRefused (answer_of call st)) → answer_of call st ≡ Ok m → OpenedBy (after call st) (xs ++ stores_of call st)
  next_call call st xs m w b g n q =
      let p = page_of st in
      let d = stepped call st m b g q in
      let o = works (kind_of call).role p (line_in call st) w.open_page_lem (λ z. not_refused (sym (n z).1 ∙ q)) d.wanted d.done.left d.done.marks in
      let ends : header_end p ≡ e = sym (end_same w.judged.frame) in
      record {
        marked = rw (d.page, d.stores) (marked_then (line_in call st).writes w.marked (rw ends at o.1));
        open_page_lem = rw d.page o.0;
        judged = rw d.page (judged_trans w.judged (sound_judged (open_sound p w.open_page_lem) d.done.follows.header));
      }

  one_call :
      (call : Call) (st : State) (xs : List Write) → Phase st xs → Bytes st.buffer → Given call →
      ((kind_of call).role ≡ Role.Closes → IsRefused (answer_of call st)) → Phase (after call st) (xs ++ stores_of call st)
  one_call call st xs p b g n = go (answer_of call st) refl
    where
      go : (a : Result ℕ Refusal) → answer_of call st ≡ a → Phase (after call st) (xs ++ stores_of call st)
      go (Err r) q = rw (refused_leaves call st r q, refused_stores call st r q, append-nil xs) p
      go (Ok m) q =
          ⊎_elim
          (λ y.
          let b0 : Bytes st0.buffer = rw y.same at b in
          let q0 : answer_of call st0 ≡ Ok m = rw y.same at q in
          inr (rw (y.same, y.none) (first_call call m b0 g q0)))
          (λ w. inr (next_call call st xs m w b g n q)) p

  pub all_calls :
      (calls : List Call) (st : State) (xs : List Write) → Phase st xs → Bytes st.buffer → AllGiven calls → NoneCloses calls st →
      Phase (after_all calls st) (xs ++ stores_of_all calls st) × Bytes (after_all calls st).buffer
  unfolding after_all stores_of_all
  all_calls [] st xs p b g n = (rw (append-nil xs) p, b)
  all_calls (call ∷ calls) st xs p b g n =
      let r = all_calls calls (after call st) (xs ++ stores_of call st) (one_call call st xs p b g.0 n.0) (after_bytes call st b g.0) g.1 n.1 in
      (rw (append_assoc xs (stores_of call st) (stores_of_all calls (after call st))) at r.0, r.1)
