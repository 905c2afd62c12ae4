-- A replay is the calls by hand. Assumes nothing.
use Rattle.std.specs.Prelude.{Err, Ok, Result, Option, Some, None}
use Prim.Native.Nat.{ℕ, ◌+◌}
use native.Mathlib.Omega.{arith}
use mathlib.Core.Path.{◌≡◌, refl, ap, ◌∙◌}
use mathlib.Core.Logic.{◌⊎◌, inl, inr, ⊎_elim}
use mathlib.Core.List.{List, [], ◌∷◌, ◌++◌}
use lib.ListN.{length}
use Rattle.answer.specs.declared.Refusal.{Refusal}
use Rattle.correct.specs.Calls.{Call, State, answer_of, after, after_all}
use Rattle.replay.specs.Replay.{Outcome, replayed}
use Rattle.replay.specs.ByHand.{AllAnswered, ByHand}

-- one call more

module _ (call : Call) (calls : List Call) (st : State) (k : ℕ) where
  pub replayed_on : (m : ℕ) → answer_of call st ≡ Ok m → replayed (call ∷ calls) st k ≡ replayed calls (after call st) (k + 1)
  unfolding replayed
  replayed_on m e = rw e

  pub replayed_stop : (r : Refusal) → answer_of call st ≡ Err r → replayed (call ∷ calls) st k ≡ record { state = st; done = k; stop = Some r }
  unfolding replayed
  replayed_stop r e = rw e

-- what stopped it

pub none_by : {C : Type 0} (r : Refusal) → ◌≡◌ {A = Option Refusal} (Some r) None → C
none_by r e = let z : ◌≡◌ {A = ℕ} 0 1 = cc in absurd (omega arith)

pub by_is : {q r : Refusal} → ◌≡◌ {A = Option Refusal} (Some q) (Some r) → q ≡ r
by_is e = cc

-- from a number of entries done on

record Went (calls : List Call) (st : State) (k : ℕ) (o : Outcome) : Type 0 where
  each : AllAnswered calls st
  state : o.state ≡ after_all calls st
  done : o.done ≡ k + length calls
  stop : o.stop ≡ None

record Halted (calls : List Call) (st : State) (k : ℕ) (o : Outcome) : Type 0 where
  first : List Call
  call : Call
  rest : List Call
  whole : calls ≡ first ++ (call ∷ rest)
  each : AllAnswered first st
  by : Refusal
  refused : answer_of call (after_all first st) ≡ Err by
  state : o.state ≡ after_all first st
  done : o.done ≡ k + length first
  stop : o.stop ≡ Some by

-- behind a call that is not refused
module _ (call : Call) (calls : List Call) (st : State) (k m : ℕ) (q : answer_of call st ≡ Ok m) where
  same : replayed (call ∷ calls) st k ≡ replayed calls (after call st) (k + 1)
  same = replayed_on call calls st k m q

  went : Went calls (after call st) (k + 1) (replayed calls (after call st) (k + 1)) → Went (call ∷ calls) st k (replayed (call ∷ calls) st k)
  unfolding after_all
  went w =
      let d = w.done in
      record {
        each = (record { long = m; answer = q }, w.each);
        state = ap (λ (x : Outcome). x.state) same ∙ w.state;
        done = ap (λ (x : Outcome). x.done) same ∙ w.done ∙ omega arith;
        stop = ap (λ (x : Outcome). x.stop) same ∙ w.stop;
      }

  halted : Halted calls (after call st) (k + 1) (replayed calls (after call st) (k + 1)) → Halted (call ∷ calls) st k (replayed (call ∷ calls) st k)
  unfolding after_all
  halted w =
      record {
        first = call ∷ w.first;
        call = w.call;
        rest = w.rest;
        whole = ap (λ (x : List Call). call ∷ x) w.whole;
        each = (record { long = m; answer = q }, w.each);
        by = w.by;
        refused = w.refused;
        state = ap (λ (x : Outcome). x.state) same ∙ w.state;
        done = ap (λ (x : Outcome). x.done) same ∙ w.done ∙ omega arith;
        stop = ap (λ (x : Outcome). x.stop) same ∙ w.stop;
      }

-- and at one that is
halts : (call : Call) (calls : List Call) (st : State) (k : ℕ) (r : Refusal) → answer_of call st ≡ Err r → Halted (call ∷ calls) st k (replayed (call ∷ calls) st k)
unfolding after_all
halts call calls st k r q =
    let e = replayed_stop call calls st k r q in
    record {
      first = [];
      call = call;
      rest = calls;
      whole = refl;
      each = tt;
      by = r;
      refused = q;
      state = ap (λ (x : Outcome). x.state) e;
      done = ap (λ (x : Outcome). x.done) e ∙ omega arith;
      stop = ap (λ (x : Outcome). x.stop) e;
    }

hand : (calls : List Call) (st : State) (k : ℕ) → Went calls st k (replayed calls st k) ⊎ Halted calls st k (replayed calls st k)
unfolding replayed after_all
hand [] st k = inl (record { each = tt; state = refl; done = omega arith; stop = refl })
hand (call ∷ calls) st k = go (answer_of call st) refl (hand calls (after call st) (k + 1))
  where
    go :
        (a : Result ℕ Refusal) → answer_of call st ≡ a →
        Went calls (after call st) (k + 1) (replayed calls (after call st) (k + 1)) ⊎ Halted calls (after call st) (k + 1) (replayed calls (after call st) (k + 1)) →
        Went (call ∷ calls) st k (replayed (call ∷ calls) st k) ⊎ Halted (call ∷ calls) st k (replayed (call ∷ calls) st k)
    go (Ok m) q w = ⊎_elim (λ x. inl (went call calls st k m q x)) (λ x. inr (halted call calls st k m q x)) w
    go (Err r) q w = inr (halts call calls st k r q)

pub by_hand : ByHand
by_hand calls st =
    ⊎_elim (λ w. inl (record { each = w.each; state = w.state; done = w.done ∙ omega arith; stop = w.stop }))
    (λ w.
    inr
    (record {
      first = w.first;
      call = w.call;
      rest = w.rest;
      whole = w.whole;
      each = w.each;
      by = w.by;
      refused = w.refused;
      state = w.state;
      done = w.done ∙ omega arith;
      stop = w.stop;
    }))
    (hand calls st 0)
