-- A call that stops, and calls one behind the other, cut after any byte store. Assumes nothing.
use Prim.Native.Nat.{ℕ, suc, ◌-◌, ◌<◌}
use native.Mathlib.Omega.{arith}
use mathlib.Core.Path.{◌≡◌, refl, sym, ap, ◌∙◌}
use mathlib.Core.List.{List, [], ◌∷◌}
use mathlib.Core.Bool.{Bool, true, false}
use lib.Dec.{leb}
use borrow.Author.Tests.{leb-true, leb-false}
use Rattle.wire.specs.Pick.{pick}
use Rattle.wire.specs.Bytes.{Bytes}
use Rattle.stores.specs.Stores.{run, cut, store_count, stopped, place}
use Rattle.stores.proofs.StoreLaws.{stopped_none, stopped_all, stopped_append, one_more_lem, length_stopped}
use Rattle.correct.specs.Calls.{Call, AllGiven, stopped_by, State, stores_of, after}
use Rattle.lawful.proofs.StepLaws.{does, after_buffer, after_bytes}
use Rattle.power.specs.Calls.{stopped_out, stores_of_all, cut_at}
use Rattle.power.specs.PowerCut.{OneMore, Enough}

-- given enough, it is the call; one more store changes one byte at most

pub enough : Enough
unfolding stopped_by
enough call st w g k h = stopped_all k (stores_of call st) st.buffer h ∙ (does call st w g).whole

pub one_more_store : OneMore
unfolding stopped_by
one_more_store call st w g k =
    let ws = stores_of call st in
    record {
      place = place k ws;
      long = length_stopped (suc k) ws st.buffer ∙ sym (length_stopped k ws st.buffer);
      others = λ i z. one_more_lem k ws st.buffer (does call st w g).fits i z;
    }

-- calls one behind the other

stopped_nothing : (k : ℕ) (d : List ℕ) → stopped k [] d ≡ d
unfolding stopped cut run
stopped_nothing k d = refl

pub cut_all : (calls : List Call) → AllGiven calls → (st : State) → Bytes st.buffer → (k : ℕ) → stopped k (stores_of_all calls st) st.buffer ≡ cut_at k calls st
unfolding stores_of_all cut_at stopped_by
cut_all [] g st w k = stopped_nothing k st.buffer
cut_all (call ∷ calls) g st w k =
    stopped_append k (stores_of call st) (stores_of_all calls (after call st)) st.buffer ∙ go (leb (store_count (stores_of call st)) k) refl (cut_all calls g.1 (after call st) (after_bytes call st w g.0))
  where
    go :
        (b : Bool) → leb (store_count (stores_of call st)) k ≡ b →
        ((j : ℕ) → stopped j (stores_of_all calls (after call st)) (after call st).buffer ≡ cut_at j calls (after call st)) →
        stopped (k - store_count (stores_of call st)) (stores_of_all calls (after call st)) (stopped k (stores_of call st) st.buffer)
        ≡ pick b (cut_at (k - store_count (stores_of call st)) calls (after call st)) (stopped_out k call st)
    go true e r =
        let h = leb-true (store_count (stores_of call st)) k e in
        let a = stopped_all k (stores_of call st) st.buffer h ∙ (does call st w g.0).whole ∙ sym (after_buffer call st) in
        ap (stopped (k - store_count (stores_of call st)) (stores_of_all calls (after call st))) a ∙ r (k - store_count (stores_of call st))
    go false e r =
        let h : k < store_count (stores_of call st) = leb-false (store_count (stores_of call st)) k e in
        let z : k - store_count (stores_of call st) ≡ 0 = omega arith in
        ap (λ (j : ℕ). stopped j (stores_of_all calls (after call st)) (stopped k (stores_of call st) st.buffer)) z
        ∙ stopped_none (stores_of_all calls (after call st)) (stopped k (stores_of call st) st.buffer)
