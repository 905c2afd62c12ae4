-- Req 05: a sequence of calls, cut after any byte store.
use Rattle.std.specs.Prelude.{ℕ, ◌-◌, ◌≡◌, List, [], ◌∷◌, ◌++◌, leb, Err, Result}
use Rattle.wire.specs.Pick.{pick}
use Rattle.answer.specs.declared.Refusal.{Refusal}
use Rattle.stores.specs.Stores.{Write, store_count}
use Rattle.correct.specs.Calls.{Call, Role, kind_of, stopped_by, State, change_in, answer_of, stores_of, after}

-- what the buffer holds when a call stops after k byte stores
abbrev pub stopped_out : ℕ → Call → State → List ℕ
stopped_out k call st = stopped_by k (change_in call st) st.buffer

-- calls one behind the other, each on what the last left: all their byte stores, and what the buffer holds when the power is cut after
-- k of them, which is in the midst of one call
unfoldable pub stores_of_all : List Call → State → List Write
stores_of_all [] st = []
stores_of_all (call ∷ calls) st = stores_of call st ++ stores_of_all calls (after call st)

unfoldable pub cut_at : ℕ → List Call → State → List ℕ
cut_at k [] st = st.buffer
cut_at k (call ∷ calls) st =
    pick (leb (store_count (stores_of call st)) k) (cut_at (k - store_count (stores_of call st)) calls (after call st)) (stopped_out k call st)

-- no closing among them but a refused one
abbrev pub IsRefused : Result ℕ Refusal → Type 0
IsRefused a = (r : Refusal) × (a ≡ Err r)

abbrev pub NoneCloses : List Call → State → Type 0
NoneCloses [] st = Unit {0}
NoneCloses (call ∷ calls) st = ((kind_of call).role ≡ Role.Closes → IsRefused (answer_of call st)) × NoneCloses calls (after call st)
