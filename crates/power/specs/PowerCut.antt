-- Req 05: "a cut after any single byte store leaves the old page (before the first store), the new page (after the last), or a file
-- refused with 5. State it for one opening, any calls, and one closing that isn't refused, on an accepted file; the page is the buffer
-- up to the length it has reached."
use Rattle.std.specs.Prelude.{ℕ, suc, ◌≤◌, ◌<◌, ◌≡◌, List, [], ◌∷◌, ◌++◌, length, Err, Ok}
use Rattle.wire.specs.Bytes.{Bytes, byte_at}
use Rattle.record.specs.Chain.{header_end}
use Rattle.answer.specs.declared.Refusal.TheVariants.{Opened}
use Rattle.check_header.specs.Ceilings.{most_file_bytes}
use Rattle.page_check.specs.Stages.{check}
use Rattle.stores.specs.Stores.{store_count}
use Rattle.correct.specs.Front.{page_in}
use Rattle.correct.specs.Closing.{closed_page}
use Rattle.correct.specs.Calls.{Call, Given, AllGiven, State, page_of, answer_of, out_of, stores_of, after_all}
use Rattle.power.specs.Calls.{stopped_out, stores_of_all, cut_at, NoneCloses}

-- calls, and then a closing
abbrev pub and_close : List Call → ℕ → List Call
and_close calls t = calls ++ (Call.Closing t ∷ [])

-- the state st has an accepted page. `calls` are any calls but a closing that is not refused; then the page is closed with t, and has m
-- bytes. An accepted file has to be opened first, so one opening among the calls is not refused; a second one is refused with 5, until
-- the page is closed
pub record Corrects (st : State) (calls : List Call) (t m : ℕ) : Type 0 where
  pub bytes : Bytes st.buffer
  pub accepted : check (page_of st) ≡ Ok tt
  pub given : AllGiven (and_close calls t)
  pub none_closes : NoneCloses calls st
  pub closes : answer_of (Call.Closing t) (after_all calls st) ≡ Ok m

pub record Cut (st : State) (calls : List Call) (t m : ℕ) : Type 0 where
  -- before the first store: the old page, in a buffer as it was
  pub before : cut_at 0 (and_close calls t) st ≡ st.buffer
  -- after the last: the new page, which is accepted
  pub behind : page_in (cut_at (store_count (stores_of_all (and_close calls t) st)) (and_close calls t) st) m ≡ closed_page (page_of (after_all calls st)) t
  pub accepted : check (closed_page (page_of (after_all calls st)) t) ≡ Ok tt
  -- after any number between: a file refused with 5, at every length from the header's end to the ceiling that the buffer has (Req 05,
  -- reading 5). Which length the page has reached in the midst of a call that makes it longer is not said, so it holds of each
  pub between :
      (k : ℕ) → 0 < k → k < store_count (stores_of_all (and_close calls t) st) → (l : ℕ) → header_end (page_of st) ≤ l → l ≤ most_file_bytes →
      l ≤ length st.buffer → check (page_in (cut_at k (and_close calls t) st) l) ≡ Err Opened

abbrev pub PowerCut : Type 0
PowerCut = (st : State) (calls : List Call) (t m : ℕ) → Corrects st calls t m → Cut st calls t m

-- "one more changing at most one byte": two buffers that differ at one place at most
pub record OneByte (d e : List ℕ) : Type 0 where
  pub place : ℕ
  pub long : length d ≡ length e
  pub others : (i : ℕ) → (i ≡ place → ⊥) → byte_at d i ≡ byte_at e i

-- of each call, refused or not, on any bytes
abbrev pub OneMore : Type 0
OneMore = (call : Call) (st : State) → Bytes st.buffer → Given call → (k : ℕ) → OneByte (stopped_out (suc k) call st) (stopped_out k call st)

-- "given enough, it is the call"
abbrev pub Enough : Type 0
Enough =
    (call : Call) (st : State) → Bytes st.buffer → Given call → (k : ℕ) → store_count (stores_of call st) ≤ k →
    stopped_out k call st ≡ out_of call st
