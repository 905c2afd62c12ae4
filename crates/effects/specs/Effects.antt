-- Req 03 and Req 05: where a call is not refused, its byte stores make the page that it is to make, and no byte behind it changes.
use Rattle.std.specs.Prelude.{ℕ, ◌≤◌, ◌≡◌, true, List, ◌++◌, length, drop, Ok}
use Rattle.wire.specs.Bytes.{Bytes}
use Rattle.page_check.specs.Stages.{check}
use Rattle.writable.specs.Writable.{open_for_writing}
use Rattle.stores.specs.Stores.{Write, run, store_count, Fits}
use Rattle.correct.specs.Front.{page_in}
use Rattle.correct.specs.Calls.{Call, Role, kind_of, line_of, admitted, change_on, change_of}

-- a page that a call of a role is made on
abbrev pub Wants : Role → List ℕ → Type 0
Wants Role.Opens s = check s ≡ Ok tt
Wants Role.Works s = open_for_writing s ≡ true
Wants Role.Closes s = open_for_writing s ≡ true

-- on such a page a call that is made without a check is the call; and what no check is needed for is judged of no call's page twice
abbrev pub OnWanted : Type 0
OnWanted = (call : Call) (b : List ℕ) (n : ℕ) → n ≤ length b → Wants (kind_of call).role (page_in b n) → change_on call b n ≡ change_of call b n

abbrev pub JudgedOnce : Type 0
JudgedOnce = (call : Call) (b : List ℕ) (n : ℕ) → (change_of call b n).verdict ≡ admitted (kind_of call).role b n (line_of call b (page_in b n)).verdict

-- the writes ws make the page, m bytes long, in buffer b: run whole they leave it with what stood behind it, each ends in it, and a
-- number of 64 bits counts their byte stores
pub record Makes (b : List ℕ) (ws : List Write) (page : List ℕ) (m : ℕ) : Type 0 where
  pub long : length page ≡ m
  pub holds : run ws b ≡ page ++ drop m b
  pub fits : Fits m ws
  pub few : store_count ws ≤ 18446744073709551615

-- on a page that it is made on, a call's byte stores make its page, where it is not refused
abbrev pub CallMakes : Call → Type 0
CallMakes call =
    (b : List ℕ) (n : ℕ) → Bytes b → n ≤ length b → Wants (kind_of call).role (page_in b n) → (line_of call b (page_in b n)).verdict ≡ Ok tt →
    Makes b (line_of call b (page_in b n)).writes (line_of call b (page_in b n)).page (line_of call b (page_in b n)).long
