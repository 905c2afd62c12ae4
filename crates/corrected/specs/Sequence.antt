-- Req 03: "Over any sequence of calls that starts by opening an accepted file, each on what the last left, the tiles are those of a map
-- from index to bytes, untouched compressed tiles and metadata kept as they are." Refused calls, closings and openings again may stand
-- anywhere among them (Req 03, reading 19).
use Rattle.std.specs.Prelude.{ℕ, ◌≤◌, max, ◌≡◌, ◌⊎◌, Bool, true, false, List, [], ◌∷◌, length, drop, Err, Ok, Result}
use Rattle.answer.specs.declared.Refusal.{Refusal}
use Rattle.wire.specs.Bytes.{Bytes}
use Rattle.page_check.specs.Stages.{check}
use Rattle.writable.specs.Writable.{open_for_writing}
use Rattle.correct.specs.Front.{page_in}
use Rattle.correct.specs.Calls.{Call, Given, AllGiven, kind_of, moves, map_then, named_then, State, page_of, answer_of, after, after_all}
use Rattle.page_laws.specs.Tiles.{tiles_of, Follows, InPlace}
use Rattle.squeezed.specs.Squeezed.{stands_before}
use Rattle.lawful.specs.Lawful.{Leaves}

-- what is new where a call is not refused; a refused one leaves what was
abbrev pub if_done : {A : Type 0} → Result ℕ Refusal → A → A → A
if_done (Ok m) new old = new
if_done (Err r) new old = old

-- the map: what each tile holds, an element's content each, none for a tile that is not stored. s is a page with the tile's sizes
unfoldable pub map_after_all : List ℕ → List Call → State → (ℕ → List (List ℕ)) → ℕ → List (List ℕ)
map_after_all s [] st tiles = tiles
map_after_all s (call ∷ calls) st tiles = map_after_all s calls (after call st) (if_done (answer_of call st) (map_then s call tiles) tiles)

-- the tiles that the calls name
unfoldable pub named_after_all : List Call → State → (ℕ → Bool) → ℕ → Bool
named_after_all [] st named = named
named_after_all (call ∷ calls) st named = named_after_all calls (after call st) (if_done (answer_of call st) (named_then call named) named)

-- the highest length that the page has had, where it was `top` before the calls
unfoldable pub top_after_all : List Call → State → ℕ → ℕ
top_after_all [] st top = top
top_after_all (call ∷ calls) st top = top_after_all calls (after call st) (max top (after call st).long)

-- no call among them moves a record
abbrev pub NoneMoves : List Call → Type 0
NoneMoves [] = Unit {0}
NoneMoves (call ∷ calls) = (moves call ≡ false) × NoneMoves calls

-- squeezing alone may move one (Req 11, reading 11): "every promise of Req 03" on places is one of the other calls
pub record OthersStay : Type 0 where
  pub opening : (t : ℕ) → moves (Call.Opening t) ≡ false
  pub storing : (i : ℕ) (c : List ℕ) → moves (Call.Storing i c) ≡ false
  pub removing : (i : ℕ) → moves (Call.Removing i) ≡ false
  pub closing : (t : ℕ) → moves (Call.Closing t) ≡ false

-- where the calls start, and what they leave: a page that is accepted, or open for writing by whomever (Req 03,
-- reading 18)
abbrev pub AcceptedOrOpen : List ℕ → Type 0
AcceptedOrOpen s = (check s ≡ Ok tt) ⊎ (open_for_writing s ≡ true)

-- what holds of a state that a page s in a buffer b came to by calls that name the tiles `named`, where the map is `tiles` and the page was
-- no longer than `top`
pub record Holds (s b : List ℕ) (st : State) (named : ℕ → Bool) (tiles : ℕ → List (List ℕ)) (top : ℕ) : Type 0 where
  pub page : AcceptedOrOpen (page_of st)
  -- the header's bytes that no call sets are as they were, so are the bytes of metadata records and of tile records that no call names; the
  -- tiles are those of the map
  pub follows : Follows s (page_of st) named tiles
  -- tile records that no call names keep their order
  pub order : (i j : ℕ) → named i ≡ false → named j ≡ false → stands_before (page_of st) i j ≡ stands_before s i j
  -- the page lies in the buffer, whose bytes behind all that the page ever was are as they were
  pub inside : st.long ≤ length st.buffer
  pub room : length st.buffer ≡ length b
  pub reached : st.long ≤ top
  pub behind : drop top st.buffer ≡ drop top b

abbrev pub Sequence : Type 0
Sequence =
    (b : List ℕ) (n : ℕ) → Bytes b → AcceptedOrOpen (page_in b n) → (calls : List Call) → AllGiven calls →
    let start : State = record { buffer = b; long = n } in
    Holds (page_in b n) b (after_all calls start) (named_after_all calls start (λ j. false)) (map_after_all (page_in b n) calls start (tiles_of (page_in b n))) (top_after_all calls start n)

-- and where no call moves a record: what is kept keeps its place, the page is no shorter than it was, and the buffer's bytes behind it are as
-- they were
pub record Stays (s b : List ℕ) (st : State) (named : ℕ → Bool) : Type 0 where
  pub places : InPlace s (page_of st) named
  pub grown : length s ≤ st.long
  pub behind : drop st.long st.buffer ≡ drop st.long b

abbrev pub SequenceStays : Type 0
SequenceStays =
    (b : List ℕ) (n : ℕ) → Bytes b → AcceptedOrOpen (page_in b n) → (calls : List Call) → AllGiven calls → NoneMoves calls →
    let start : State = record { buffer = b; long = n } in
    Stays (page_in b n) b (after_all calls start) (named_after_all calls start (λ j. false))

-- "the file is then accepted": a closing that is not refused leaves an accepted file, any other such call a page open for writing
abbrev pub StateThen : Type 0
StateThen =
    (b : List ℕ) (n : ℕ) → Bytes b → AcceptedOrOpen (page_in b n) → (calls : List Call) → AllGiven calls → (call : Call) → Given call →
    let last : State = after_all calls (record { buffer = b; long = n }) in
    (m : ℕ) → answer_of call last ≡ Ok m → Leaves (kind_of call).role (page_of (after call last))
