-- What the tiles depend on after a replay. Assumes nothing.
use Rattle.std.specs.Prelude.{Err, Ok, Result, None}
use Rattle.answer.specs.declared.Refusal.{Refusal}
use Prim.Native.Nat.{ℕ, ◌+◌}
use mathlib.Core.Path.{◌≡◌, refl, sym, ap, ◌∙◌}
use mathlib.Core.Logic.{inr}
use mathlib.Core.List.{List, [], ◌∷◌}
use mathlib.Core.Bool.{Bool, true, false}
use lib.Dec.{eqb}
use Rattle.wire.specs.Pick.{pick}
use Rattle.alone.specs.Alone.{SameHeader}
use Rattle.page_laws.specs.Tiles.{tiles_of}
use Rattle.correct.specs.Front.{page_in}
use Rattle.correct.specs.Storing.{plain_contents}
use Rattle.correct.specs.Calls.{Call, map_then, State, page_of, answer_of, after, after_all}
use Rattle.lawful.proofs.CaseLaws.{lawful}
use Rattle.corrected.specs.Sequence.{map_after_all}
use Rattle.corrected.proofs.SequenceLaws.{sequence}
use Rattle.replay.specs.Entries.{log_calls}
use Rattle.replay.specs.Replay.{Outcome, replayed, go_on, outcome_of}
use Rattle.replay.specs.ByHand.{Answered}
use Rattle.replay.specs.Tiles.{Last, Untouched, Stored, Removed, unless_later, last_of, last_for, tile_after, LastEntry, SameTiles, LogLastEntry, LogsSameTiles}
use Rattle.replay.proofs.EntryLaws.{calls_given}
use Rattle.replay.proofs.HandLaws.{replayed_on, none_by}
use Rattle.replay.proofs.LogLaws.{admitted, to_the_end}

-- not stopped: each call was done

first_done : (call : Call) (calls : List Call) (st : State) (k : ℕ) → (replayed (call ∷ calls) st k).stop ≡ None → Answered call st
unfolding replayed
first_done call calls st k e = go (answer_of call st) refl e
  where
    go : (a : Result ℕ Refusal) → answer_of call st ≡ a → (go_on a (replayed calls (after call st) (k + 1)) st k).stop ≡ None → Answered call st
    go (Ok m) q f = record { long = m; answer = q }
    go (Err r) q f = none_by r f

all_done : (calls : List Call) (st : State) (k : ℕ) → (replayed calls st k).stop ≡ None → (replayed calls st k).state ≡ after_all calls st
unfolding replayed after_all
all_done [] st k e = refl
all_done (call ∷ calls) st k e =
    let d = first_done call calls st k e in
    let r = replayed_on call calls st k d.long d.answer in
    ap (λ (o : Outcome). o.state) r ∙ all_done calls (after call st) (k + 1) (sym (ap (λ (o : Outcome). o.stop) r) ∙ e)

-- the last call decides

later : (s : List ℕ) (call : Call) (tiles : ℕ → List (List ℕ)) (j : ℕ) (l : Last) →
    tile_after s (map_then s call tiles j) l ≡ tile_after s (tiles j) (unless_later l (last_of call j))
later s (Call.Opening t) tiles j Untouched = refl
later s (Call.Storing i c) tiles j Untouched = go (eqb j i)
  where
    go : (b : Bool) → pick b (plain_contents s c) (tiles j) ≡ tile_after s (tiles j) (pick b (Stored c) Untouched)
    go true = refl
    go false = refl
later s (Call.Removing i) tiles j Untouched = go (eqb j i)
  where
    go : (b : Bool) → pick b [] (tiles j) ≡ tile_after s (tiles j) (pick b Removed Untouched)
    go true = refl
    go false = refl
later s (Call.Closing t) tiles j Untouched = refl
later s (Call.Squeezing ps) tiles j Untouched = refl
later s call tiles j (Stored c) = refl
later s call tiles j Removed = refl

last_map :
    (s : List ℕ) (calls : List Call) (st : State) (k : ℕ) (tiles : ℕ → List (List ℕ)) → (replayed calls st k).stop ≡ None → (j : ℕ) →
    map_after_all s calls st tiles j ≡ tile_after s (tiles j) (last_for calls j)
unfolding map_after_all last_for
last_map s [] st k tiles e j = refl
last_map s (call ∷ calls) st k tiles e j =
    let d = first_done call calls st k e in
    let f = sym (ap (λ (o : Outcome). o.stop) (replayed_on call calls st k d.long d.answer)) ∙ e in
    rw d.answer (last_map s calls (after call st) (k + 1) (map_then s call tiles) f j ∙ later s call tiles j (last_for calls j))

pub last_entry : LastEntry
last_entry b n v o calls g e j =
    let start : State = record { buffer = b; long = n } in
    let s = page_in b n in
    ap (λ (st : State). tiles_of (page_of st) j) (all_done calls start 0 e)
    ∙ (sequence b n v (inr o) calls g).follows.map_of j
    ∙ last_map s calls start 0 (tiles_of s) e j

-- two pages

after_same : (s t : List ℕ) → SameHeader s t → (x y : List (List ℕ)) → x ≡ y → (l : Last) → tile_after s x l ≡ tile_after t y l
after_same s t h x y e Untouched = e
after_same s t h x y e (Stored c) = sym ((lawful (Call.Storing 0 c)).sizes h)
after_same s t h x y e Removed = refl

pub same_tiles : SameTiles
same_tiles b n d m v w o q h e xs ys g k l a c j =
    last_entry b n v o xs g a j ∙ after_same (page_in b n) (page_in d m) h _ _ (e j) (last_for xs j)
    ∙ ap (tile_after (page_in d m) (tiles_of (page_in d m) j)) (l j) ∙ sym (last_entry d m w q ys k c j)

-- of logs

pub log_last_entry : LogLastEntry
unfolding outcome_of log_calls page_of
log_last_entry b n log v y m k e j =
    let z = to_the_end b n log m k e in
    ap (λ (st : State). tiles_of (page_of st) j) z.left
    ∙ last_entry b n v (admitted b n log z.accepted).open_page_lem (log_calls (page_in b n) log) (calls_given _ _ log y 5) z.stop j

pub logs_same_tiles : LogsSameTiles
logs_same_tiles b n x y v c d m k p l e f h j =
    log_last_entry b n x v c m k e j ∙ ap (tile_after (page_in b n) (tiles_of (page_in b n) j)) (h j) ∙ sym (log_last_entry b n y v d p l f j)
