-- Each entry on what the last left: the page stays open, with its tiles and their sizes. Assumes nothing.
use Rattle.std.specs.Prelude.{Err, Ok, Result, ⊤, Some}
use Prim.Native.Nat.{ℕ, ◌+◌, ◌≤◌, ◌<◌, min}
use native.Mathlib.Omega.{arith}
use mathlib.Core.Path.{◌≡◌, refl, sym, ap, ◌∙◌}
use mathlib.Core.Logic.{◌⊎◌, inl, inr}
use mathlib.Core.List.{List, [], ◌∷◌}
use mathlib.Core.Bool.{true}
use lib.ListN.{length}
use Rattle.wire.specs.Tests.{◌≤?◌, ◌≡?◌, sum_below}
use Rattle.wire.specs.Bytes.{Bytes}
use Rattle.wire.proofs.TestLaws.{sum_same}
use Rattle.answer.specs.declared.Refusal.{Refusal}
use Rattle.answer.specs.declared.Refusal.TheVariants.{Ceiling, Room}
use Rattle.answer.proofs.VerdictLaws.{refused_not}
use Rattle.header.specs.Fields.{element_count}
use Rattle.header.specs.Element.{entries_read}
use Rattle.geometry.specs.Tiles.{tile_count}
use Rattle.geometry.specs.Sizes.{tile_bytes, element_bytes}
use Rattle.alone.specs.Alone.{SameHeader}
use Rattle.alone.proofs.HeaderLaws.{judged_header, count_within}
use Rattle.writable.specs.Writable.{open_for_writing}
use Rattle.writable.proofs.OpenLaws.{open_sound}
use Rattle.page_laws.proofs.PageLaws.{sound_judged}
use Rattle.correct.specs.Front.{page_in}
use Rattle.correct.specs.Answers.{tile_then, cells_then, room_left}
use Rattle.correct.specs.Calls.{Call, Given, AllGiven, kind_of, Change, line_of, change_on, change_of, answer_by, stopped_by, State, page_of, change_in, answer_of, out_of, after}
use Rattle.effects.proofs.PassedLaws.{gate_yes, answer_refused, wanted_admitted, on_wanted, judged_once}
use Rattle.calls.proofs.AnswerLaws.{whole_call}
use Rattle.lawful.proofs.CaseLaws.{Refusing, refusing_gate}
use Rattle.lawful.proofs.StepLaws.{Stepped, stepped, after_bytes}
use Rattle.corrected.proofs.SequenceLaws.{page_inside}
use Rattle.replay.specs.Replay.{replayed, go_on}
use Rattle.replay.specs.ByHand.{Entry, Entries, StaysOpen}
use Rattle.replay.proofs.EntryLaws.{RightOf, AllRight, entry_wants, entry_makes, entry_leaves}
use Rattle.replay.proofs.HandLaws.{none_by, by_is}

-- a header that says the same of the tiles
same_bytes_lem : {s t : List ℕ} → SameHeader s t → tile_bytes s ≡ tile_bytes t
unfolding tile_bytes entries_read
same_bytes_lem {s} {t} h =
    let n : min (element_count s) 16 ≡ min (element_count t) 16 = ap (λ (k : ℕ). min k 16) h.count in
    sum_same (min (element_count s) 16) (element_bytes s) (element_bytes t) (λ e k. h.sizes e (omega arith)) ∙ ap (λ (k : ℕ). sum_below k (element_bytes t)) n

-- one entry's call, made without a check

module _ (d : List ℕ) (k : ℕ) (v : Bytes d) (o : open_for_writing (page_in d k) ≡ true) (call : Call) (n : Entry call) (g : Given call) where
  abbrev here : State
  here = record { buffer = d; long = k }

  inside : k ≤ length d
  inside = page_inside d k (open_sound (page_in d k) o)

  wants : change_on call d k ≡ change_of call d k
  wants = on_wanted call d k inside (entry_wants call n (page_in d k) o)

  pub entry_answers : {a : Result ℕ Refusal} → a ≡ answer_by (change_on call d k) → a ≡ answer_of call here
  entry_answers e = e ∙ ap answer_by wants

  pub entry_writes : {l : List ℕ} → l ≡ stopped_by 18446744073709551615 (change_on call d k) d → l ≡ out_of call here
  entry_writes e = whole_call call (entry_makes call n) d k v (e ∙ ap (λ (c : Change). stopped_by 18446744073709551615 c d) wants)

  module _ (m : ℕ) (q : answer_of call here ≡ Ok m) where
    step : Stepped call here m
    step = stepped call here m v g q

    pub step_open : open_for_writing (page_of (after call here)) ≡ true
    step_open = rw step.page (entry_leaves call n _ step.done.left)

    pub step_after : {l : List ℕ} → l ≡ out_of call here → after call here ≡ record { buffer = l; long = m }
    unfolding after
    step_after e = rw (q, e)

    step_header : SameHeader (page_of here) (page_of (after call here))
    unfolding page_of
    step_header =
        let s = open_sound (page_in d k) o in
        let f = step.done.follows.header in
        rw step.page (judged_header (page_in d k) _ (length (page_in d k)) (sound_judged s f) s.headed.header (count_within (page_in d k) (length (page_in d k)) s.headed.ceilings))

    pub step_tiles : tile_count (page_of (after call here)) ≡ tile_count (page_of here)
    step_tiles = sym step_header.tiles

    pub step_tile : tile_bytes (page_of (after call here)) ≡ tile_bytes (page_of here)
    step_tile = sym (same_bytes_lem step_header)

-- the calls of a replay, whatever the answer

all_open :
    (calls : List Call) (st : State) (k : ℕ) → Bytes st.buffer → open_for_writing (page_of st) ≡ true → AllGiven calls → Entries calls →
    open_for_writing (page_of (replayed calls st k).state) ≡ true
unfolding replayed page_of
all_open [] st k v o g n = o
all_open (call ∷ calls) st k v o g n = go (answer_of call st) refl (λ w q. all_open calls (after call st) (k + 1) w q g.1 n.1)
  where
    go :
        (a : Result ℕ Refusal) → answer_of call st ≡ a →
        (Bytes (after call st).buffer → open_for_writing (page_of (after call st)) ≡ true → open_for_writing (page_of (replayed calls (after call st) (k + 1)).state) ≡ true) →
        open_for_writing (page_of (go_on a (replayed calls (after call st) (k + 1)) st k).state) ≡ true
    go (Ok m) q f = f (after_bytes call st v g.0) (step_open st.buffer st.long v o call n.0 g.0 m q)
    go (Err r) q f = o

pub stays_open : StaysOpen
unfolding page_of
stays_open b n v o calls g e = all_open calls (record { buffer = b; long = n }) 0 v o g e

-- a right entry is refused for want of room alone

abbrev pub ForRoom : Refusal → Type 0
ForRoom r = (r ≡ Room) ⊎ (r ≡ Ceiling)

for_room : (b : List ℕ) (m : ℕ) → Refusing ForRoom (room_left b m)
unfolding room_left
for_room b m = refusing_gate ForRoom _ Room _ (inl refl) (refusing_gate ForRoom _ Ceiling _ (inr refl) (λ r e. refused_not (sym e)))

tile_passes : (s : List ℕ) (i : ℕ) (v : Result ⊤ Refusal) → i < tile_count s → Refusing ForRoom v → Refusing ForRoom (tile_then s i v)
unfolding tile_then
tile_passes s i v h f r e = f r (gate_yes ((i + 1 ≤? tile_count s) ∷ []) _ v (omega arith, tt) ∙ e)

cells_pass : (s c : List ℕ) (v : Result ⊤ Refusal) → length c ≡ tile_bytes s → Refusing ForRoom v → Refusing ForRoom (cells_then s c v)
unfolding cells_then
cells_pass s c v h f r e = f r (gate_yes ((length c ≡? tile_bytes s) ∷ []) _ v (h, tt) ∙ e)

line_refused : (call : Call) (b s : List ℕ) → RightOf (tile_count s) (tile_bytes s) call → Refusing ForRoom (line_of call b s).verdict
unfolding line_of
line_refused (Call.Opening t) b s h = absurd h
line_refused (Call.Storing i c) b s h = tile_passes s i _ h.0 (cells_pass s c _ h.1 (for_room b _))
line_refused (Call.Removing i) b s h = tile_passes s i _ h (λ r e. refused_not (sym e))
line_refused (Call.Closing t) b s h = absurd h
line_refused (Call.Squeezing ps) b s h = absurd h

entry_refused :
    (st : State) → open_for_writing (page_of st) ≡ true → (call : Call) → Entry call → RightOf (tile_count (page_of st)) (tile_bytes (page_of st)) call →
    (r : Refusal) → answer_of call st ≡ Err r → ForRoom r
unfolding answer_by page_of
entry_refused st o call n h r e =
    line_refused call st.buffer (page_in st.buffer st.long) h r
    (sym
    (judged_once call st.buffer st.long
    ∙ wanted_admitted (kind_of call).role st.buffer st.long _ (page_inside st.buffer st.long (open_sound _ o)) (entry_wants call n _ o))
    ∙ answer_refused (change_in call st).verdict (change_in call st).long r e)

pub stopped_for :
    (calls : List Call) (st : State) (k : ℕ) → Bytes st.buffer → open_for_writing (page_of st) ≡ true → AllGiven calls → Entries calls →
    AllRight (tile_count (page_of st)) (tile_bytes (page_of st)) calls → (r : Refusal) → (replayed calls st k).stop ≡ Some r → ForRoom r
unfolding replayed page_of
stopped_for [] st k v o g n h r e = none_by r (sym e)
stopped_for (call ∷ calls) st k v o g n h r e =
    go (answer_of call st) refl e (λ w q a f. stopped_for calls (after call st) (k + 1) w q g.1 n.1 a r f)
  where
    go :
        (a : Result ℕ Refusal) → answer_of call st ≡ a → (go_on a (replayed calls (after call st) (k + 1)) st k).stop ≡ Some r →
        (Bytes (after call st).buffer → open_for_writing (page_of (after call st)) ≡ true →
        AllRight (tile_count (page_of (after call st))) (tile_bytes (page_of (after call st))) calls → (replayed calls (after call st) (k + 1)).stop ≡ Some r → ForRoom r) →
        ForRoom r
    go (Ok m) q e f =
        let w = step_open st.buffer st.long v o call n.0 g.0 m q in
        let x = step_tiles st.buffer st.long v o call n.0 g.0 m q in
        let y = step_tile st.buffer st.long v o call n.0 g.0 m q in
        f (after_bytes call st v g.0) w (rw (x, y) h.1) e
    go (Err q) a e f = rw (by_is e) at (entry_refused st o call n.0 h.0 q a)
