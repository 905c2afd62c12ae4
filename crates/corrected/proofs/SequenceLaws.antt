-- Req 03: any sequence of calls on a page that is accepted or open for writing. Assumes nothing.
use Rattle.std.specs.Prelude.{Err, Ok, Result}
use Rattle.answer.specs.declared.Refusal.{Refusal}
use Prim.Native.Nat.{ℕ, ◌+◌, ◌-◌, ◌≤◌, max}
use native.Mathlib.Omega.{arith}
use mathlib.Core.Path.{◌≡◌, refl, sym, ◌∙◌, ap}
use native.Mathlib.Decide.{dec_le}
use mathlib.Core.Logic.{⊎_elim, inl, inr, by_cases}
use mathlib.Core.List.{List, [], ◌∷◌, ◌++◌}
use mathlib.Core.Bool.{Bool, true, false}
use lib.ListN.{length, drop, length-append, length-drop}
use lib.Seq.{drop_at, drop-drop}
use Rattle.wire.specs.Pick.{pick}
use Rattle.wire.specs.Bytes.{Bytes, Same, part}
use Rattle.wire.proofs.TestLaws.{not_both}
use Rattle.wire.proofs.ByteLaws.{same_trans, part_out}
use Rattle.record.specs.Chain.{records}
use Rattle.page_check.specs.Accepted.{Sound}
use Rattle.page_check.proofs.AcceptedLaws.{accepted_sound}
use Rattle.page_check.proofs.GivenLaws.{sound_range}
use Rattle.alone.specs.Alone.{SameHeader}
use Rattle.alone.proofs.HeaderLaws.{judged_header, count_within}
use Rattle.writable.proofs.OpenLaws.{open_exactly}
use Rattle.correct.specs.Front.{page_in}
use Rattle.correct.specs.Calls.{Call, Given, AllGiven, Role, kind_of, moves, map_then, named_then, State, page_of, answer_of, after, after_all}
use Rattle.page_laws.specs.Tiles.{tiles_of, bytes_of_tile, record_of_tile, Follows, InPlace}
use Rattle.page_laws.proofs.FrontLaws.{unset_trans, same_unset}
use Rattle.page_laws.proofs.PageLaws.{sound_judged}
use Rattle.effects.proofs.BufferEffects.{page_long}
use Rattle.squeezed.specs.Squeezed.{stands_before}
use Rattle.lawful.specs.Lawful.{Leaves}
use Rattle.lawful.proofs.CaseLaws.{lawful}
use Rattle.lawful.proofs.StepLaws.{refused_leaves, line_in, Stepped, stepped, after_bytes}
use Rattle.corrected.specs.Sequence.{if_done, map_after_all, named_after_all, top_after_all, NoneMoves, OthersStay, AcceptedOrOpen, Holds, Sequence, Stays, SequenceStays, StateThen}

drop_more : (b d : List ℕ) (n m : ℕ) → n ≤ m → drop n d ≡ drop n b → drop m d ≡ drop m b
drop_more b d n m h e =
    let k : m ≡ n + (m - n) = omega arith in
    ap (λ (j : ℕ). drop j d) k ∙ sym (drop-drop (m - n) n d) ∙ ap (drop (m - n)) e ∙ drop-drop (m - n) n b ∙ ap (λ (j : ℕ). drop j b) (sym k)

-- a page put before a buffer's rest
module _ (page b : List ℕ) (m : ℕ) (l : length page ≡ m) (i : m ≤ length b) where
  put_room : length (page ++ drop m b) ≡ length b
  put_room = length-append page (drop m b) ∙ omega (arith, length-drop m b)

  put_behind : (k : ℕ) → m ≤ k → drop k (page ++ drop m b) ≡ drop k b
  put_behind k h = drop_more b (page ++ drop m b) m k h (drop_at page (drop m b) m l)

-- what is not named, by one call more, was not named before
module _ {B : Type 0} (names named : ℕ → Bool) (f g h : ℕ → B) (k : (j : ℕ) → names j ≡ false → h j ≡ g j) (i : (j : ℕ) → named j ≡ false → g j ≡ f j) where
  unnamed : (j : ℕ) → pick (names j) true (named j) ≡ false → h j ≡ f j
  unnamed j = go (names j) refl
    where
      go : (b : Bool) → names j ≡ b → pick b true (named j) ≡ false → h j ≡ f j
      go true z n = not_both refl n
      go false z n = k j z ∙ i j n

-- what calls keep, one call behind the others

follows_then :
    {s t u : List ℕ} {named : ℕ → Bool} {tiles : ℕ → List (List ℕ)} (call : Call) → Follows s t named tiles → SameHeader s t →
    Follows t u (kind_of call).names (map_then t call (tiles_of t)) → Follows s u (named_then call named) (map_then s call tiles)
follows_then {s} {t} {u} {named} {tiles} call h e k =
    record {
      header = unset_trans h.header k.header;
      metadata = k.metadata ∙ h.metadata;
      records = unnamed (kind_of call).names named (bytes_of_tile s) (bytes_of_tile t) (bytes_of_tile u) k.records h.records;
      map_of =
          λ j.
          k.map_of j
          ∙ ap (λ (x : List (List ℕ)). pick ((kind_of call).names j) x (tiles_of t j)) ((lawful call).sizes e)
          ∙ ap (λ (x : List (List ℕ)). pick ((kind_of call).names j) ((kind_of call).holds s) x) (h.map_of j);
    }

places_then : {s t u : List ℕ} {named : ℕ → Bool} (call : Call) → InPlace s t named → InPlace t u (kind_of call).names → InPlace s u (named_then call named)
places_then {s} {t} {u} {named} call h k =
    record {
      reference = same_trans h.reference k.reference;
      metadata = k.metadata ∙ h.metadata;
      records = unnamed (kind_of call).names named (record_of_tile s) (record_of_tile t) (record_of_tile u) k.records h.records;
    }

-- neither by the call nor before
unnamed_both : (names named : ℕ → Bool) (j : ℕ) → pick (names j) true (named j) ≡ false → (names j ≡ false) × (named j ≡ false)
unnamed_both names named j = go (names j) refl
  where
    go : (b : Bool) → names j ≡ b → pick b true (named j) ≡ false → (names j ≡ false) × (named j ≡ false)
    go true z n = not_both refl n
    go false z n = (z, n)

order_then :
    (f g h : ℕ → ℕ → Bool) (names named : ℕ → Bool) → ((i j : ℕ) → named i ≡ false → named j ≡ false → g i j ≡ f i j) →
    ((i j : ℕ) → names i ≡ false → names j ≡ false → h i j ≡ g i j) → (i j : ℕ) → pick (names i) true (named i) ≡ false → pick (names j) true (named j) ≡ false →
    h i j ≡ f i j
order_then f g h names named p q i j y z =
    let a = unnamed_both names named i y in
    let b = unnamed_both names named j z in
    q i j a.0 b.0 ∙ p i j a.1 b.1

-- what a call leaves is a page to go on from
leaves_page : (r : Role) (s : List ℕ) → Leaves r s → AcceptedOrOpen s
leaves_page Role.Opens s l = inr l
leaves_page Role.Works s l = inr l
leaves_page Role.Closes s l = inl l

module _ (s b : List ℕ) (first : Sound s) where
  -- a state, and that its buffer holds bytes
  record Kept (st : State) (named : ℕ → Bool) (tiles : ℕ → List (List ℕ)) (top : ℕ) : Type 0 where
    holds : Holds s b st named tiles top
    bytes : Bytes st.buffer

  same_header : {t : List ℕ} {named : ℕ → Bool} {tiles : ℕ → List (List ℕ)} → Follows s t named tiles → SameHeader s t
  same_header f = judged_header s _ (length s) (sound_judged first f.header) first.headed.header (count_within s (length s) first.headed.ceilings)

  module _ (st : State) {named : ℕ → Bool} {tiles : ℕ → List (List ℕ)} {top : ℕ} (k : Kept st named tiles top) (call : Call) (g : Given call) where
    made : (m : ℕ) → Stepped call st m → Holds s b (after call st) (named_then call named) (map_then s call tiles) (max top (after call st).long)
    made m w =
        let h = k.holds in
        let d = w.done in
        let l = d.makes.long ∙ w.long in
        let i : m ≤ length st.buffer = omega (arith, d.room, w.long) in
        let page = (line_in call st).page in
        let z = put_room page st.buffer m l i in
        let long : (after call st).long ≡ m = ap (λ (x : State). x.long) w.state in
        let buffer : (after call st).buffer ≡ page ++ drop m st.buffer = ap (λ (x : State). x.buffer) w.state in
        record {
          page = rw w.page (leaves_page (kind_of call).role page d.left);
          follows = rw w.page (follows_then call h.follows (same_header h.follows) d.follows);
          order = rw w.page (order_then (stands_before s) (stands_before (page_of st)) (stands_before page) (kind_of call).names named h.order d.order);
          inside = rw (long, buffer) (omega arith);
          room = rw buffer (z ∙ h.room);
          reached = omega arith;
          behind =
              rw (long, buffer)
              (put_behind page st.buffer m l i (max top m) (omega arith) ∙ drop_more b st.buffer top (max top m) (omega arith) h.behind);
        }

    one_call :
        Kept (after call st) (if_done (answer_of call st) (named_then call named) named) (if_done (answer_of call st) (map_then s call tiles) tiles)
        (max top (after call st).long)
    one_call = record { holds = go (answer_of call st) refl; bytes = after_bytes call st k.bytes g }
      where
        go :
            (a : Result ℕ Refusal) → answer_of call st ≡ a →
            Holds s b (after call st) (if_done (answer_of call st) (named_then call named) named) (if_done (answer_of call st) (map_then s call tiles) tiles)
            (max top (after call st).long)
        go (Ok m) q = rw q (made m (stepped call st m k.bytes g q))
        go (Err r) q =
            let e : max top st.long ≡ top = omega (arith, k.holds.reached) in
            rw (q, refused_leaves call st r q, e) k.holds

    -- and where it moves no record
    one_stays : moves call ≡ false → Stays s b st named → Stays s b (after call st) (if_done (answer_of call st) (named_then call named) named)
    one_stays z h = go (answer_of call st) refl
      where
        go : (a : Result ℕ Refusal) → answer_of call st ≡ a → Stays s b (after call st) (if_done (answer_of call st) (named_then call named) named)
        go (Ok m) q =
            let w = stepped call st m k.bytes g q in
            let d = w.done in
            let l = d.makes.long ∙ w.long in
            let i : m ≤ length st.buffer = omega (arith, d.room, w.long) in
            let page = (line_in call st).page in
            let j : st.long ≤ m = omega (arith, d.grows z, w.long, w.own) in
            let long : (after call st).long ≡ m = ap (λ (x : State). x.long) w.state in
            let buffer : (after call st).buffer ≡ page ++ drop m st.buffer = ap (λ (x : State). x.buffer) w.state in
            record {
              places = rw (q, w.page) (places_then call h.places (d.places z));
              grown = omega (arith, h.grown);
              behind = rw (long, buffer) (put_behind page st.buffer m l i m (omega arith) ∙ drop_more b st.buffer st.long m j h.behind);
            }
        go (Err r) q = rw (q, refused_leaves call st r q) h

  all_calls :
      (calls : List Call) → AllGiven calls → (st : State) {named : ℕ → Bool} {tiles : ℕ → List (List ℕ)} {top : ℕ} → Kept st named tiles top →
      Kept (after_all calls st) (named_after_all calls st named) (map_after_all s calls st tiles) (top_after_all calls st top)
  unfolding after_all named_after_all map_after_all top_after_all
  all_calls [] g st k = k
  all_calls (call ∷ calls) g st k = all_calls calls g.1 (after call st) (one_call st k call g.0)

  all_stays :
      (calls : List Call) → AllGiven calls → NoneMoves calls → (st : State) {named : ℕ → Bool} {tiles : ℕ → List (List ℕ)} {top : ℕ} → Kept st named tiles top →
      Stays s b st named → Stays s b (after_all calls st) (named_after_all calls st named)
  unfolding after_all named_after_all
  all_stays [] g n st k h = h
  all_stays (call ∷ calls) g n st k h =
      all_stays calls g.1 n.1 (after call st) (one_call st k call g.0) (one_stays st k call g.0 n.0 h)

-- where they start

pub page_sound : (s : List ℕ) → AcceptedOrOpen s → Sound s
page_sound s h = ⊎_elim (λ a. accepted_sound s a) (λ o. ((open_exactly s).0 o).sound) h

pub page_inside : (b : List ℕ) (n : ℕ) → Sound (page_in b n) → n ≤ length b
unfolding page_in
page_inside b n o =
    let r = sound_range (page_in b n) (records (page_in b n)) o in
    by_cases (dec_le n (length b)) (λ h. h)
    (λ h.
    let z : length (part b 0 n) ≡ 0 = ap length (part_out b 0 n (omega arith)) in
    absurd (omega (arith, r.header_least, r.header_inside)))

self_same : (s : List ℕ) (a b : ℕ) → b ≤ length s → Same s s a b
self_same s a b h = record { in_first = h; in_second = h; each = λ i l m. refl }

module _ (b : List ℕ) (n : ℕ) (v : Bytes b) (h : AcceptedOrOpen (page_in b n)) where
  abbrev s : List ℕ
  s = page_in b n

  sound : Sound s
  sound = page_sound s h

  abbrev start : State
  start = record { buffer = b; long = n }

  started : Kept s b sound start (λ j. false) (tiles_of s) n
  unfolding page_of
  started =
      let r = sound_range s (records s) sound in
      record {
        holds =
            record {
              page = h;
              follows =
                  record {
                    header = same_unset (self_same s 0 _ r.header_inside) r.header_least;
                    metadata = refl;
                    records = λ j n. refl;
                    map_of = λ j. refl;
                  };
              order = λ i j y z. refl;
              inside = page_inside b n sound;
              room = refl;
              reached = omega arith;
              behind = refl;
            };
        bytes = v;
      }

  stays_started : Stays s b start (λ j. false)
  unfolding page_of
  stays_started =
      let r = sound_range s (records s) sound in
      record {
        places = record { reference = self_same s 64 72 (omega (arith, r.header_least, r.header_inside)); metadata = refl; records = λ j n. refl };
        grown = omega (arith, page_long b n (page_inside b n sound));
        behind = refl;
      }

  module _ (calls : List Call) (g : AllGiven calls) where
    ended : Kept s b sound (after_all calls start) (named_after_all calls start (λ j. false)) (map_after_all s calls start (tiles_of s)) (top_after_all calls start n)
    ended = all_calls s b sound calls g start started

    left_by : (call : Call) → Given call → (m : ℕ) → answer_of call (after_all calls start) ≡ Ok m → Leaves (kind_of call).role (page_of (after call (after_all calls start)))
    left_by call c m e = let w = stepped call (after_all calls start) m ended.bytes c e in rw w.page w.done.left

pub sequence : Sequence
sequence b n v h calls g = (ended b n v h calls g).holds

pub sequence_stays : SequenceStays
sequence_stays b n v h calls g z = all_stays (page_in b n) b (sound b n v h) calls g z (record { buffer = b; long = n }) (started b n v h) (stays_started b n v h)

pub others_stay : OthersStay
others_stay = record { opening = λ t. refl; storing = λ i c. refl; removing = λ i. refl; closing = λ t. refl }

pub state_then : StateThen
state_then b n v h calls g call c m e = left_by b n v h calls g call c m e
