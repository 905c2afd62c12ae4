-- What holds of every call, a case for each. Assumes nothing.
use Rattle.std.specs.Prelude.{Err, Ok, Result, ⊤}
use Prim.Native.Nat.{ℕ, ◌+◌, ◌≤◌, ◌<◌, max}
use native.Mathlib.Omega.{arith}
use mathlib.Core.Path.{◌≡◌, refl, sym, ap, ap₂, ◌∙◌}
use mathlib.Core.List.{List, map}
use mathlib.Core.Bool.{Bool, true, false}
use lib.ListN.{length}
use Rattle.wire.specs.Pick.{pick}
use Rattle.wire.specs.Tests.{sum_below}
use Rattle.wire.specs.Bytes.{Bytes, Same, number, number_at, part, bytes_of}
use Rattle.wire.specs.Lists.{below}
use Rattle.wire.proofs.TestLaws.{sum_same}
use Rattle.wire.proofs.ByteLaws.{bytes_part, bytes_number, bytes_length, number_bytes, number_same, part_length}
use Rattle.answer.specs.declared.Refusal.{Refusal}
use Rattle.answer.specs.declared.Refusal.TheVariants.{Ceiling, Room, Input, OutsideGrid}
use Rattle.answer.specs.Refusals.{refusal_place, gate}
use Rattle.answer.proofs.VerdictLaws.{gate_passed, refused_not, refused_is}
use Rattle.record.specs.Chain.{header_end, records}
use Rattle.header.specs.Fields.{time_opened, element_count}
use Rattle.geometry.specs.Sizes.{element_bytes, plain_tile_length}
use Rattle.page_check.specs.Stages.{check}
use Rattle.page_check.specs.Accepted.{Sound}
use Rattle.page_check.proofs.AcceptedLaws.{accepted_obeys, accepted_sound, obeys_accepted}
use Rattle.page_check.proofs.GivenLaws.{sound_range}
use Rattle.alone.specs.Alone.{SameHeader}
use Rattle.writable.specs.Writable.{open_for_writing}
use Rattle.writable.proofs.OpenLaws.{open_exactly, open_sound}
use Rattle.stores.specs.Stores.{Write, Apart}
use Rattle.correct.specs.Front.{page_in}
use Rattle.correct.specs.Opening.{opened_page, opened_length}
use Rattle.correct.specs.Storing.{stored_over, stored_at, stored_page, stored_length, plain_contents}
use Rattle.correct.specs.Removing.{removed_page}
use Rattle.correct.specs.Closing.{closed_page, closed_length}
use Rattle.correct.specs.Squeezing.{squeezed_page}
use Rattle.correct.specs.Answers.{tile_then, cells_then, time_then, plan_then, room_left}
use Rattle.correct.specs.Calls.{Call, line_of}
use Rattle.correct.specs.FieldWrites.{Lowest}
use Rattle.correct.proofs.FieldLaws.{first_most, lowest_set}
use Rattle.page_laws.specs.Tiles.{InPlace}
use Rattle.page_laws.proofs.TileMapLaws.{below_map}
use Rattle.effects.proofs.PassedLaws.{room_passed, time_passed, tile_passed, cells_passed}
use Rattle.effects.proofs.BufferEffects.{page_long}
use Rattle.effects.proofs.OpenEffects.{open_makes}
use Rattle.effects.proofs.StoreEffects.{removed_made, stored_made, store_makes, remove_makes}
use Rattle.effects.proofs.CloseEffects.{opened_lowest, close_makes}
use Rattle.kept_open.proofs.OverLaws.{stored_open}
use Rattle.kept_open.proofs.RemovedLaws.{removed_open}
use Rattle.opened_pages.proofs.OpenedLaws.{opened_opens}
use Rattle.closed_pages.proofs.ClosedLaws.{closed_accepted}
use Rattle.squeezed.specs.Squeezed.{first_before, stands_before}
use Rattle.squeezed.proofs.OpenMoves.{squeezed_open, squeezed_order}
use Rattle.squeezed.proofs.MakeMoves.{squeeze_makes}
use Rattle.squeezed.proofs.ByteMoves.{squeezed_bytes}
use Rattle.lawful.specs.Marks.{time_bytes, KeepsMark}
use Rattle.lawful.specs.Lawful.{Done, EachLawful}
use Rattle.lawful.proofs.PageBytes.{opened_bytes, stored_bytes, removed_bytes, closed_bytes}
use Rattle.lawful.proofs.HarmlessLaws.{harmless_behind}
use Rattle.lawful.proofs.MarkLaws.{opening_begins, closing_ends, squeezing_harmless}

-- of every refusal that a verdict gives

abbrev pub Refusing : (Refusal → Type 0) → Result ⊤ Refusal → Type 0
Refusing p v = (r : Refusal) → v ≡ Err r → p r

pub refusing_gate : (p : Refusal → Type 0) (b : Bool) (q : Refusal) (v : Result ⊤ Refusal) → p q → Refusing p v → Refusing p (gate b q v)
unfolding gate
refusing_gate p true q v z w = w
refusing_gate p false q v z w = λ r e. rw (refused_is e) at z

-- one of a tile, of cell bytes, of a time or for want of room has place 0

abbrev Placeless : Result ⊤ Refusal → Type 0
Placeless = Refusing (λ r. refusal_place r ≡ 0)

placeless_gate : (b : Bool) (q : Refusal) (v : Result ⊤ Refusal) → refusal_place q ≡ 0 → Placeless v → Placeless (gate b q v)
placeless_gate b q v z w = refusing_gate (λ r. refusal_place r ≡ 0) b q v z w

placeless_none : Placeless (Ok tt)
placeless_none r e = refused_not (sym e)

placeless_room : (b : List ℕ) (m : ℕ) → Placeless (room_left b m)
unfolding room_left
placeless_room b m = placeless_gate _ Room _ refl (placeless_gate _ Ceiling _ refl placeless_none)

-- what a tile holds that is stored depends on its sizes alone

plain_same : {s t : List ℕ} (c : List ℕ) → SameHeader s t → plain_contents t c ≡ plain_contents s c
unfolding plain_contents
plain_same {s} {t} c h =
    let sizes : (e : ℕ) → e < element_count t → element_bytes t e ≡ element_bytes s e = λ e k. sym (h.sizes e (rw h.count k)) in
    below_map (element_count t) _ _
    (λ e k.
    let a = sum_same e (element_bytes t) (element_bytes s) (λ j l. sizes j (omega arith)) in
    let d = sizes e k in
    rw (a, d) refl)
    ∙ ap (λ (n : ℕ). map (λ e. part c (sum_below e (element_bytes s)) (element_bytes s e)) (below n)) (sym h.count)

-- by a call that moves no record no page gets shorter

opened_grows : (s : List ℕ) → length s ≤ opened_length s
unfolding opened_length
opened_grows s = omega arith

closed_grows : (s : List ℕ) → length s ≤ closed_length s
unfolding closed_length
closed_grows s = omega arith

stored_grows : (s : List ℕ) (i : ℕ) → length s ≤ stored_length s i
unfolding stored_length
stored_grows s i = go (stored_over s i)
  where
    go : (b : Bool) → length s ≤ pick b (length s) (max (length s) (stored_at s i + plain_tile_length s))
    go true = omega arith
    go false = omega arith

-- the opened time

time_lowest : (t : ℕ) → (t ≡ 0 → ⊥) → t < 18446744073709551616 → Lowest (bytes_of 8 t)
time_lowest t z h = lowest_set (bytes_of 8 t) (λ e. z (sym (number_bytes 8 t h) ∙ e))

time_is : (s : List ℕ) → Bytes s → 56 ≤ length s → part s 48 8 ≡ time_bytes s
unfolding time_bytes number_at
time_is s b h =
    let l = part_length s 48 8 h in
    sym (bytes_number (part s 48 8) (bytes_part 48 8 b)) ∙ ap (λ (n : ℕ). bytes_of n (number (part s 48 8))) l

time_long : (s : List ℕ) → length (time_bytes s) ≡ 8
unfolding time_bytes
time_long s = bytes_length 8 (time_opened s)

-- a page whose header stays, by writes behind it
stays_marked : {s page : List ℕ} {ws : List Write} → Sound s → Apart 0 (header_end s) ws → Same s page 0 (header_end s) → KeepsMark (header_end s) s page ws
stays_marked {s} o a f =
    let r = sound_range s (records s) o in
    let l = r.header_least in
    record {
      harmless = harmless_behind a (omega arith) (omega (arith, first_most (time_bytes s), time_long s));
      time = sym (number_same f 8 48 (omega arith) (omega arith));
    }

-- what keeps its place keeps its order
in_order :
    {s t : List ℕ} {names : ℕ → Bool} → InPlace s t names → (i j : ℕ) → names i ≡ false → names j ≡ false → stands_before t i j ≡ stands_before s i j
unfolding stands_before
in_order k i j y z = ap₂ first_before (k.records i y) (k.records j z)

-- a call that moves records promises nothing of their places
moves_not : {A : Type 0} → true ≡ false → A
moves_not e = let z : ◌≡◌ {A = ℕ} 0 1 = cc in absurd (omega arith)

-- the five calls

module _ (b : List ℕ) (n : ℕ) (w : Bytes b) (inside : n ≤ length b) where
  abbrev p : List ℕ
  p = page_in b n

  page_bytes : Bytes p
  unfolding page_in
  page_bytes = bytes_part 0 n w

  opens : (t : ℕ) → t < 18446744073709551616 → check p ≡ Ok tt → (line_of (Call.Opening t) b p).verdict ≡ Ok tt → Done (Call.Opening t) b p
  unfolding line_of time_bytes
  opens t g a e =
      let q = time_passed t _ e in
      let r = room_passed b _ q.1 in
      let m = open_makes t b n w inside a e in
      let o = opened_opens p t (record { bytes = page_bytes; obeys = accepted_obeys p a; some_time = q.0; small = g; room = omega (arith, m.long, r.1) }) in
      let l = time_lowest t q.0 g in
      record {
        makes = m;
        room = r.0;
        bytes = opened_bytes p t page_bytes;
        left = (open_exactly (opened_page p t)).1 o.open_page_lem;
        follows = o.follows;
        order = λ i j. in_order o.places i j;
        places = λ z. o.places;
        grows = λ z. opened_grows p;
        marks = record { lowest = rw o.time l; begins = rw o.time (opening_begins b p (accepted_sound p a) t l) };
      }

  stores : (i : ℕ) (c : List ℕ) → Bytes c → open_for_writing p ≡ true → (line_of (Call.Storing i c) b p).verdict ≡ Ok tt → Done (Call.Storing i c) b p
  unfolding line_of
  stores i c g a e =
      let x = tile_passed p i _ e in
      let y = cells_passed p c _ x.1 in
      let r = room_passed b _ y.1 in
      let m = store_makes i c b n w inside a e in
      let o = stored_open p i c (record { bytes = page_bytes; cells = g; open_page_lem = (open_exactly p).0 a; below = x.0; long = y.0; room = omega (arith, m.long, r.1) }) in
      record {
        makes = m;
        room = r.0;
        bytes = stored_bytes p i c page_bytes g;
        left = (open_exactly (stored_page p i c)).1 o.open_page_lem;
        follows = o.follows;
        order = λ i j. in_order o.places i j;
        places = λ z. o.places;
        grows = λ z. stored_grows p i;
        marks = stays_marked (open_sound p a) (stored_made b n i inside a x.0 c y.0 y.1).apart o.front;
      }

  removes : (i : ℕ) → open_for_writing p ≡ true → (line_of (Call.Removing i) b p).verdict ≡ Ok tt → Done (Call.Removing i) b p
  unfolding line_of
  removes i a e =
      let x = tile_passed p i _ e in
      let o = removed_open p i page_bytes ((open_exactly p).0 a) x.0 in
      record {
        makes = remove_makes i b n w inside a e;
        room = omega (arith, page_long b n inside);
        bytes = removed_bytes p i page_bytes;
        left = (open_exactly (removed_page p i)).1 o.open_page_lem;
        follows = o.follows;
        order = λ i j. in_order o.places i j;
        places = λ z. o.places;
        grows = λ z. omega arith;
        marks = stays_marked (open_sound p a) (removed_made b n i inside a x.0).apart o.front;
      }

  closes : (t : ℕ) → t < 18446744073709551616 → open_for_writing p ≡ true → (line_of (Call.Closing t) b p).verdict ≡ Ok tt → Done (Call.Closing t) b p
  unfolding line_of
  closes t g a e =
      let r = room_passed b _ (time_passed t _ e).1 in
      let m = close_makes t b n w inside a e in
      let open_page_lem = (open_exactly p).0 a in
      let o = closed_accepted p t page_bytes open_page_lem g (omega (arith, m.long, r.1)) in
      let k = sound_range p (records p) open_page_lem.sound in
      let y = time_is p page_bytes (omega (arith, k.header_least, k.header_inside)) in
      let l : Lowest (time_bytes p) = rw y at (opened_lowest p open_page_lem.opened) in
      record {
        makes = m;
        room = r.0;
        bytes = closed_bytes p t page_bytes;
        left = obeys_accepted (closed_page p t) (records (closed_page p t)) o.obeys;
        follows = o.follows;
        order = λ i j. in_order o.places i j;
        places = λ z. o.places;
        grows = λ z. closed_grows p;
        marks = closing_ends b p open_page_lem.sound t (time_bytes p) l (time_long p) y;
      }

  squeezes : (ps : List ℕ) → open_for_writing p ≡ true → (line_of (Call.Squeezing ps) b p).verdict ≡ Ok tt → Done (Call.Squeezing ps) b p
  unfolding line_of plan_then
  squeezes ps a e =
      let r = (gate_passed _ _ _ e).0 in
      let open_page_lem = (open_exactly p).0 a in
      let k = squeezed_open p page_bytes open_page_lem ps r in
      record {
        makes = squeeze_makes b n w inside open_page_lem ps r;
        room = omega (arith, k.long, k.shorter, page_long b n inside);
        bytes = squeezed_bytes p page_bytes ps;
        left = (open_exactly (squeezed_page p ps)).1 k.open_page_lem;
        follows = k.follows;
        order = λ i j y z. squeezed_order p page_bytes open_page_lem ps r i j;
        places = λ z. moves_not z;
        grows = λ z. moves_not z;
        marks = record { harmless = squeezing_harmless b p open_page_lem.sound ps _ (omega (arith, first_most (time_bytes p), time_long p)); time = k.time };
      }

pub lawful : EachLawful
unfolding line_of time_then tile_then cells_then plan_then
lawful (Call.Opening t) =
    record { refused = λ b s. placeless_gate _ Input _ refl (placeless_room b _); sizes = λ h. refl; done = λ g b n w i a e. opens b n w i t g a e }
lawful (Call.Storing i c) =
    record {
      refused = λ b s. placeless_gate _ OutsideGrid _ refl (placeless_gate _ Input _ refl (placeless_room b _));
      sizes = λ h. plain_same c h;
      done = λ g b n w k a e. stores b n w k i c g a e;
    }
lawful (Call.Removing i) =
    record { refused = λ b s. placeless_gate _ OutsideGrid _ refl placeless_none; sizes = λ h. refl; done = λ g b n w k a e. removes b n w k i a e }
lawful (Call.Closing t) =
    record { refused = λ b s. placeless_gate _ Input _ refl (placeless_room b _); sizes = λ h. refl; done = λ g b n w i a e. closes b n w i t g a e }
lawful (Call.Squeezing ps) =
    record { refused = λ b s. placeless_gate _ Input _ refl placeless_none; sizes = λ h. refl; done = λ g b n w i a e. squeezes b n w i ps a e }
