-- Req 03: what a call answers, exactly. Assumes nothing.
use Rattle.std.specs.Prelude.{Err, Ok, Result, ⊤}
use Prim.Native.Nat.{ℕ, ◌+◌, ◌*◌, ◌≤◌, ◌<◌, max}
use native.Mathlib.Omega.{arith}
use native.Mathlib.Decide.{dec_le}
use mathlib.Core.Path.{◌≡◌, refl, sym, ap, ap₂, ◌∙◌}
use mathlib.Core.Logic.{◌⊎◌, inl, inr, ⊎_elim, by_cases}
use mathlib.Core.List.{List, [], ◌∷◌, append-nil}
use mathlib.Core.Bool.{Bool, true, false}
use lib.ListN.{length, take, length-append}
use Rattle.wire.specs.Pick.{pick}
use Rattle.wire.specs.Tests.{◌≤?◌}
use Rattle.wire.proofs.TestLaws.{means, yes, no}
use Rattle.answer.proofs.VerdictLaws.{refused_not, refused_is}
use Rattle.answer.specs.declared.Refusal.{Refusal}
use Rattle.answer.specs.declared.Refusal.TheVariants.{Ceiling, OutsideGrid, Input, Room}
use Rattle.answer.specs.Refusals.{refusal_number, gate, unless_refused}
use Rattle.record.specs.Chain.{header_end, joined, records_of}
use Rattle.geometry.specs.Tiles.{tile_count}
use Rattle.geometry.specs.Sizes.{tile_bytes, plain_tile_length}
use Rattle.header.specs.Fields.{checksum_enabled}
use Rattle.check_header.specs.Ceilings.{most_file_bytes, within_ceilings}
use Rattle.page_check.specs.Stages.{check}
use Rattle.page_check.specs.Accepted.{Sound}
use Rattle.page_check.proofs.AcceptedLaws.{accepted_sound}
use Rattle.written_records.specs.Pieces.{record_length, record_of}
use Rattle.written_records.specs.Directory.{directory_of}
use Rattle.written_records.proofs.PieceLaws.{record_length_lem}
use Rattle.written_records.proofs.DirectoryLaws.{directory_of_length}
use Rattle.pieces.specs.Pieces.{pieces}
use Rattle.pieces.specs.Edits.{place_for}
use Rattle.pieces.proofs.FreeingLaws.{freeing_length}
use Rattle.writable.specs.Writable.{open_for_writing, directory_full}
use Rattle.writable.proofs.OpenLaws.{open_sound}
use Rattle.writable.proofs.PartLaws.{sound_parted}
use Rattle.tile_routes.specs.Ways.{carries}
use Rattle.correct.specs.Front.{page_in}
use Rattle.correct.specs.Opening.{compact_of, full_directory, opened_more, opened_length}
use Rattle.correct.specs.Storing.{stored_over, stored_at, stored_length, freed_of}
use Rattle.correct.specs.Closing.{free_list, file_space_record, any_free, closed_more, closed_length}
use Rattle.correct.specs.Plan.{kept_starts, plan_right, planned_end, GoodPlan}
use Rattle.correct.specs.Answers.{on_page, on_open_page, on_accepted_page, tile_then, cells_then, time_then, plan_then, room_left, answered}
use Rattle.correct.specs.Calls.{Call, Role, kind_of, line_of, admitted, change_on, change_of, answer_by}
use Rattle.effects.specs.Effects.{Wants}
use Rattle.effects.proofs.BufferEffects.{page_long}
use Rattle.effects.proofs.PassedLaws.{gate_no, gate_yes, room_short, room_past, room_enough, answer_refused, wanted_admitted, judged_once}
use Rattle.closed_pages.proofs.FreeListLaws.{list_length}
use Rattle.squeezed.proofs.PlanLaws.{plan_exactly}
use Rattle.corrected.specs.Refusals.{answer_in, Unfit, PageAsked, RoomExactly, AtEnd, StoreExactly, StoreRefused, RemoveExactly, RemoveRefused, SqueezeExactly, SqueezeRefused, TimedExactly, OpenRefused, CloseRefused}
use Rattle.corrected.proofs.PlacingLaws.{none_takes_last, lowest_fit, lowest_inside}

-- an answer by its verdict

refused_by_lem : (call : Call) (b : List ℕ) (n : ℕ) (r : Refusal) → (change_of call b n).verdict ≡ Err r → answer_in call b n ≡ Err r
unfolding answer_by answered unless_refused
refused_by_lem call b n r e = rw e

answer_by_lem : (call : Call) (b : List ℕ) (n : ℕ) {v : Result ⊤ Refusal} {k : ℕ} → (change_of call b n).verdict ≡ v → (change_of call b n).long ≡ k → answer_in call b n ≡ answered v k
unfolding answer_by
answer_by_lem call b n e f = ap₂ answered e f

-- the page is asked first

unfit_refused : (role : Role) (b : List ℕ) (n : ℕ) (r : Refusal) (v : Result ⊤ Refusal) → n ≤ length b → Unfit role (page_in b n) r → admitted role b n v ≡ Err r
unfolding admitted on_accepted_page on_open_page on_page gate unless_refused
unfit_refused Role.Opens b n r v h u = rw (← yes ((n ≤? length b) ∷ []) (h, tt), u)
unfit_refused Role.Works b n r v h u = rw (← yes ((n ≤? length b) ∷ []) (h, tt), u.0, u.1)
unfit_refused Role.Closes b n r v h u = rw (← yes ((n ≤? length b) ∷ []) (h, tt), u.0, u.1)

past_refused : (role : Role) (b : List ℕ) (n : ℕ) (v : Result ⊤ Refusal) → length b < n → admitted role b n v ≡ Err Input
unfolding admitted on_accepted_page on_open_page on_page
past_refused Role.Opens b n v h = sym (gate_no _ Input _ (λ p. omega (arith, p.0)))
past_refused Role.Works b n v h = sym (gate_no _ Input _ (λ p. omega (arith, p.0)))
past_refused Role.Closes b n v h = sym (gate_no _ Input _ (λ p. omega (arith, p.0)))

pub page_asked : PageAsked
page_asked call b n =
    record {
      length_first = λ h. refused_by_lem call b n Input (judged_once call b n ∙ past_refused (kind_of call).role b n _ h);
      page_then = λ h r u. refused_by_lem call b n r (judged_once call b n ∙ unfit_refused (kind_of call).role b n r _ h u);
    }

-- a call on a page that it is made on: its line's verdict is its own

line_verdict : (call : Call) (b : List ℕ) (n : ℕ) → n ≤ length b → Wants (kind_of call).role (page_in b n) → (change_of call b n).verdict ≡ (line_of call b (page_in b n)).verdict
line_verdict call b n h w = judged_once call b n ∙ wanted_admitted (kind_of call).role b n _ h w

line_long : (call : Call) (b : List ℕ) (n : ℕ) → (change_of call b n).long ≡ (line_of call b (page_in b n)).long
unfolding change_of change_on
line_long call b n = refl

small_page : (b : List ℕ) (n : ℕ) → n ≤ length b → Sound (page_in b n) → n ≤ most_file_bytes
unfolding within_ceilings
small_page b n h o = omega (arith, (means _ o.headed.ceilings).0, page_long b n h)

-- a call that is judged by its room behind all else: k is the length that the page would have, n or n + m

module _
    (call : Call) (b : List ℕ) (n k m : ℕ) (More : Type 0) (h : n ≤ length b) (small : n ≤ most_file_bytes)
    (answer_is : answer_in call b n ≡ answered (room_left b k) k) (longer : More → k ≡ n + m) (either : k ≡ n ⊎ More) where
  refused_of : (r : Refusal) → answer_in call b n ≡ Err r → room_left b k ≡ Err r
  refused_of r e = answer_refused (room_left b k) k r (sym answer_is ∙ e)

  refused_to : (r : Refusal) → Err r ≡ room_left b k → answer_in call b n ≡ Err r
  unfolding answered unless_refused
  refused_to r e = answer_is ∙ rw (← e)

  done_to : Ok tt ≡ room_left b k → answer_in call b n ≡ Ok k
  unfolding answered unless_refused
  done_to e = answer_is ∙ rw (← e)

  fine : k ≡ n → Ok tt ≡ room_left b k
  fine e = room_enough b k (omega arith) (omega arith)

  -- of a refusal: there is more
  more_there : (r : Refusal) → answer_in call b n ≡ Err r → More
  more_there r e = ⊎_elim (λ y. refused_not (sym (fine y ∙ refused_of r e))) (λ w. w) either

  which : (r : Refusal) → answer_in call b n ≡ Err r → ((r ≡ Room) × (length b < n + m)) ⊎ ((r ≡ Ceiling) × ((n + m ≤ length b) × (most_file_bytes < n + m)))
  which r e =
      let a : k ≡ n + m = longer (more_there r e) in
      let w = refused_of r e in
      by_cases (dec_le (n + m) (length b))
      (λ y.
      by_cases (dec_le (n + m) most_file_bytes) (λ z. refused_not (sym (room_enough b k (omega arith) (omega arith) ∙ w)))
      (λ z. inr (refused_is (sym (room_past b k (omega arith) (omega arith) ∙ w)), (y, omega arith))))
      (λ y. inl (refused_is (sym (room_short b k (omega arith) ∙ w)), omega arith))

  not_same : {C : Type 0} → Room ≡ Ceiling → C
  not_same e = let z : ◌≡◌ {A = ℕ} 13 4 = ap refusal_number e in absurd (omega arith)

  room_exactly : RoomExactly call b n More m
  room_exactly =
      record {
        room = λ e. (more_there Room e, ⊎_elim (λ w. w.1) (λ w. not_same w.0) (which Room e));
        room_if = λ w y. refused_to Room (room_short b k (omega (arith, longer w)));
        ceiling = λ e. (more_there Ceiling e, ⊎_elim (λ w. not_same (sym w.0)) (λ w. w.1) (which Ceiling e));
        ceiling_if = λ w y z. refused_to Ceiling (room_past b k (omega (arith, longer w)) (omega (arith, longer w)));
        grows = λ w y z. done_to (room_enough b k (omega (arith, longer w)) (omega (arith, longer w))) ∙ ap Ok (longer w);
        stays = λ f. ⊎_elim (λ e. done_to (fine e) ∙ ap Ok e) (λ w. absurd (f w)) either;
      }

-- storing and removing

module _ (b : List ℕ) (n i : ℕ) (h : n ≤ length b) (o : open_for_writing (page_in b n) ≡ true) where
  abbrev s : List ℕ
  s = page_in b n

  abbrev m : ℕ
  m = plain_tile_length s

  sound : Sound s
  sound = open_sound s o

  whole_long : header_end s + length (joined (freed_of s i)) ≡ n
  unfolding freed_of
  whole_long =
      let p = sound_parted s sound in
      let a = ap length p.whole ∙ length-append (take (header_end s) s) (joined (pieces s)) in
      omega (arith, a, p.ends, freeing_length (checksum_enabled s) (λ r. carries r i 0) (pieces s) p.formed, page_long b n h)

  at_end : AtEnd s i → stored_length s i ≡ n + m
  unfolding stored_length stored_at
  at_end w =
      let e = (none_takes_last (header_end s) m (freed_of s i) w.none_takes).place in
      let a = whole_long in
      let d = page_long b n h in
      rw w.anew (omega arith)

  not_longer : stored_length s i ≡ n ⊎ AtEnd s i
  unfolding stored_length stored_at
  not_longer = go (stored_over s i) refl
    where
      go : (v : Bool) → stored_over s i ≡ v → pick v (length s) (max (length s) (place_for (header_end s) m (freed_of s i) + m)) ≡ n ⊎ AtEnd s i
      go true e = inl (page_long b n h)
      go false e =
          ⊎_elim (λ w. let y = lowest_inside w in let a = whole_long in let d = page_long b n h in inl (omega arith))
          (λ w. inr (record { anew = e; none_takes = w.none })) (lowest_fit (header_end s) m (freed_of s i))

  -- an index past the tiles

  past_tiles : (v : Result ⊤ Refusal) → tile_count s ≤ i → tile_then s i v ≡ Err OutsideGrid
  unfolding tile_then
  past_tiles v k = sym (gate_no _ OutsideGrid v (λ p. omega (arith, p.0)))

  in_tiles_lem : (v : Result ⊤ Refusal) → i < tile_count s → tile_then s i v ≡ v
  unfolding tile_then
  in_tiles_lem v k = sym (gate_yes _ OutsideGrid v (omega arith, tt))

  remove_line : (line_of (Call.Removing i) b s).verdict ≡ tile_then s i (Ok tt)
  unfolding line_of
  remove_line = refl

  remove_long : (line_of (Call.Removing i) b s).long ≡ length s
  unfolding line_of
  remove_long = refl

  removes : RemoveExactly b n i
  unfolding answered unless_refused
  removes =
      let v = line_verdict (Call.Removing i) b n h o ∙ remove_line in
      record {
        outside = λ k. refused_by_lem (Call.Removing i) b n OutsideGrid (v ∙ past_tiles (Ok tt) k);
        done =
            λ k.
            answer_by_lem (Call.Removing i) b n (v ∙ in_tiles_lem (Ok tt) k) (line_long (Call.Removing i) b n ∙ remove_long)
            ∙ ap Ok (page_long b n h);
      }

  module _ (c : List ℕ) where
    store_line : (line_of (Call.Storing i c) b s).verdict ≡ tile_then s i (cells_then s c (room_left b (stored_length s i)))
    unfolding line_of
    store_line = refl

    store_long : (line_of (Call.Storing i c) b s).long ≡ stored_length s i
    unfolding line_of
    store_long = refl

    wrong_count : (v : Result ⊤ Refusal) → (length c ≡ tile_bytes s → ⊥) → cells_then s c v ≡ Err Input
    unfolding cells_then
    wrong_count v f = sym (gate_no _ Input v (λ p. f p.0))

    right_count : (v : Result ⊤ Refusal) → length c ≡ tile_bytes s → cells_then s c v ≡ v
    unfolding cells_then
    right_count v e = sym (gate_yes _ Input v (e, tt))

    stores : StoreExactly b n i c
    stores =
        let v = line_verdict (Call.Storing i c) b n h o ∙ store_line in
        record {
          outside = λ k. refused_by_lem (Call.Storing i c) b n OutsideGrid (v ∙ past_tiles _ k);
          count = λ k f. refused_by_lem (Call.Storing i c) b n Input (v ∙ in_tiles_lem _ k ∙ wrong_count _ f);
          room =
              λ k e.
              room_exactly (Call.Storing i c) b n (stored_length s i) m (AtEnd s i) h (small_page b n h sound)
              (answer_by_lem (Call.Storing i c) b n (v ∙ in_tiles_lem _ k ∙ right_count _ e) (line_long (Call.Storing i c) b n ∙ store_long)) at_end not_longer;
        }

pub store_refused : StoreRefused
store_refused b n i c h o = stores b n i h o c

pub remove_refused : RemoveRefused
remove_refused b n i h o = removes b n i h o

-- squeezing: the plan

module _ (b : List ℕ) (n : ℕ) (ps : List ℕ) (h : n ≤ length b) (o : open_for_writing (page_in b n) ≡ true) where
  abbrev Good : Type 0
  Good = GoodPlan (page_in b n) (header_end (page_in b n)) (kept_starts (page_in b n)) ps

  squeeze_line : (line_of (Call.Squeezing ps) b (page_in b n)).verdict ≡ plan_then (page_in b n) ps (Ok tt)
  unfolding line_of
  squeeze_line = refl

  squeeze_long : (line_of (Call.Squeezing ps) b (page_in b n)).long ≡ planned_end (page_in b n) ps
  unfolding line_of
  squeeze_long = refl

  wrong_plan : (Good → ⊥) → plan_then (page_in b n) ps (Ok tt) ≡ Err Input
  unfolding plan_then gate
  wrong_plan f = go (plan_right (page_in b n) ps) refl
    where
      go : (c : Bool) → plan_right (page_in b n) ps ≡ c → gate c Input (Ok tt) ≡ Err Input
      go true i = absurd (f ((plan_exactly (page_in b n) ps).0 i))
      go false i = refl

  right_plan : Good → plan_then (page_in b n) ps (Ok tt) ≡ Ok tt
  unfolding plan_then gate
  right_plan g = rw ((plan_exactly (page_in b n) ps).1 g)

  squeezes : SqueezeExactly b n ps
  unfolding answered unless_refused
  squeezes =
      let v = line_verdict (Call.Squeezing ps) b n h o ∙ squeeze_line in
      record {
        rejected = λ f. refused_by_lem (Call.Squeezing ps) b n Input (v ∙ wrong_plan f);
        done = λ g. answer_by_lem (Call.Squeezing ps) b n (v ∙ right_plan g) (line_long (Call.Squeezing ps) b n ∙ squeeze_long);
      }

pub squeeze_refused : SqueezeRefused
squeeze_refused b n ps h o = squeezes b n ps h o

-- opening and closing: a time, and room for one record behind the page

no_time : (t : ℕ) (v : Result ⊤ Refusal) → t ≡ 0 → time_then t v ≡ Err Input
unfolding time_then
no_time t v e = sym (gate_no _ Input v (λ p. p.0 e))

some_time : (t : ℕ) (v : Result ⊤ Refusal) → (t ≡ 0 → ⊥) → time_then t v ≡ v
unfolding time_then
some_time t v f = sym (gate_yes _ Input v (f, tt))

module _
    (call : Call) (t : ℕ) (b : List ℕ) (n k m : ℕ) (More : Type 0) (h : n ≤ length b) (w : Wants (kind_of call).role (page_in b n)) (o : Sound (page_in b n))
    (line-is : (line_of call b (page_in b n)).verdict ≡ time_then t (room_left b k)) (long_is : (line_of call b (page_in b n)).long ≡ k) (longer : More → k ≡ n + m) (either : k ≡ n ⊎ More) where
  timed : TimedExactly call t b n More m
  timed =
      let v = line_verdict call b n h w ∙ line-is in
      record {
        no_time = λ e. refused_by_lem call b n Input (v ∙ no_time t _ e);
        room =
            λ f.
            room_exactly call b n k m More h (small_page b n h o) (answer_by_lem call b n (v ∙ some_time t _ f) (line_long call b n ∙ long_is)) longer either;
      }

module _ (b : List ℕ) (n t : ℕ) (h : n ≤ length b) where
  abbrev page : List ℕ
  page = page_in b n

  abbrev directory : ℕ
  directory = record_length (24 + 4 * tile_count page)

  directory_long : length (joined (full_directory page ∷ [])) ≡ directory
  unfolding full_directory
  directory_long =
      let d = directory_of page (compact_of page) in
      ap length (append-nil (record_of (checksum_enabled page) 5 d)) ∙ record_length_lem (checksum_enabled page) 5 d ∙ ap record_length (directory_of_length page (compact_of page))

  opened_longer : directory_full page ≡ false → opened_length page ≡ n + directory
  unfolding opened_length opened_more
  opened_longer e = rw e (omega (arith, directory_long, page_long b n h))

  opened_either : opened_length page ≡ n ⊎ (directory_full page ≡ false)
  unfolding opened_length opened_more
  opened_either = go (directory_full page) refl
    where
      go : (v : Bool) → directory_full page ≡ v → length page + length (joined (pick v [] (full_directory page ∷ []))) ≡ n ⊎ (directory_full page ≡ false)
      go true e = inl (omega (arith, page_long b n h))
      go false e = inr e

  open_line : (line_of (Call.Opening t) b page).verdict ≡ time_then t (room_left b (opened_length page))
  unfolding line_of
  open_line = refl

  open_long : (line_of (Call.Opening t) b page).long ≡ opened_length page
  unfolding line_of
  open_long = refl

  abbrev free : ℕ
  free = length (records_of page 0)

  abbrev listed : ℕ
  listed = record_length (4 + 12 * free)

  list_long : length (joined (file_space_record page ∷ [])) ≡ listed
  unfolding file_space_record
  list_long = ap length (append-nil (record_of (checksum_enabled page) 3 (free_list page))) ∙ record_length_lem (checksum_enabled page) 3 (free_list page) ∙ ap record_length (list_length page)

  any_free_lem : 1 ≤ free → any_free page ≡ true
  unfolding any_free
  any_free_lem k = sym (yes _ (k, tt))

  closed_longer : 1 ≤ free → closed_length page ≡ n + listed
  unfolding closed_length closed_more
  closed_longer k = rw (any_free_lem k) (omega (arith, list_long, page_long b n h))

  closed_either : closed_length page ≡ n ⊎ (1 ≤ free)
  unfolding closed_length closed_more any_free
  closed_either = by_cases (dec_le 1 free) (λ k. inr k) (λ k. inl (rw (← no ((1 ≤? free) ∷ []) (λ p. omega (arith, p.0))) (omega (arith, page_long b n h))))

  close_line : (line_of (Call.Closing t) b page).verdict ≡ time_then t (room_left b (closed_length page))
  unfolding line_of
  close_line = refl

  close_long : (line_of (Call.Closing t) b page).long ≡ closed_length page
  unfolding line_of
  close_long = refl

  opens : check page ≡ Ok tt → TimedExactly (Call.Opening t) t b n (directory_full page ≡ false) directory
  opens a =
      timed (Call.Opening t) t b n (opened_length page) directory (directory_full page ≡ false) h a (accepted_sound page a) open_line open_long opened_longer opened_either

  closes : open_for_writing page ≡ true → TimedExactly (Call.Closing t) t b n (1 ≤ free) listed
  closes o = timed (Call.Closing t) t b n (closed_length page) listed (1 ≤ free) h o (open_sound page o) close_line close_long closed_longer closed_either

pub open_refused : OpenRefused
open_refused b n t h a = opens b n t h a

pub close_refused : CloseRefused
close_refused b n t h o = closes b n t h o
