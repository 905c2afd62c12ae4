-- The byte stores of closing make the page that it is to make. Assumes nothing.
use Prim.Native.Nat.{ℕ, ◌+◌, ◌≤◌, ◌<◌}
use mathlib.Core.Path.{◌≡◌, refl, sym, ap, ap₂, ◌∙◌}
use mathlib.Core.List.{List, ◌++◌}
use mathlib.Core.Bool.{false}
use native.Mathlib.Omega.{arith}
use lib.ListN.{length, take, drop}
use Rattle.wire.specs.Bytes.{part, number_at}
use Rattle.wire.proofs.TestLaws.{yes, not_both}
use Rattle.wire.proofs.ByteLaws.{part_length}
use Rattle.record.specs.Chain.{header_end, joined}
use Rattle.header.specs.Fields.{checksum_enabled}
use Rattle.check_header.specs.Stages.{closed}
use Rattle.page_check.specs.Accepted.{Sound}
use Rattle.pieces.specs.Pieces.{pieces}
use Rattle.stores.specs.Stores.{Write, run}
use Rattle.writable.specs.Writable.{Open}
use Rattle.writable.proofs.OpenLaws.{open_means}
use Rattle.correct.specs.Front.{page_in, sealed_front}
use Rattle.correct.specs.Closing.{file_space_record, any_free, closed_more, closed_fields, closed_reference, closed_front, closed_page, closed_length}
use Rattle.correct.specs.FieldWrites.{first_set, Lowest, closed_front_writes}
use Rattle.correct.specs.Writes.{list_writes, close_writes}
use Rattle.correct.specs.Calls.{Call, line_of}
use Rattle.correct.proofs.FieldLaws.{lowest_set}
use Rattle.effects.specs.Effects.{Makes, CallMakes}
use Rattle.effects.proofs.MadeLaws.{run_append, made_makes}
use Rattle.effects.proofs.LieLaws.{Lie, lie_append, lie_more}
use Rattle.effects.proofs.PassedLaws.{time_passed, room_passed}
use Rattle.effects.proofs.FrontEffects.{front_run, closed_run, closed_lies, closed_within}
use Rattle.effects.proofs.BufferEffects.{page_long, buffer_split, front_ends, front_least, pieces_long, end_lies, end_made, page_made}

-- the opened time of a page that is not closed has a byte that is not zero
pub opened_lowest : (s : List ℕ) → closed s ≡ false → Lowest (part s 48 8)
unfolding closed number_at
opened_lowest s c = lowest_set (part s 48 8) (λ e. not_both (sym (yes _ (e, tt))) c)

module _
    (b : List ℕ) (n t : ℕ) (inside : n ≤ length b) (o : Open (page_in b n)) (room : closed_length (page_in b n) ≤ length b)
    (ceiling : closed_length (page_in b n) ≤ 16777216)
  where
    abbrev s : List ℕ
    s = page_in b n

    abbrev f : List ℕ
    f = take (header_end s) s

    abbrev flag : ℕ
    flag = checksum_enabled s

    -- the list of free records, if there is one
    abbrev new : List ℕ
    new = joined (closed_more s)

    -- the byte of the opened time that is cleared last
    abbrev byte : ℕ
    byte = first_set (part s 48 8)

    sound : Sound s
    sound = o.sound

    long : length s ≡ n
    long = page_long b n inside

    ends : length f ≡ header_end s
    ends = front_ends b n inside sound

    least : 288 ≤ length f
    least = front_least b n inside sound

    byte_most : byte < 8
    byte_most = omega (arith, (opened_lowest s o.opened).inside, part_length s 48 8 (omega (arith, least, pieces_long b n inside sound, long)))

    abbrev rest : List ℕ
    rest = joined (pieces s) ++ (new ++ drop (length new) (drop n b))

    listed_run : run (list_writes (length b) s) b ≡ f ++ rest
    unfolding list_writes closed_more closed_length
    listed_run =
        ap (run (list_writes (length b) s)) (buffer_split b n inside sound) ∙ end_made b n inside sound f (any_free s) (file_space_record s) refl room

    -- the writes to the header
    abbrev front : List Write
    front = closed_front_writes flag (header_end s) t (any_free s) (length s) byte f

    front_same : closed_front_writes flag (header_end s) t (any_free s) (length s) byte (run (list_writes (length b) s) b) ≡ front
    front_same =
        ap (closed_front_writes flag (header_end s) t (any_free s) (length s) byte) listed_run
        ∙ closed_within flag t (any_free s) (length s) byte f (header_end s) ends least byte_most rest

    front_lie : Lie 0 (length f) 6 front
    front_lie = closed_lies flag t (any_free s) (length s) byte f (header_end s) ends least byte_most

    front_made_lem : run front f ≡ closed_front s t
    unfolding closed_front sealed_front closed_reference closed_fields
    front_made_lem = closed_run flag t (any_free s) (length s) byte f (header_end s) ends least byte_most

    page_run : run (close_writes b s t) b ≡ closed_page s t ++ drop (closed_length s) b
    unfolding close_writes closed_page closed_length
    page_run =
        let x = list_writes (length b) s in
        run_append x (closed_front_writes flag (header_end s) t (any_free s) (length s) byte (run x b)) b
        ∙ ap₂ (λ (ws : List Write) (l : List ℕ). run ws l) front_same listed_run
        ∙ front_run front f rest front_lie.fits
        ∙ ap (λ (l : List ℕ). l ++ rest) front_made_lem
        ∙ page_made b n inside sound (closed_front s t) (pieces s) (closed_more s)

    page_lies : Lie 0 (closed_length s) 7 (close_writes b s t)
    unfolding close_writes closed_length list_writes closed_more
    page_lies =
        let l = long in
        let k = pieces_long b n inside sound in
        let x : Lie 0 (length s + length new) 6 (closed_front_writes flag (header_end s) t (any_free s) (length s) byte (run (list_writes (length b) s) b)) =
        rw front_same (lie_more front_lie (length s + length new) 6 (omega arith) (omega arith)) in
        lie_append (end_lies (length b) (any_free s) (file_space_record s) (length s)) x

    closing_makes : Makes b (close_writes b s t) (closed_page s t) (closed_length s)
    closing_makes =
        made_makes (record { holds = page_run; inside = room; fits = page_lies.fits; few = page_lies.few }) ceiling (omega arith)

pub close_makes : (t : ℕ) → CallMakes (Call.Closing t)
unfolding line_of
close_makes t b n w inside o e =
    let r = room_passed b _ (time_passed t _ e).1 in
    closing_makes b n t inside (open_means (page_in b n) o) r.0 r.1
