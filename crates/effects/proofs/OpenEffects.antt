-- The byte stores of opening make the page that it is to make. Assumes nothing.
use Prim.Native.Nat.{ℕ, ◌+◌, ◌-◌, ◌≤◌}
use mathlib.Core.Path.{◌≡◌, sym, ap, ap₂, ◌∙◌}
use mathlib.Core.List.{List, [], ◌∷◌, ◌++◌, append_assoc, Memᴰ}
use mathlib.Core.Bool.{Bool, true, false, not}
use native.Mathlib.Omega.{arith}
use lib.ListN.{length, take, drop}
use Rattle.wire.specs.Pick.{pick}
use Rattle.wire.specs.Bytes.{bytes_of, put, zeros}
use Rattle.wire.proofs.PutLaws.{length_put}
use Rattle.record.specs.Record.{content_at}
use Rattle.record.specs.Chain.{header_end, records, joined}
use Rattle.record.proofs.ChainLaws.{whole_extent}
use Rattle.header.specs.Fields.{checksum_enabled}
use Rattle.page_check.specs.Accepted.{Sound}
use Rattle.page_check.proofs.AcceptedLaws.{accepted_sound}
use Rattle.pieces.specs.Pieces.{piece_at, pieces, freeing}
use Rattle.pieces.proofs.SplitLaws.{piece_type}
use Rattle.stores.specs.Stores.{Write, run}
use Rattle.stores.specs.Writes.{whole_write, seal_write}
use Rattle.writable.specs.Writable.{directory_full}
use Rattle.correct.specs.Front.{page_in, sealed_front}
use Rattle.correct.specs.Opening.{full_directory, opened_more, unwanted, opened_fields, opened_reference, opened_front, opened_page, opened_length}
use Rattle.correct.specs.FieldWrites.{opened_field_writes, refer_to}
use Rattle.correct.specs.Writes.{freeing_writes, directory_writes, open_body, open_writes}
use Rattle.correct.specs.Calls.{Call, line_of}
use Rattle.effects.specs.Effects.{Makes, CallMakes}
use Rattle.effects.proofs.MadeLaws.{run_append, made_makes}
use Rattle.effects.proofs.LieLaws.{Lie, lie_append, lie_more, lie_low}
use Rattle.effects.proofs.PassedLaws.{time_passed, room_passed}
use Rattle.effects.proofs.FreeingEffects.{freeing_run, freeing_lies, records_few}
use Rattle.effects.proofs.FrontEffects.{front_run, opened_run, opened_lies, refer_run, refer_lies, seal_within, seal_run, seal_lies}
use Rattle.effects.proofs.BufferEffects.{page_long, pick_not, buffer_split, front_ends, front_least, pieces_long, added, end_lies, end_made, page_made}

-- a record is freed or not by its type, which its piece has too
unwanted_same : (s : List ℕ) → Sound s → (x : ℕ) → Memᴰ x (records s) → unwanted s s x ≡ unwanted s (piece_at s x) 0
unfolding unwanted
unwanted_same s o x m = rw (piece_type s x (whole_extent s (header_end s) (records s) o.chain m).ok)

module _
    (b : List ℕ) (n t : ℕ) (inside : n ≤ length b) (sound : Sound (page_in b n)) (room : opened_length (page_in b n) ≤ length b)
    (ceiling : opened_length (page_in b n) ≤ 16777216)
  where
    abbrev s : List ℕ
    s = page_in b n

    abbrev f : List ℕ
    f = take (header_end s) s

    abbrev flag : ℕ
    flag = checksum_enabled s

    -- the new directory, if there is one
    abbrev new : List ℕ
    new = joined (opened_more s)

    long : length s ≡ n
    long = page_long b n inside

    ends : length f ≡ header_end s
    ends = front_ends b n inside sound

    least : 288 ≤ length f
    least = front_least b n inside sound

    more_is : opened_more s ≡ pick (not (directory_full s)) (full_directory s ∷ []) []
    unfolding opened_more
    more_is = pick_not (directory_full s) [] (full_directory s ∷ [])

    new_is : new ≡ added (not (directory_full s)) (full_directory s)
    new_is = ap joined more_is

    directory_is : directory_writes (length b) s ≡ pick (not (directory_full s)) (whole_write (length b) (length s) (full_directory s)) []
    unfolding directory_writes
    directory_is = pick_not (directory_full s) [] (whole_write (length b) (length s) (full_directory s))

    -- the fields set
    abbrev one : List ℕ
    one = opened_fields s t

    one_long : length one ≡ length f
    unfolding opened_fields
    one_long = length_put (put f 48 (bytes_of 8 t)) 56 (zeros 8) ∙ length_put f 48 (bytes_of 8 t)

    fields_run : (r : List ℕ) → run (opened_field_writes t) (f ++ r) ≡ one ++ r
    unfolding opened_fields
    fields_run r =
        front_run (opened_field_writes t) f r (opened_lies f t least).fits ∙ ap (λ (l : List ℕ). l ++ r) (opened_run f t least)

    -- the directory behind the page
    directory_run :
        run (directory_writes (length b) s) (one ++ (joined (pieces s) ++ drop n b))
        ≡ one ++ (joined (pieces s) ++ (new ++ drop (length new) (drop n b)))
    unfolding opened_length
    directory_run =
        let k : length s + length new ≤ length b = room in
        rw (directory_is, new_is)
        (end_made b n inside sound one (not (directory_full s)) (full_directory s) one_long (rw (← new_is) (omega arith)))

    -- the reference to it
    abbrev two : List ℕ
    two = opened_reference s one

    two_is : two ≡ pick (not (directory_full s)) (put one 80 (bytes_of 8 (content_at (length s)))) one
    unfolding opened_reference
    two_is = pick_not (directory_full s) one (put one 80 (bytes_of 8 (content_at (length s))))

    two_long : length two ≡ length f
    unfolding opened_reference
    two_long = go (directory_full s)
      where
        go : (c : Bool) → length (pick c one (put one 80 (bytes_of 8 (content_at (length s))))) ≡ length f
        go true = one_long
        go false = length_put one 80 (bytes_of 8 (content_at (length s))) ∙ one_long

    refer_lie : Lie 0 (length f) 1 (refer_to 80 (not (directory_full s)) (length s))
    refer_lie = let l = one_long in rw l at (refer_lies one 80 (not (directory_full s)) (length s) (omega (arith, least)))

    reference_run : (r : List ℕ) → run (refer_to 80 (not (directory_full s)) (length s)) (one ++ r) ≡ two ++ r
    reference_run r =
        front_run (refer_to 80 (not (directory_full s)) (length s)) one r (rw one_long refer_lie.fits)
        ∙ ap (λ (l : List ℕ). l ++ r) (refer_run one 80 (not (directory_full s)) (length s) ∙ sym two_is)

    -- what is freed and joined
    abbrev freed : List (List ℕ)
    freed = freeing flag (λ r. unwanted s r 0) (pieces s)

    freed_run : (z : List ℕ) → run (freeing_writes (length b) s (unwanted s s)) (two ++ (joined (pieces s) ++ z)) ≡ two ++ (joined freed ++ z)
    freed_run z =
        let l = long in
        ap (run (freeing_writes (length b) s (unwanted s s))) (sym (append_assoc two (joined (pieces s)) z))
        ∙ freeing_run s two z (length b) (unwanted s s) (λ r. unwanted s r 0) sound.chain (two_long ∙ ends) (omega arith) (unwanted_same s sound)
        ∙ append_assoc two (joined freed) z

    -- all of them but the checksum
    abbrev rest : List ℕ
    rest = joined freed ++ (new ++ drop (length new) (drop n b))

    body_run : run (open_body (length b) s t) b ≡ two ++ rest
    unfolding open_body
    body_run =
        let a = opened_field_writes t in
        let c = directory_writes (length b) s in
        let d = refer_to 80 (not (directory_full s)) (length s) in
        let e = freeing_writes (length b) s (unwanted s s) in
        let j = joined (pieces s) in
        let z = drop n b in
        run_append (a ++ c ++ d) e b
        ∙ ap (run e)
        (run_append (a ++ c) d b
        ∙ ap (run d)
        (run_append a c b
        ∙ ap (run c) (ap (run a) (buffer_split b n inside sound) ∙ fields_run (j ++ z)) ∙ directory_run)
        ∙ reference_run (j ++ (new ++ drop (length new) z)))
        ∙ freed_run (new ++ drop (length new) z)

    -- the checksum
    seal_same : seal_write flag 16 (header_end s - 16) (run (open_body (length b) s t) b) ≡ seal_write flag 16 (header_end s - 16) two
    seal_same =
        ap (seal_write flag 16 (header_end s - 16)) body_run
        ∙ seal_within flag two (header_end s - 16) (omega (arith, two_long, ends, least)) (omega (arith, ends, least)) rest

    seal_lie : Lie 0 (length f) 1 (seal_write flag 16 (header_end s - 16) two)
    seal_lie = rw two_long at (seal_lies flag two (header_end s - 16) (omega (arith, two_long, ends, least)) (omega (arith, ends, least)))

    page_run : run (open_writes b s t) b ≡ opened_page s t ++ drop (opened_length s) b
    unfolding open_writes opened_page opened_length opened_front sealed_front
    page_run =
        let m = header_end s - 16 in
        let w = seal_write flag 16 m two in
        let x = open_body (length b) s t in
        run_append x (seal_write flag 16 m (run x b)) b
        ∙ ap₂ (λ (ws : List Write) (l : List ℕ). run ws l) seal_same body_run
        ∙ front_run w two rest (rw two_long seal_lie.fits)
        ∙ ap (λ (l : List ℕ). l ++ rest) (seal_run flag two m (omega (arith, two_long, ends, least)) (omega (arith, ends, least)))
        ∙ page_made b n inside sound (sealed_front s two) freed (opened_more s)

    body_lies : Lie 0 (opened_length s) 1048583 (open_body (length b) s t)
    unfolding open_body opened_length
    body_lies =
        let l = long in
        let k = pieces_long b n inside sound in
        let c = ceiling in
        let r = records_few s (header_end s) (records s) sound.chain in
        let m = length s + length new in
        let d : Lie 0 m 1 (directory_writes (length b) s) =
        rw (directory_is, new_is) (end_lies (length b) (not (directory_full s)) (full_directory s) (length s)) in
        lie_more
        (lie_append
        (lie_append (lie_append (lie_more (opened_lies f t least) m 4 (omega arith) (omega arith)) d) (lie_more refer_lie m 1 (omega arith) (omega arith)))
        (lie_more (lie_low 0 (omega arith) (freeing_lies s (length b) (unwanted s s) sound.chain)) m (length (records s) + 1) (omega arith) (omega arith)))
        m 1048583 (omega arith) (omega arith)

    page_lies : Lie 0 (opened_length s) 1048584 (open_writes b s t)
    unfolding open_writes opened_length
    page_lies =
        let l = long in
        let k = pieces_long b n inside sound in
        let x : Lie 0 (length s + length new) 1 (seal_write flag 16 (header_end s - 16) (run (open_body (length b) s t) b)) =
        rw seal_same (lie_more seal_lie (length s + length new) 1 (omega arith) (omega arith)) in
        lie_append body_lies x

    opening_makes : Makes b (open_writes b s t) (opened_page s t) (opened_length s)
    opening_makes =
        made_makes (record { holds = page_run; inside = room; fits = page_lies.fits; few = page_lies.few }) ceiling (omega arith)

pub open_makes : (t : ℕ) → CallMakes (Call.Opening t)
unfolding line_of
open_makes t b n w inside a e =
    let r = room_passed b _ (time_passed t _ e).1 in
    opening_makes b n t inside (accepted_sound (page_in b n) a) r.0 r.1
