-- All kept records put at their new starts, with the gaps between, lowest byte first. Assumes nothing.
use Prim.Native.Nat.{ℕ, zero, suc, ◌+◌, ◌-◌, ◌/◌, ◌%◌, ◌≤◌, ◌<◌}
use mathlib.Core.Path.{◌≡◌, refl, sym, ap, subst, fun_ext, ◌∙◌}
use mathlib.Core.Logic.{◌⊎◌, inl, inr, ⊎_elim}
use mathlib.Core.List.{List, [], ◌∷◌, ◌++◌, append_assoc, append-nil, Memᴰ}
use mathlib.Core.Bool.{Bool, true, false}
use native.Mathlib.Omega.{arith}
use native.Mathlib.Numerals.{add-one}
use lib.ListN.{length, get_or, drop, length-append}
use lib.Seq.{drop-cons}
use lib.Dec.{eqb}
use borrow.Author.Tests.{ne_eqb}
use Rattle.wire.specs.Pick.{pick}
use Rattle.wire.specs.Bytes.{number_at, bytes_of, part, Same}
use Rattle.wire.proofs.ByteLaws.{same_append, number_same}
use Rattle.wire.proofs.ListLaws.{select_member}
use Rattle.record.specs.Record.{length_at, type_at, record_ok}
use Rattle.record.specs.Chain.{header_end, records, joined}
use Rattle.record.proofs.ChainLaws.{IsRecord, ok_means, starts_ok}
use Rattle.header.specs.Fields.{checksum_enabled, metadata_reference, tile_directory_reference}
use Rattle.check_header.specs.Passed.{InRange}
use Rattle.page_check.proofs.GivenLaws.{sound_range}
use Rattle.pieces.specs.Pieces.{piece_at, free_record}
use Rattle.pieces.specs.Edits.{left_over}
use Rattle.pieces.proofs.SplitLaws.{piece_long}
use Rattle.stores.specs.Writes.{one_write, whole_write, seal_write}
use Rattle.stores.proofs.JoinLaws.{Ran, ran_then, ran_on, ran_none, Stored, stored_none, stored_then, stored_ran}
use Rattle.writable.specs.Writable.{Open}
use Rattle.writable.proofs.OpenLaws.{open_means}
use Rattle.correct.specs.Front.{page_in}
use Rattle.correct.specs.Plan.{is_kept, kept_starts, plan_from, plan_right}
use Rattle.correct.specs.Renamed.{tiles_renamed, metadata_renamed, renamed_in}
use Rattle.correct.specs.RecordWrites.{rest_writes}
use Rattle.correct.specs.Squeezing.{moved_to, squeezed_from, squeezed_pieces}
use Rattle.correct.specs.Writes.{squeeze_body, squeeze_writes}
use Rattle.correct.proofs.RecordLaws.{free_length}
use Rattle.edit_walks.proofs.AfterLaws.{After}
use Rattle.page_laws.proofs.MoreLaws.{joined_append}
use Rattle.effects.proofs.PassedLaws.{sound_workable}
use Rattle.effects.proofs.InsideEffects.{whole_one}
use Rattle.effects.proofs.BufferEffects.{page_split, page_long}
use Rattle.calls.proofs.ReadLaws.{page_in_lem}
use Rattle.squeezed.proofs.NamedLaws.{Step, step}
use Rattle.squeezed.proofs.PutLaws.{each_length, resealed_length}
use Rattle.plans.specs.Moved.{old_in, new_in, named_in, new_starts}
use Rattle.squeeze.specs.Kept.{kept_put, KeptFits}
use Rattle.squeeze.specs.Ready.{old_starts, PlanReady}
use Rattle.squeeze.proofs.FillLaws.{stored_after}
use Rattle.squeeze.proofs.KeptLaws.{kept_fits, kept_is}

-- behind the last
drop_all : (zs : List ℕ) (i : ℕ) → length zs ≤ i → drop i zs ≡ []
drop_all [] zero h = refl
drop_all [] (suc i) h = refl
drop_all (z ∷ zs) zero h = absurd (omega arith)
drop_all (z ∷ zs) (suc i) h = drop_all zs i (omega arith)

-- both starts of a number

pub upper_is : (z : ℕ) → z / 4294967296 ≡ old_in z
unfolding old_in
upper_is z = refl

pub lower_is : (z : ℕ) → z % 4294967296 ≡ new_in z
unfolding new_in
lower_is z = refl

-- what is read of the page, by a part of the buffer
pub in_page : (f : List ℕ → ℕ) (d : List ℕ) (n : ℕ) {v : List ℕ} {r : ℕ} → v ≡ part d 0 n → r ≡ f v → r ≡ f (page_in d n)
unfolding page_in
in_page f d n e h = h ∙ ap f e

-- a renamed record is as long as it was
tiles_long : (s : List ℕ) (named : ℕ → ℕ) (r : List ℕ) → length (tiles_renamed s named r) ≡ length r
unfolding tiles_renamed
tiles_long s named r = resealed_length _ _ ∙ each_length _ _ r _

metadata_long : (s : List ℕ) (named : ℕ → ℕ) (r : List ℕ) → length (metadata_renamed s named r) ≡ length r
unfolding metadata_renamed
metadata_long s named r = resealed_length _ _ ∙ each_length _ _ r _

renamed_long : (s : List ℕ) (named : ℕ → ℕ) (r : List ℕ) → length (renamed_in s named r) ≡ length r
unfolding renamed_in
renamed_long s named r = go (eqb (type_at r 0) 5) (eqb (type_at r 0) 4)
  where
    go : (a b : Bool) → length (pick a (tiles_renamed s named r) (pick b (metadata_renamed s named r) r)) ≡ length r
    go true b = tiles_long s named r
    go false true = metadata_long s named r
    go false false = refl

-- a gap as one write

gap_long : (flag n : ℕ) → (n ≡ 0) ⊎ (16 ≤ n) → length (joined (left_over flag n)) ≡ n
unfolding left_over
gap_long flag n (inl e) = rw e
gap_long flag n (inr h) =
    rw (ne_eqb n 0 (λ z. omega arith)) (ap length (append-nil (free_record flag n)) ∙ omega (arith, free_length flag n))

gap_none : {m : ℕ} {l : List ℕ} (e : ℕ) {m1 : ℕ} {l1 : List ℕ} → Ran m [] l m1 l1 → Ran m (one_write e []) l m1 l1
gap_none {m} {l} e {m1} {l1} q =
    let r = ran_none m l in
    let a : m1 ≡ m = q.left ∙ sym r.left in
    let b : l1 ≡ l = q.holds ∙ sym r.holds in
    rw (a, b) (stored_ran (stored_none m l e))

gap_ran :
    {m : ℕ} {l : List ℕ} (flag e n : ℕ) {m1 : ℕ} {l1 : List ℕ} → Ran m (rest_writes (length l) flag e n) l m1 l1 → (n ≡ 0) ⊎ (16 ≤ n) → e + n ≤ length l →
    Ran m (one_write e (joined (left_over flag n))) l m1 l1
unfolding rest_writes left_over
gap_ran {m} {l} flag e n q (inl z) h = rw z (gap_none e (rw z at q))
gap_ran {m} {l} flag e n {m1} {l1} q (inr z) h =
    let y : eqb n 0 ≡ false = ne_eqb n 0 (λ u. omega arith) in
    let v = free_record flag n in
    let q1 : Ran m (whole_write (length l) e v) l m1 l1 = rw y at q in
    let w : whole_write (length l) e v ≡ one_write e v = whole_one (length l) e v (omega (arith, free_length flag n)) in
    let q2 : Ran m (one_write e v) l m1 l1 = rw w at q1 in
    rw (y, append-nil v) q2

-- the page

page_same : (d : List ℕ) (n a b : ℕ) → n ≤ length d → b ≤ n → Same (page_in d n) d a b
page_same d n a b h g =
    subst (λ (y : List ℕ). Same (page_in d n) y a b) (sym (page_split d n h)) (same_append (page_in d n) (drop n d) a b (omega (arith, page_long d n h)))

-- the loop: i records are put, up to e

pub record Sliding (k : ℕ) (d : List ℕ) (n : ℕ) (zs : List ℕ) (i e m : ℕ) (l : List ℕ) : Type 0 where
  pub past : List ℕ
  pub stored : Stored k d (header_end (page_in d n)) past (length past) m l
  pub place : e ≡ header_end (page_in d n) + length past
  pub whole :
      joined (squeezed_pieces (page_in d n) (new_starts zs))
      ≡ past
      ++ joined
      (squeezed_from (checksum_enabled (page_in d n)) (moved_to (page_in d n) (new_starts zs)) (page_in d n) e (old_starts (drop i zs)) (new_starts (drop i zs)))
  pub right : plan_from (page_in d n) e (old_starts (drop i zs)) (new_starts (drop i zs)) ≡ true
  pub kept : (x : ℕ) → Memᴰ x (old_starts (drop i zs)) → Memᴰ x (kept_starts (page_in d n))
  pub most : i ≤ length zs

module _ {d : List ℕ} {n : ℕ} {zs : List ℕ} (y : PlanReady d n zs) where
  abbrev s : List ℕ
  s = page_in d n

  abbrev ps : List ℕ
  ps = new_starts zs

  abbrev flag : ℕ
  flag = checksum_enabled s

  abbrev H : ℕ
  H = header_end s

  open_page_lem : Open s
  open_page_lem = open_means s y.open_page_lem

  range : InRange s (length s)
  range = sound_range s (records s) open_page_lem.sound

  pub inside : n ≤ length d
  inside = page_in_lem d n (sound_workable open_page_lem.sound)

  s_long : length s ≡ n
  s_long = page_long d n inside

  named_is : named_in zs ≡ moved_to s ps
  named_is = fun_ext y.packs.named

  pub ready_least : 288 ≤ header_end s
  ready_least = range.header_least

  pub slide_begin : (k : ℕ) {e : ℕ} → e ≡ header_end s → Sliding k d n zs 0 e k d
  unfolding squeezed_pieces plan_right
  slide_begin k h =
      record {
        past = [];
        stored = stored_none k d (header_end s);
        place = omega arith;
        whole = rw (h, y.old);
        right = rw (h, y.old) y.right;
        kept = λ x m. rw y.old at m;
        most = omega arith;
      }

  module _ {k i e m : ℕ} {l : List ℕ} (t : Sliding k d n zs i e m l) where
    slide_after : After l d e
    slide_after = rw t.place (stored_after t.stored)

    pub slide_room : length l ≡ length d
    slide_room = slide_after.long

    pub slide_all : length zs ≤ i → Ran k (one_write (header_end s) (joined (squeezed_pieces s ps))) d m l
    unfolding squeezed_from old_starts
    slide_all h =
        let a = drop_all zs i h in
        let b : joined (squeezed_pieces s ps) ≡ t.past = rw a at t.whole ∙ append-nil t.past in
        rw b (stored_ran t.stored)

    module _ (h : i < length zs) {z : ℕ} (g : z ≡ get_or zs i 0) {x p : ℕ} (ex : x ≡ old_in z) (ep : p ≡ new_in z) where
      abbrev zs' : List ℕ
      zs' = drop (suc i) zs

      here : drop i zs ≡ z ∷ zs'
      here = drop-cons zs i 0 h ∙ ap (λ (a : ℕ). a ∷ zs') (sym g)

      stepped : Step s e x p (old_starts zs') (new_starts zs')
      unfolding old_starts new_starts
      stepped = step s e x p (old_starts zs') (new_starts zs') (rw (← ex, ← ep) at (rw here at t.right))

      member : Memᴰ x (kept_starts s)
      unfolding old_starts
      member = let c = t.kept x in rw here at c (Memᴰ.head ex)

      kept_tail : (v : ℕ) → Memᴰ v (old_starts zs') → Memᴰ v (kept_starts s)
      unfolding old_starts
      kept_tail v u = let c = t.kept v in rw here at c (Memᴰ.tail u)

      among : Memᴰ x (records s)
      unfolding kept_starts
      among = (select_member (is_kept s) (records s) member).0

      ok : record_ok s x ≡ true
      unfolding records
      ok = starts_ok s x (header_end s) among

      is : IsRecord s x
      is = ok_means s x ok

      gap : (p - e ≡ 0) ⊎ (16 ≤ p - e)
      gap = ⊎_elim (λ q. inl (omega arith)) (λ q. inr (omega arith)) stepped.start.gap

      -- what the code asks for
      pub next_order : (e ≤ p) × (p ≤ x)
      next_order = (stepped.start.behind, stepped.start.not_up)

      same_from : (o : List ℕ) (a : ℕ) → After o d a → a ≤ x → Same o s x (x + length_at s x)
      same_from o a f q =
          let j : Same s d x (x + length_at s x) = page_same d n x (x + length_at s x) inside (omega (arith, is.inside, s_long)) in
          record {
            in_first = omega (arith, j.in_second, f.long);
            in_second = j.in_first;
            each = λ b u v. f.each b (omega arith) ∙ sym (j.each b u v);
          }

      pub next_long : number_at 4 l x ≡ length_at s x
      next_long = number_same (same_from l e slide_after (omega (arith, next_order.0, next_order.1))) 4 x (omega arith) (omega (arith, is.long))

      pub next_inside : x + number_at 4 l x ≤ n
      next_inside = omega (arith, next_long, is.inside, s_long)

      module _ {f m1 : ℕ} {l1 : List ℕ} (fe : f ≡ checksum_enabled s) (q' : Ran m (rest_writes (length l) f e (p - e)) l m1 l1) where
        q : Ran m (rest_writes (length l) flag e (p - e)) l m1 l1
        q = rw fe at q'

        abbrev G : List ℕ
        G = joined (left_over flag (p - e))

        G-long : length G ≡ p - e
        G-long = gap_long flag (p - e) gap

        gapped : Stored k d H (t.past ++ G) (length t.past + (p - e)) m1 l1
        gapped =
            let w : Ran m (one_write e G) l m1 l1 = gap_ran flag e (p - e) q gap (omega (arith, slide_room, next_order.1, next_inside, inside, next_order.0)) in
            stored_then t.stored G (p - e) e w G-long t.place (omega (arith, t.place, next_order.1, next_inside, inside, next_order.0))

        gapped_after : After l1 d p
        gapped_after =
            let b : H + (length t.past + (p - e)) ≡ p = omega (arith, t.place, next_order.0) in
            rw b at (stored_after gapped)

        same_now : Same l1 s x (x + length_at s x)
        same_now = same_from l1 p gapped_after next_order.1

        pub next_fits : KeptFits l1 x
        next_fits = kept_fits s l1 x open_page_lem among same_now

        abbrev R : List ℕ
        R = renamed_in s (moved_to s ps) (piece_at s x)

        put_is : kept_put flag (named_in zs) l1 x ≡ R
        put_is = kept_is s l1 x open_page_lem among same_now (named_in zs) ∙ ap (λ (f : ℕ → ℕ). renamed_in s f (piece_at s x)) named_is

        R-long : length R ≡ length_at s x
        R-long = renamed_long s (moved_to s ps) (piece_at s x) ∙ piece_long s x ok

        rest_is :
            joined (squeezed_from flag (moved_to s ps) s e (old_starts (drop i zs)) (new_starts (drop i zs)))
            ≡ G ++ (R ++ joined (squeezed_from flag (moved_to s ps) s (p + length_at s x) (old_starts zs') (new_starts zs')))
        unfolding squeezed_from old_starts new_starts
        rest_is = rw (here, ← ex, ← ep) (joined_append (left_over flag (p - e)) _)

        pub slide_more :
            {long m2 : ℕ} {l2 : List ℕ} → long ≡ number_at 4 l x → Ran m1 (one_write p (kept_put f (named_in zs) l1 x)) l1 m2 l2 →
            Sliding k d n zs (i + 1) (p + long) m2 l2
        slide_more {long} {m2} {l2} a w =
            let b : long ≡ length_at s x = a ∙ next_long in
            let w1 : Ran m1 (one_write p R) l1 m2 l2 = rw put_is at (rw fe at w) in
            let past = t.past ++ G ++ R in
            let c : length past ≡ length t.past + (p - e) + length_at s x =
            length-append (t.past ++ G) R ∙ omega (arith, length-append t.past G, G-long, R-long) in
            let st = stored_then gapped R (length_at s x) p w1 R-long (omega (arith, t.place, next_order.0)) (omega (arith, t.place, next_order.0, next_order.1, next_inside, next_long, inside)) in
            rw (add-one i, b)
            (record {
              past = past;
              stored = rw (← c) at st;
              place = omega (arith, c, t.place, next_order.0);
              whole =
                  t.whole ∙ ap (λ (v : List ℕ). t.past ++ v) rest_is
                  ∙ sym (append_assoc t.past G (R ++ joined (squeezed_from flag (moved_to s ps) s (p + length_at s x) (old_starts zs') (new_starts zs'))))
                  ∙ sym (append_assoc (t.past ++ G) R (joined (squeezed_from flag (moved_to s ps) s (p + length_at s x) (old_starts zs') (new_starts zs'))));
              right = stepped.rest;
              kept = λ v u. kept_tail v u;
              most = h;
            })

  -- and the header
  pub squeeze_ran :
      {k a b c r c1 c2 : ℕ} {l l1 l2 o : List ℕ} (first second end f : ℕ) → end ≡ header_end s → f ≡ checksum_enabled s → first ≡ named_in zs c1 → c1 ≡ metadata_reference s →
      second ≡ named_in zs c2 → c2 ≡ tile_directory_reference s → Ran k (one_write (header_end s) (joined (squeezed_pieces s ps))) d a l →
      Ran a (one_write 64 (bytes_of 8 first)) l b l1 → Ran b (one_write 80 (bytes_of 8 second)) l1 c l2 → Ran c (seal_write f 16 (end - 16) l2) l2 r o →
      Ran k (squeeze_writes d s ps) d r o
  unfolding squeeze_writes squeeze_body
  squeeze_ran {k} {a} {b} {c} {r} {l = l} {l1} {l2} {o} first second end f e g h h2 i i2 p q t u =
      let q1 : Ran a (one_write 64 (bytes_of 8 (moved_to s ps (metadata_reference s)))) l b l1 = rw (h ∙ ap (named_in zs) h2 ∙ y.packs.named (metadata_reference s)) at q in
      let t1 : Ran b (one_write 80 (bytes_of 8 (moved_to s ps (tile_directory_reference s)))) l1 c l2 = rw (i ∙ ap (named_in zs) i2 ∙ y.packs.named (tile_directory_reference s)) at t in
      let u1 : Ran c (seal_write flag 16 (header_end s - 16) l2) l2 r o = rw (e, g) at u in
      ran_on (seal_write flag 16 (header_end s - 16)) (ran_then (ran_then p q1) t1) u1
