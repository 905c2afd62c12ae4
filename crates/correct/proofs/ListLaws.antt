-- The list of free records as it is stored behind a page. Assumes nothing.
use Prim.Native.Nat.{ℕ, suc, ◌+◌, ◌*◌, ◌%◌, ◌-◌, ◌≤◌, ◌<◌}
use mathlib.Core.Path.{◌≡◌, refl, sym, ap, ◌∙◌}
use mathlib.Core.Logic.{◌⊎◌}
use mathlib.Core.List.{List, [], ◌∷◌, ◌++◌, append_assoc, append-nil}
use mathlib.Core.Bool.{Bool, true, false}
use native.Mathlib.Omega.{arith}
use lib.ListN.{length, length-append}
use lib.Dec.{eqb}
use denote.Enum.Declared.{tag_of}
use borrow.Author.Tests.{eq-eqb, ne_eqb}
use Rattle.wire.specs.Lists.{select}
use Rattle.wire.specs.Bytes.{part, bytes_of, zeros}
use Rattle.wire.proofs.ByteLaws.{bytes_length}
use Rattle.wire.proofs.PutLaws.{bytes_mod}
use Rattle.record.specs.declared.Cursor.{Cursor}
use Rattle.record.specs.declared.Step.{Step}
use Rattle.record.specs.declared.Step.TheVariants.{Record}
use Rattle.record.specs.Record.{type_at, length_at, record_ok, step_at}
use Rattle.record.specs.Chain.{starts, header_end, records, records_of}
use Rattle.record.proofs.ChainLaws.{ok_means, by_chain, stepped, starts_none, starts_record, less}
use Rattle.record.proofs.SeekLaws.{over}
use Rattle.record.specs.contracts.Step.{the_type}
use Rattle.written_records.specs.Pieces.{record_head, record_length, record_of}
use Rattle.written_records.proofs.PieceLaws.{head_length_lem, record_holds}
use Rattle.stores.specs.Writes.{one_write, whole_write, seal_write}
use Rattle.stores.proofs.StoreLaws.{length_stopped}
use Rattle.stores.proofs.JoinLaws.{Ran, Stored, stored_none, stored_first, stored_then, stored_ran}
use Rattle.correct.specs.Front.{page_in}
use Rattle.correct.specs.Closing.{free_entry_bytes, free_list}
use Rattle.correct.proofs.RecordLaws.{record_in, record_out}
use Rattle.correct.proofs.TileLaws.{part_most}
use Rattle.correct.proofs.DirectoryLaws.{page_kept}

-- an entry

pub entry_stored :
    {k : ℕ} {d : List ℕ} (at start long v : ℕ) {a r : ℕ} {l o : List ℕ} → v ≡ long % 4294967296 → Ran k (one_write at (bytes_of 8 start)) d a l →
    Ran a (one_write (at + 8) (bytes_of 4 v)) l r o → at + 12 ≤ length d → Ran k (one_write at (bytes_of 8 start ++ bytes_of 4 long)) d r o
entry_stored at start long v e p q h =
    let w1 = stored_first p (bytes_length 8 start) in
    let w2 = stored_then w1 (bytes_of 4 v) 4 (at + 8) q (bytes_length 4 v) refl (omega arith) in
    let b : bytes_of 4 v ≡ bytes_of 4 long = ap (bytes_of 4) e ∙ bytes_mod 4 long in
    rw (← b) (stored_ran w2)

entry_length_lem : (x y : ℕ) → length (bytes_of 8 x ++ bytes_of 4 y) ≡ 12
entry_length_lem x y = length-append (bytes_of 8 x) (bytes_of 4 y) ∙ omega (arith, bytes_length 8 x, bytes_length 4 y)

pub entries_length : (s xs : List ℕ) → length (free_entry_bytes s xs) ≡ 12 * length xs
unfolding free_entry_bytes
entries_length s [] = refl
entries_length s (x ∷ xs) =
    length-append (bytes_of 8 x ++ bytes_of 4 (length_at s x)) (free_entry_bytes s xs) ∙ omega (arith, entry_length_lem x (length_at s x), entries_length s xs)

-- the entries of those from a position on

unfoldable pub ahead : List ℕ → ℕ → List ℕ
ahead s at = free_entry_bytes s (select (λ x. eqb (type_at s x) 0) (starts s at))

ahead_all : (s : List ℕ) → ahead s (header_end s) ≡ free_entry_bytes s (records_of s 0)
unfolding ahead records_of records
ahead_all s = refl

ahead_here :
    (s : List ℕ) (at : ℕ) → record_ok s at ≡ true → type_at s at ≡ 0 →
    ahead s at ≡ bytes_of 8 at ++ bytes_of 4 (length_at s at) ++ ahead s (at + length_at s at)
unfolding ahead select free_entry_bytes
ahead_here s at o e = rw (starts_record s at o, eq-eqb (type_at s at) 0 e)

ahead_pass : (s : List ℕ) (at : ℕ) → record_ok s at ≡ true → (type_at s at ≡ 0 → ⊥) → ahead s at ≡ ahead s (at + length_at s at)
unfolding ahead select
ahead_pass s at o e = rw (starts_record s at o, ne_eqb (type_at s at) 0 e)

ahead_none : (s : List ℕ) (at : ℕ) → record_ok s at ≡ false → ahead s at ≡ []
unfolding ahead select free_entry_bytes
ahead_none s at h = rw (starts_none s at h)

-- a record takes 16 bytes at least, so there are not many

starts_few : (s : List ℕ) (at : ℕ) → 16 * length (starts s at) ≤ length s - at
starts_few s =
    by_chain s (λ at. 16 * length (starts s at) ≤ length s - at) (λ at e. rw (starts_none s at e) (omega arith))
    (λ at e r. let o = ok_means s at e in rw (starts_record s at e) (omega (arith, o.long, o.inside)))

select_few : (p : ℕ → Bool) (l : List ℕ) → length (select p l) ≤ length l
unfolding select
select_few p [] = omega arith
select_few p (x ∷ l) = go (p x) refl (select_few p l)
  where
    go : (b : Bool) → p x ≡ b → length (select p l) ≤ length l → length (select p (x ∷ l)) ≤ suc (length l)
    go true e h = rw e (omega arith)
    go false e h = rw e (omega arith)

pub free_few : (d : List ℕ) (n count : ℕ) {s : List ℕ} → s ≡ part d 0 n → count ≡ length (records_of s 0) → 16 * count ≤ n
unfolding records_of records
free_few d n count {s} e f =
    let a = select_few (λ x. eqb (type_at s x) 0) (starts s (header_end s)) in
    let b = starts_few s (header_end s) in
    let c : length s ≤ n = rw e (part_most d 0 n) in
    omega arith

-- the loop over the cursor at x: `past` is stored from n + 12 up to `at`, and what is ahead of x makes it whole

pub page_of_lem : (d l : List ℕ) (n : ℕ) {s : List ℕ} → s ≡ part l 0 n → page_in l n ≡ page_in d n → s ≡ page_in d n
unfolding page_in
page_of_lem d l n e f = e ∙ f

pub part_page : (d : List ℕ) (n : ℕ) {s : List ℕ} → s ≡ part d 0 n → s ≡ page_in d n
unfolding page_in
part_page d n e = e

pub record Listing (k : ℕ) (d : List ℕ) (n x at m : ℕ) (l : List ℕ) : Type 0 where
  pub past : List ℕ
  pub page : page_in l n ≡ page_in d n
  pub place : at ≡ n + 12 + length past
  pub stored : Stored k d (n + 12) past (length past) m l
  pub whole : free_entry_bytes (page_in d n) (records_of (page_in d n) 0) ≡ past ++ ahead (page_in d n) x

pub listing_begin : (k : ℕ) (d : List ℕ) (n x : ℕ) {s : List ℕ} → s ≡ part d 0 n → x ≡ header_end s → Listing k d n x (n + 12) k d
unfolding page_in
listing_begin k d n x e f =
    record {
      past = [];
      page = refl;
      place = omega arith;
      stored = stored_none k d (n + 12);
      whole = sym (ap (ahead (part d 0 n)) (f ∙ ap header_end e) ∙ ahead_all (part d 0 n));
    }

module _ {k : ℕ} {d : List ℕ} {n x at m : ℕ} {l : List ℕ} (w : Listing k d n x at m l) where
  pub listing_room : length l ≡ length d
  listing_room = ap length w.stored.holds ∙ length_stopped k (one_write (n + 12) w.past) d

module _
    {k : ℕ} {d : List ℕ} {n x at m : ℕ} {l : List ℕ} {kind st long : ℕ} {nx : Cursor} {t : Step} {s : List ℕ} (w : Listing k d n x at m l)
    (e : s ≡ part l 0 n) (u : t ≡ Record kind st long nx) (v : t ≡ step_at s x)
  where
    page_is : s ≡ page_in d n
    page_is = page_of_lem d l n e w.page

    pub listing_less : length (page_in d n) - nx.at < length (page_in d n) - x
    listing_less = less (page_in d n) x kind st long nx t u (rw page_is at v)

    pub listing_stay : (kind ≡ 0 → ⊥) → Listing k d n nx.at at m l
    listing_stay z =
        let h = stepped u (rw page_is at v) in
        let p = page_in d n in
        record {
          past = w.past;
          page = w.page;
          place = w.place;
          stored = w.stored;
          whole = w.whole ∙ ap (λ (y : List ℕ). w.past ++ y) (ahead_pass p x h.ok (λ q. z (h.kind ∙ rw h.start q)) ∙ ap (ahead p) (sym h.next));
        }

    here : kind ≡ 0 → ahead (page_in d n) x ≡ bytes_of 8 st ++ bytes_of 4 long ++ ahead (page_in d n) nx.at
    here z =
        let h = stepped u (rw page_is at v) in
        let p = page_in d n in
        ahead_here p x h.ok (rw (← h.start) (sym h.kind ∙ z)) ∙ rw (h.start, h.long, h.next)

    pub listing_fits : kind ≡ 0 → n + 12 + length (free_entry_bytes (page_in d n) (records_of (page_in d n) 0)) ≤ length d → at + 12 ≤ length l
    listing_fits z h =
        let y = ahead (page_in d n) nx.at in
        omega
        (arith, w.place, listing_room w, ap length w.whole, length-append w.past (ahead (page_in d n) x), ap length (here z), length-append (bytes_of 8 st ++ bytes_of 4 long) y, entry_length_lem st long)

    pub listing_more :
        {r : ℕ} {o : List ℕ} → kind ≡ 0 → n + 12 + length (free_entry_bytes (page_in d n) (records_of (page_in d n) 0)) ≤ length d →
        Ran m (one_write at (bytes_of 8 st ++ bytes_of 4 long)) l r o → Listing k d n nx.at (at + 12) r o
    listing_more z h q =
        let y = ahead (page_in d n) nx.at in
        let b = bytes_of 8 st ++ bytes_of 4 long in
        let lb = entry_length_lem st long in
        let a = length-append w.past b in
        let g = listing_fits z h in
        let c : length w.past + 12 ≡ length (w.past ++ b) = omega arith in
        let f = stored_then w.stored b 12 at q lb w.place (omega (arith, w.place, listing_room w)) in
        record {
          past = w.past ++ b;
          page = page_kept m n at b l q.holds (omega (arith, w.place)) (omega (arith, w.place)) ∙ w.page;
          place = omega (arith, w.place);
          stored = rw c at f;
          whole = w.whole ∙ ap (λ (j : List ℕ). w.past ++ j) (here z) ∙ sym (append_assoc w.past b y);
        }

pub listing_over :
    {k : ℕ} {d : List ℕ} {n x at m : ℕ} {l : List ℕ} {t : Step} {s : List ℕ} → Listing k d n x at m l → s ≡ part l 0 n → t ≡ step_at s x →
    (tag_of the_type t ≡ 1) ⊎ (tag_of the_type t ≡ 2) → Ran k (one_write (n + 12) (free_entry_bytes (page_in d n) (records_of (page_in d n) 0))) d m l
listing_over {k} {d} {n} {x} {l = l} {t} {s} w e v g =
    let p : s ≡ page_in d n = page_of_lem d l n e w.page in
    let z = ahead_none (page_in d n) x (over (page_in d n) x t (rw p at v) g) in
    let f : free_entry_bytes (page_in d n) (records_of (page_in d n) 0) ≡ w.past = w.whole ∙ ap (λ (y : List ℕ). w.past ++ y) z ∙ append-nil w.past in
    rw f (stored_ran w.stored)

-- the whole list

module _
    (k : ℕ) (d : List ℕ) (n flag count long : ℕ) (f : count ≡ length (records_of (page_in d n) 0))
    (i : long ≡ record_length (4 + 12 * count))
  where
    body_length : length (free_list (page_in d n)) ≡ 4 + 12 * count
    unfolding free_list
    body_length =
        let s = page_in d n in
        length-append (bytes_of 4 (length (records_of s 0))) (free_entry_bytes s (records_of s 0))
        ∙ omega (arith, bytes_length 4 (length (records_of s 0)), entries_length s (records_of s 0))

    pub list_out : length d < n + long → Ran k (whole_write (length d) n (record_of flag 3 (free_list (page_in d n)))) d k d
    list_out h = record_out k d n flag 3 long (free_list (page_in d n)) (i ∙ ap record_length (sym body_length)) h

    -- behind the head and the count the page is as it was
    module _ {a b : ℕ} {l1 l2 : List ℕ} (p : Ran k (one_write n (record_head long 3)) d a l1) (q : Ran a (one_write (n + 8) (bytes_of 4 count)) l1 b l2) (h : n + long ≤ length d) where
      begun : Stored k d n (record_head long 3 ++ bytes_of 4 count) 12 b l2
      begun =
          let m = record_holds (4 + 12 * count) in
          stored_then (stored_first p (head_length_lem long 3)) (bytes_of 4 count) 4 (n + 8) q (bytes_length 4 count) refl (omega arith)

      begun_page : page_in l2 n ≡ page_in d n
      begun_page = page_kept k n n (record_head long 3 ++ bytes_of 4 count) d begun.holds (omega arith) (omega arith)

      pub list_fits_lem : n + 12 + length (free_entry_bytes (page_in l2 n) (records_of (page_in l2 n) 0)) ≤ length l2
      list_fits_lem =
          let m = record_holds (4 + 12 * count) in
          rw begun_page
          (omega
          (arith, entries_length (page_in d n) (records_of (page_in d n) 0), ap length begun.holds, length_stopped k (one_write n (record_head long 3 ++ bytes_of 4 count)) d))

      pub list_in :
          {c j r : ℕ} {l3 l4 o : List ℕ} → Ran b (one_write (n + 12) (free_entry_bytes (page_in l2 n) (records_of (page_in l2 n) 0))) l2 c l3 →
          Ran c (one_write (n + 12 + 12 * count) (zeros (long - 4 - (12 + 12 * count)))) l3 j l4 → Ran j (seal_write flag n long l4) l4 r o →
          Ran k (whole_write (length d) n (record_of flag 3 (free_list (page_in d n)))) d r o
      unfolding free_list
      list_in {c = c} {r = r} {l3 = l3} {o = o} s t u =
          let x = page_in d n in
          let y = free_entry_bytes x (records_of x 0) in
          let m = record_holds (4 + 12 * count) in
          let ly = entries_length x (records_of x 0) in
          let s' : Ran b (one_write (n + 12) y) l2 c l3 = rw begun_page at s in
          let w = stored_then begun y (12 * count) (n + 12) s' (omega arith) refl (omega arith) in
          let z : 12 + 12 * count ≡ 8 + length (free_list x) = omega (arith, body_length) in
          let g : record_head long 3 ++ bytes_of 4 count ++ y ≡ record_head long 3 ++ free_list x =
          append_assoc (record_head long 3) (bytes_of 4 count) y ∙ ap (λ (v : ℕ). record_head long 3 ++ (bytes_of 4 v ++ y)) f in
          (record_in k d n flag 3 long (free_list x) (i ∙ ap record_length (sym body_length)) (n + 12 + 12 * count) (long - 4 - (12 + 12 * count))
          (rw (g, z) at w) (omega (arith, body_length)) (omega (arith, body_length)) t u h)
