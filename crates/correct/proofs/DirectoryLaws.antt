-- A tile directory of every tile as it is stored behind a page. Assumes nothing.
use Prim.Native.Nat.{ℕ, suc, ◌+◌, ◌*◌, ◌/◌, ◌%◌, ◌-◌, ◌≤◌, ◌<◌}
use mathlib.Core.Path.{◌≡◌, refl, sym, ap, ◌∙◌}
use mathlib.Core.List.{List, ◌++◌, append_assoc}
use mathlib.Core.Logic.{inl}
use native.Mathlib.Omega.{arith}
use native.Mathlib.Numerals.{add-one}
use lib.ListN.{length, length-append}
use Rattle.wire.specs.Bytes.{part, bytes_of, zeros}
use Rattle.wire.proofs.ByteLaws.{part_same, bytes_length}
use Rattle.wire.proofs.PutLaws.{put_same, bytes_mod}
use Rattle.bodies.specs.TileDirectory.{tile_reference}
use Rattle.written_records.specs.Pieces.{record_head, record_length, record_of}
use Rattle.written_records.specs.Directory.{directory_form, references_of}
use Rattle.written_records.proofs.PieceLaws.{head_length_lem, record_holds}
use Rattle.written_records.proofs.DirectoryLaws.{form_length, references_of_length}
use Rattle.stores.specs.Stores.{first_bytes, stopped}
use Rattle.stores.specs.Writes.{one_write, whole_write, seal_write}
use Rattle.stores.proofs.StoreLaws.{length_stopped}
use Rattle.stores.proofs.WriteLaws.{one_stopped}
use Rattle.stores.proofs.JoinLaws.{Ran, Stored, stored_none, stored_first, stored_then, stored_ran}
use Rattle.correct.specs.Front.{page_in}
use Rattle.correct.specs.Opening.{compact_of}
use Rattle.correct.proofs.RecordLaws.{record_in, record_out}

-- what is stored behind the page leaves it as it is

pub page_kept : (k n at : ℕ) (v d : List ℕ) {l : List ℕ} → l ≡ stopped k (one_write at v) d → n ≤ at → n ≤ length d → page_in l n ≡ page_in d n
unfolding page_in
page_kept k n at v d e h g =
    let x = first_bytes k v in
    let s = put_same d at x 0 n g (inl h) in
    ap (λ (y : List ℕ). part y 0 n) (e ∙ one_stopped k at v d) ∙ sym (part_same s 0 n (omega arith) (omega arith))

-- the references, one more at a time

pub compact_is : (s : List ℕ) (i r : ℕ) → r ≡ tile_reference s i → r / 8 % 4294967296 ≡ compact_of s i % 4294967296
unfolding compact_of
compact_is s i r e = rw e

pub record Referring (k : ℕ) (d : List ℕ) (n at i m : ℕ) (l : List ℕ) : Type 0 where
  pub page : page_in l n ≡ page_in d n
  pub stored : Stored k d at (references_of (compact_of (page_in d n)) i) (4 * i) m l

pub referring_none : (k : ℕ) (d : List ℕ) (n at : ℕ) → Referring k d n at 0 k d
unfolding references_of
referring_none k d n at = record { page = refl; stored = stored_none k d at }

pub referring_room : {k : ℕ} {d : List ℕ} {n at i m : ℕ} {l : List ℕ} → Referring k d n at i m l → length l ≡ length d
referring_room {k} {d} {n} {at} {i} w = ap length w.stored.holds ∙ length_stopped k (one_write at (references_of (compact_of (page_in d n)) i)) d

pub referring_more :
    {k : ℕ} {d : List ℕ} {n at i m : ℕ} {l : List ℕ} → Referring k d n at i m l → (v : ℕ) {s : List ℕ} {r : ℕ} {o : List ℕ} → s ≡ part l 0 n →
    v ≡ compact_of s i % 4294967296 → Ran m (one_write (at + 4 * i) (bytes_of 4 v)) l r o → n ≤ at → at + 4 * i + 4 ≤ length d →
    Referring k d n at (i + 1) r o
unfolding references_of page_in
referring_more {k} {d} {n} {at} {i} {m} {l} w v {s} e f q h g =
    let x = compact_of (page_in d n) i in
    let b : bytes_of 4 v ≡ bytes_of 4 x = ap (bytes_of 4) (f ∙ ap (λ (y : List ℕ). compact_of y i % 4294967296) (e ∙ w.page)) ∙ bytes_mod 4 x in
    let t = stored_then w.stored (bytes_of 4 v) 4 (at + 4 * i) q (bytes_length 4 v) refl (omega arith) in
    let u : 4 * i + 4 ≡ 4 * suc i = omega arith in
    record {
      page = page_kept m n (at + 4 * i) (bytes_of 4 v) l q.holds (omega arith) (omega (arith, referring_room w)) ∙ w.page;
      stored = rw (add-one i) (rw (u, b) at t);
    }

pub referring_all :
    {k : ℕ} {d : List ℕ} {n at i m j : ℕ} {l : List ℕ} → Referring k d n at i m l → i ≤ j → j ≤ i →
    Ran k (one_write at (references_of (compact_of (page_in d n)) j)) d m l
referring_all {i = i} {j = j} w h g = let q : i ≡ j = omega arith in rw (← q) (stored_ran w.stored)

-- the whole directory

module _
    (k : ℕ) (d : List ℕ) (n flag down across count long : ℕ) (i : long ≡ record_length (24 + 4 * count))
  where
    abbrev body : List ℕ
    body = directory_form down across ++ references_of (compact_of (page_in d n)) count

    body_length : length body ≡ 24 + 4 * count
    body_length =
        length-append (directory_form down across) (references_of (compact_of (page_in d n)) count)
        ∙ omega (arith, form_length down across, references_of_length (compact_of (page_in d n)) count)

    pub directory_out : length d < n + long → Ran k (whole_write (length d) n (record_of flag 5 body)) d k d
    directory_out j = record_out k d n flag 5 long body (i ∙ ap record_length (sym body_length)) j

    pub directory_in :
        {a b c j r : ℕ} {l1 l2 l3 l4 o : List ℕ} → Ran k (one_write n (record_head long 5)) d a l1 → Ran a (one_write (n + 8) (directory_form down across)) l1 b l2 →
        Ran b (one_write (n + 32) (references_of (compact_of (page_in l2 n)) count)) l2 c l3 →
        Ran c (one_write (n + 32 + 4 * count) (zeros (long - 4 - (32 + 4 * count)))) l3 j l4 → Ran j (seal_write flag n long l4) l4 r o → n + long ≤ length d →
        Ran k (whole_write (length d) n (record_of flag 5 body)) d r o
    directory_in {c = c} {r = r} {l2 = l2} {l3 = l3} {o = o} p q s t u x =
        let y = references_of (compact_of (page_in d n)) count in
        let m = record_holds (24 + 4 * count) in
        let ly = references_of_length (compact_of (page_in d n)) count in
        let w1 = stored_first p (head_length_lem long 5) in
        let w2 = stored_then w1 (directory_form down across) 24 (n + 8) q (form_length down across) refl (omega arith) in
        let same = page_kept k n n (record_head long 5 ++ directory_form down across) d w2.holds (omega arith) (omega arith) in
        let s' : Ran _ (one_write (n + 32) y) l2 c l3 = rw same at s in
        let w3 = stored_then w2 y (4 * count) (n + 32) s' ly (omega arith) (omega arith) in
        let z : 8 + 24 + 4 * count ≡ 8 + length body = omega (arith, body_length) in
        (record_in k d n flag 5 long body (i ∙ ap record_length (sym body_length)) (n + 32 + 4 * count) (long - 4 - (32 + 4 * count))
        (rw (append_assoc (record_head long 5) (directory_form down across) y, z) at w3) (omega (arith, body_length)) (omega (arith, body_length)) t u x)
