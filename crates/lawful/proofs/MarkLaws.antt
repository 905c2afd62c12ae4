-- Opening begins by setting a byte of the opened time that is not zero, closing ends by clearing it, and all else that they store, and all
-- that squeezing stores, reaches into nothing that stages 1 to 4 judge. Assumes nothing.
use Prim.Native.Nat.{ℕ, ◌+◌, ◌-◌, ◌≤◌, ◌<◌}
use native.Mathlib.Omega.{arith}
use mathlib.Core.Path.{◌≡◌, sym, ap, ◌∙◌}
use mathlib.Core.Logic.{inl, inr}
use mathlib.Core.List.{List, [], ◌++◌, append_assoc, append-nil}
use mathlib.Core.Bool.{Bool, true, false, not}
use lib.ListN.{length}
use Rattle.wire.specs.Pick.{pick}
use Rattle.wire.specs.Bytes.{part, bytes_of, zeros}
use Rattle.wire.proofs.ByteLaws.{part_length, bytes_length, zeros_length}
use Rattle.record.specs.Record.{content_at}
use Rattle.record.specs.Chain.{header_end, joined}
use Rattle.header.specs.Fields.{checksum_enabled, metadata_reference, tile_directory_reference}
use Rattle.page_check.specs.Accepted.{Sound}
use Rattle.page_check.proofs.GivenLaws.{sound_range}
use Rattle.record.specs.Chain.{records}
use Rattle.writable.specs.Writable.{directory_full}
use Rattle.stores.specs.Stores.{Write, Apart, run}
use Rattle.stores.specs.Writes.{one_write, whole_write, seal_write}
use Rattle.correct.specs.Opening.{unwanted, full_directory}
use Rattle.correct.specs.Closing.{file_space_record, any_free}
use Rattle.correct.specs.FieldWrites.{first_set, Lowest, set_writes, opened_field_writes, refer_to, closed_field_writes, seal_without, closed_front_writes}
use Rattle.correct.specs.Squeezing.{moved_to, squeezed_pieces}
use Rattle.correct.specs.Writes.{freeing_writes, directory_writes, open_body, open_writes, list_writes, close_writes, squeeze_body, squeeze_writes}
use Rattle.effects.proofs.LieLaws.{lie_whole}
use Rattle.effects.proofs.FreeingEffects.{freeing_lies}
use Rattle.lawful.specs.Marks.{Harmless, Begins, Ends}
use Rattle.lawful.proofs.HarmlessLaws.{harmless_none, harmless_append, harmless_behind, harmless_field, harmless_seal}

-- writes that begin with one at p and are harmless behind it

begins_one : (e p : ℕ) (first : List ℕ) → Begins e p first (one_write p first)
begins_one e p first = record { middle = []; whole = sym (append-nil (one_write p first)); harmless = harmless_none e p }

pub begins_append : {e p : ℕ} {first : List ℕ} {xs : List Write} (ys : List Write) → Begins e p first xs → Harmless e p ys → Begins e p first (xs ++ ys)
begins_append {e} {p} {first} {xs} ys b h =
    record {
      middle = b.middle ++ ys;
      whole = ap (λ (ws : List Write). ws ++ ys) b.whole ∙ append_assoc (one_write p first) b.middle ys;
      harmless = harmless_append b.harmless h;
    }

-- the parts of both

refer_harmless : {e p : ℕ} (at : ℕ) (there : Bool) (n : ℕ) → 40 ≤ at → at + 8 ≤ 88 → p < at → Harmless e p (refer_to at there n)
unfolding refer_to
refer_harmless {e} {p} at true n g h k = let l = bytes_length 8 (content_at n) in harmless_field at (bytes_of 8 (content_at n)) g (omega arith) (inr (omega arith))
refer_harmless {e} {p} at false n g h k = harmless_none e p

seal_harmless : {e p : ℕ} (flag : ℕ) (d : List ℕ) → 288 ≤ e → p < 88 → Harmless e p (seal_write flag 16 (e - 16) d)
unfolding seal_write
seal_harmless {e} {p} flag d h k = harmless_seal (16 + (e - 16 - 4)) _ (omega arith) (omega arith) k

module _ (s : List ℕ) (o : Sound s) (p : ℕ) (k : p < 88) where
  long : 288 ≤ header_end s
  long = let r = sound_range s (records s) o in omega (arith, r.header_least)

  behind_whole : (room : ℕ) (b : Bool) (v : List ℕ) → Harmless (header_end s) p (pick b (whole_write room (length s) v) [])
  behind_whole room b v = go b
    where
      go : (b : Bool) → Harmless (header_end s) p (pick b (whole_write room (length s) v) [])
      go true =
          let r = sound_range s (records s) o in
          let l = long in
          harmless_behind (lie_whole room (header_end s) (length s + length v) 1 (length s) v r.header_inside (omega arith) (omega arith)).apart (omega arith) k
      go false = harmless_none (header_end s) p

  freeing_harmless : (room : ℕ) (q : ℕ → Bool) → Harmless (header_end s) p (freeing_writes room s q)
  freeing_harmless room q = let l = long in harmless_behind (freeing_lies s room q o.chain).apart (omega arith) k

-- opening

module _ (d s : List ℕ) (o : Sound s) (t : ℕ) (l : Lowest (bytes_of 8 t)) where
  abbrev v : List ℕ
  v = bytes_of 8 t

  abbrev i : ℕ
  i = first_set v

  abbrev p : ℕ
  p = 48 + i

  i_small : i < 8
  i_small = omega (arith, l.inside, bytes_length 8 t)

  time_begins : Begins (header_end s) p (part v i 1) (opened_field_writes t)
  unfolding opened_field_writes set_writes
  time_begins =
      let h = i_small in
      let n = bytes_length 8 t in
      let a = part_length v 0 i (omega arith) in
      let b = part_length v (i + 1) (length v - (i + 1)) (omega arith) in
      let c = zeros_length 8 in
      begins_append _
      (begins_append _
      (begins_append _ (begins_one (header_end s) p (part v i 1)) (harmless_field 48 (part v 0 i) (omega arith) (omega arith) (inl (omega arith))))
      (harmless_field (48 + (i + 1)) (part v (i + 1) (length v - (i + 1))) (omega arith) (omega arith) (inr (omega arith))))
      (harmless_field 56 (zeros 8) (omega arith) (omega arith) (inr (omega arith)))

  directory_harmless : Harmless (header_end s) p (directory_writes (length d) s)
  unfolding directory_writes
  directory_harmless = go (directory_full s) (behind_whole s o p (omega (arith, i_small)) (length d) true (full_directory s))
    where
      go : (b : Bool) → Harmless (header_end s) p (whole_write (length d) (length s) (full_directory s)) → Harmless (header_end s) p (pick b [] (whole_write (length d) (length s) (full_directory s)))
      go true h = harmless_none (header_end s) p
      go false h = h

  body_begins : Begins (header_end s) p (part v i 1) (open_body (length d) s t)
  unfolding open_body
  body_begins =
      let h = i_small in
      begins_append _
      (begins_append _ (begins_append _ time_begins directory_harmless) (refer_harmless 80 (not (directory_full s)) (length s) (omega arith) (omega arith) (omega arith)))
      (freeing_harmless s o p (omega arith) (length d) (unwanted s s))

  pub opening_begins : Begins (header_end s) p (part v i 1) (open_writes d s t)
  unfolding open_writes
  opening_begins =
      let h = i_small in
      begins_append _ body_begins (seal_harmless (checksum_enabled s) (run (open_body (length d) s t) d) (long s o p (omega arith)) (omega arith))

-- closing; v are the bytes of the opened time

module _ (d s : List ℕ) (o : Sound s) (t : ℕ) (v : List ℕ) (l : Lowest v) (m : length v ≡ 8) where
  abbrev j : ℕ
  j = first_set v

  j_small : j < 8
  j_small = omega (arith, l.inside)

  fields_harmless : Harmless (header_end s) (48 + j) (closed_field_writes t (any_free s) (length s) j)
  unfolding closed_field_writes
  fields_harmless =
      let h = j_small in
      let a = bytes_length 8 t in
      let b = zeros_length j in
      let c = zeros_length (7 - j) in
      harmless_append
      (harmless_append
      (harmless_append (harmless_field 40 (bytes_of 8 t) (omega arith) (omega arith) (inl (omega arith))) (refer_harmless 56 (any_free s) (length s) (omega arith) (omega arith) (omega arith)))
      (harmless_field 48 (zeros j) (omega arith) (omega arith) (inl (omega arith))))
      (harmless_field (48 + (j + 1)) (zeros (7 - j)) (omega arith) (omega arith) (inr (omega arith)))

  list_harmless : Harmless (header_end s) (48 + j) (list_writes (length d) s)
  unfolding list_writes
  list_harmless = behind_whole s o (48 + j) (omega (arith, j_small)) (length d) (any_free s) (file_space_record s)

  -- all but the last write, which clears byte number j
  abbrev fields : List Write
  fields = closed_field_writes t (any_free s) (length s) j

  abbrev sealing : List Write
  sealing = seal_without (checksum_enabled s) (header_end s) (run fields (run (list_writes (length d) s) d))

  sealing_harmless : Harmless (header_end s) (48 + j) sealing
  unfolding seal_without
  sealing_harmless = seal_harmless (checksum_enabled s) _ (long s o (48 + j) (omega (arith, j_small))) (omega (arith, j_small))

  pub closing_ends : part s 48 8 ≡ v → Ends (header_end s) (48 + j) (close_writes d s t)
  unfolding close_writes closed_front_writes
  closing_ends e =
      record {
        before = list_writes (length d) s ++ (fields ++ sealing);
        whole = rw e (sym (append_assoc (list_writes (length d) s) (fields ++ sealing) (one_write (48 + j) (zeros 1))));
        harmless = harmless_append list_harmless (harmless_append fields_harmless sealing_harmless);
      }

-- squeezing: records behind the header, and its two references

one_apart : (at : ℕ) (v : List ℕ) {e : ℕ} → e ≤ at → Apart 0 e (one_write at v)
unfolding one_write
one_apart at v h = (inr h, _)

pub squeezing_harmless : (d s : List ℕ) → Sound s → (ps : List ℕ) (p : ℕ) → p ≤ 56 → Harmless (header_end s) p (squeeze_writes d s ps)
unfolding squeeze_writes squeeze_body
squeezing_harmless d s o ps p h =
    let l = long s o p (omega arith) in
    let e = header_end s in
    let J = joined (squeezed_pieces s ps) in
    let A = bytes_of 8 (moved_to s ps (metadata_reference s)) in
    let B = bytes_of 8 (moved_to s ps (tile_directory_reference s)) in
    let x = bytes_length 8 (moved_to s ps (metadata_reference s)) in
    let y = bytes_length 8 (moved_to s ps (tile_directory_reference s)) in
    let a : Harmless e p (one_write e J) = harmless_behind (one_apart e J {e = e} (omega arith)) (omega arith) (omega arith) in
    let b : Harmless e p (one_write 64 A) = harmless_field 64 A (omega arith) (omega arith) (inr (omega arith)) in
    let c : Harmless e p (one_write 80 B) = harmless_field 80 B (omega arith) (omega arith) (inr (omega arith)) in
    harmless_append {xs = one_write e J ++ one_write 64 A ++ one_write 80 B}
    (harmless_append {xs = one_write e J ++ one_write 64 A} (harmless_append {xs = one_write e J} a b) c)
    (seal_harmless (checksum_enabled s) (run (one_write e J ++ one_write 64 A ++ one_write 80 B) d) (omega arith) (omega arith))
