-- One record of a page changed where it stands: a reference of the tile directory, the cell bytes of a plain tile. Assumes nothing.
use Rattle.std.specs.Prelude.{Some}
use Prim.Native.Nat.{ℕ, zero, suc, ◌+◌, ◌*◌, ◌/◌, ◌-◌, ◌≤◌, ◌<◌}
use mathlib.Core.Path.{◌≡◌, sym, ap, ◌∙◌}
use mathlib.Core.List.{List, [], ◌∷◌, ◌++◌, map, Memᴰ}
use mathlib.Core.Bool.{Bool, true, false}
use native.Mathlib.Omega.{arith}
use lib.ListN.{length, length-append}
use lib.Seq.{drop_at}
use lib.Dec.{eqb}
use borrow.Author.Tests.{eqb-true}
use Rattle.wire.specs.Pick.{pick}
use Rattle.wire.specs.Tests.{sum_below}
use Rattle.wire.specs.Bytes.{part, bytes_of, put}
use Rattle.wire.proofs.TestLaws.{means, below_each, sum_same, sum_more}
use Rattle.wire.proofs.ByteLaws.{bytes_length, part_length}
use Rattle.wire.proofs.PutLaws.{length_put}
use Rattle.wire.proofs.PlaceLaws.{placed_self}
use Rattle.record.specs.Record.{length_at, type_at, record_ok, record_limit}
use Rattle.record.specs.Chain.{header_end, records, records_of, find, first_record, joined}
use Rattle.record.proofs.ChainLaws.{IsRecord, ok_means, whole_extent}
use Rattle.record.proofs.FindLaws.{type_of}
use Rattle.header.specs.Fields.{checksum_enabled, element_count}
use Rattle.header.specs.Element.{entries_read}
use Rattle.geometry.specs.Sizes.{stored_size, element_bytes, tile_bytes}
use Rattle.bodies.specs.TileRecord.{tile_index, section_at, section_length, element_content_at}
use Rattle.bodies.specs.TileDirectory.{reference_size}
use Rattle.bodies.proofs.SectionLaws.{section_mono, sections_sum, limit_inside}
use Rattle.check_header.specs.Passed.{InRange}
use Rattle.check_records.specs.TileBody.{tile_right}
use Rattle.check_records.proofs.SectionLaws.{sections_end}
use Rattle.metadata_keys.proofs.KeyLaws.{find_at}
use Rattle.page_check.specs.Accepted.{Sound}
use Rattle.page_check.proofs.GivenLaws.{sound_range, sound_tile, sound_one}
use Rattle.tile_routes.specs.Ways.{carries, walked_to}
use Rattle.written_records.specs.Pieces.{checksum_for, sealed}
use Rattle.written_records.proofs.TileLaws.{element_within}
use Rattle.stores.specs.Stores.{Write, run}
use Rattle.stores.specs.Writes.{seal_write}
use Rattle.pieces.specs.Pieces.{piece_at, pieces}
use Rattle.pieces.specs.Edits.{resealed, referring, reference_bytes, with_reference}
use Rattle.pieces.specs.Standing.{standing}
use Rattle.pieces.proofs.SplitLaws.{piece_placed, piece_ok, piece_length, piece_long}
use Rattle.alone.specs.Alone.{SameRecord}
use Rattle.alone.proofs.PieceLaws.{placed_same}
use Rattle.alone.proofs.TileLaws.{tile_alone}
use Rattle.correct.specs.Storing.{tile_at, is_plain, cells_put, overwritten}
use Rattle.correct.specs.RecordWrites.{cell_writes, over_writes, reference_write, refer_writes}
use Rattle.page_laws.proofs.TileMapLaws.{carries_same}
use Rattle.effects.proofs.MadeLaws.{MadeBehind}
use Rattle.effects.proofs.LieLaws.{Lie, lie_none, lie_one, lie_whole, lie_append, lie_more}
use Rattle.effects.proofs.InsideEffects.{refer_run, cells_long, over_run}
use Rattle.effects.proofs.OnlyLaws.{Only, only_placed, only_put, standing_only, found_only}

resealed_long : (flag : ℕ) (r : List ℕ) → length (resealed flag r) ≡ length r
unfolding resealed sealed
resealed_long flag r = length_put r (0 + (length r - 4)) _

seal_lies : (a flag x n m : ℕ) (d : List ℕ) → a ≤ x → 4 ≤ n → x + n ≤ m → Lie a m 1 (seal_write flag x n d)
unfolding seal_write
seal_lies a flag x n m d i h l =
    let b = bytes_length 4 (checksum_for flag (part d x (n - 4))) in
    lie_one a m 1 (x + (n - 4)) (bytes_of 4 (checksum_for flag (part d x (n - 4)))) (omega arith) (omega arith) (omega arith)

-- writes that make another of the only piece of which q holds
only_made :
    {q : List ℕ → Bool} (f z : List ℕ) {rs : List (List ℕ)} {x : ℕ} {r : List ℕ} → Only q (length f) rs x r →
    (g : List ℕ → List ℕ) → ((p : List ℕ) → q p ≡ false → g p ≡ p) → length (g r) ≡ length r →
    {ws : List Write} {a m k : ℕ} → run ws (f ++ joined rs ++ z) ≡ put (f ++ joined rs ++ z) x (g r) → m ≡ length (f ++ joined rs) → Lie a m k ws →
    MadeBehind a (f ++ joined rs ++ z) ws (f ++ joined (map g rs)) m k
only_made {q} f z {rs} o g same l {m = m} e n y =
    let w = e ∙ only_put q f z o g same l ∙ ap (λ (a : List ℕ). f ++ joined (map g rs) ++ a) (sym (drop_at (f ++ joined rs) z m (sym n))) in
    record { made = record { holds = w; inside = omega (arith, length-append (f ++ joined rs) z); fits = y.fits; few = y.few }; apart = y.apart }

-- the tile directory, the one piece of its type
module _ (s : List ℕ) (i content : ℕ) where
  refer_lies :
      (a x n m : ℕ) (d : List ℕ) → a ≤ x → 32 + reference_size s * i + reference_size s ≤ n → x + n ≤ m →
      Lie a m 2 (refer_writes (checksum_enabled s) x n (reference_size s) i content d)
  unfolding refer_writes reference_write reference_bytes
  refer_lies a x n m d j h l =
      let w = reference_size s in
      let b = bytes_length w (pick (eqb w 8) content (content / 8)) in
      lie_append (lie_whole (length d) a m 1 (x + (32 + w * i)) (reference_bytes w content) (omega arith) (omega arith) (omega arith))
      (seal_lies a (checksum_enabled s) x n m (run (reference_write (length d) x w i content) d) j (omega arith) l)

  others_stay : (p : List ℕ) → eqb (type_at p 0) 5 ≡ false → with_reference s i content p ≡ p
  unfolding with_reference referring
  others_stay p e = rw e

  changed : (r : List ℕ) → eqb (type_at r 0) 5 ≡ true → with_reference s i content r ≡ resealed (checksum_enabled s) (put r (32 + reference_size s * i) (reference_bytes (reference_size s) content))
  unfolding with_reference referring
  changed r e = rw e

  pub refer_made :
      (a : ℕ) (f z : List ℕ) (qs : List (List ℕ)) {x : ℕ} {r : List ℕ} → a ≤ x → standing 5 (length f) qs ≡ (x, r) ∷ [] → (n m : ℕ) → n ≡ length r →
      32 + reference_size s * i + reference_size s ≤ n → x + n ≤ m → m ≡ length (f ++ joined qs) →
      MadeBehind a (f ++ joined qs ++ z) (refer_writes (checksum_enabled s) x n (reference_size s) i content (f ++ joined qs ++ z))
      (f ++ joined (map (with_reference s i content) qs)) m 2
  unfolding reference_bytes
  refer_made a f z qs {x} {r} y e n m l h k j =
      let d = f ++ joined qs ++ z in
      let flag = checksum_enabled s in
      let w = reference_size s in
      let v = reference_bytes w content in
      let o : Only (λ p. eqb (type_at p 0) 5) (length f) qs x r = standing_only 5 (length f) qs e in
      let c = changed r o.holds in
      let b : length (with_reference s i content r) ≡ length r = ap length c ∙ resealed_long flag (put r (32 + w * i) v) ∙ length_put r (32 + w * i) v in
      only_made f z o (with_reference s i content) others_stay b
      (refer_run (only_placed (λ p. eqb (type_at p 0) 5) f z o) flag w i content n l (bytes_length w _) (omega arith) ∙ ap (put d x) (sym c))
      j (refer_lies a x n m d y h k)

-- a tile of a sound page
module _ (s : List ℕ) (o : Sound s) (i : ℕ) where
  record_ok_lem : {x : ℕ} → Memᴰ x (records s) → record_ok s x ≡ true
  record_ok_lem m = (whole_extent s (header_end s) (records s) o.chain m).ok

  same_piece : {x : ℕ} → record_ok s x ≡ true → SameRecord s x (piece_at s x) 0
  same_piece {x} k = placed_same (piece_placed s x k) (placed_self (piece_at s x)) (piece_ok s x k) (piece_length s x k ∙ sym (piece_long s x k))

  -- its index is asked of the record alone
  pub carried : (x : ℕ) → Memᴰ x (records s) → carries s i x ≡ carries (piece_at s x) i 0
  carried x m = carries_same (same_piece (record_ok_lem m)) i

  carrying : {x : ℕ} → Memᴰ x (records s) → carries s i x ≡ true → Memᴰ x (records_of s 2) × (tile_index s x ≡ i)
  unfolding carries
  carrying m e = let h = means _ e in (type_of s 2 m h.0, h.1.0)

  -- stored over: the cell bytes of its plain record, x, and the checksum
  module _ {x : ℕ} (e : tile_at s i ≡ Some x) where
    found : find (carries s i) (records s) ≡ Some x
    unfolding tile_at walked_to first_record records
    found = e

    here : Memᴰ x (records s) × (carries s i x ≡ true)
    here = find_at (carries s i) (records s) x found

    only : Only (λ r. carries r i 0) (header_end s) (pieces s) x (piece_at s x)
    unfolding pieces
    only =
        found_only s (carries s i) (λ r. carries r i 0) (header_end s) (records s) o.chain carried found
        (λ y m k.
        let a = carrying m k in
        let b = carrying here.0 here.1 in
        (sound_one s (records s) o).one_record a.0 b.0 (a.1 ∙ sym b.1))

    is : IsRecord s x
    is = ok_means s x (record_ok_lem here.0)

    pub tile_inside : x + length_at s x ≤ length s
    tile_inside = is.inside

    behind : header_end s ≤ x
    behind = (whole_extent s (header_end s) (records s) o.chain here.0).behind

    long : length (piece_at s x) ≡ length_at s x
    long = piece_long s x (record_ok_lem here.0)

    right : tile_right s x ≡ true
    right = sound_tile s o (carrying here.0 here.1).0

    range : InRange s (length s)
    range = sound_range s (records s) o

    module _ (plain : is_plain s x ≡ true) (c : List ℕ) (whole : length c ≡ tile_bytes s) where
      stored : (e : ℕ) → e < element_count s → section_length s x e ≡ element_bytes s e
      unfolding is_plain
      stored e h = eqb-true _ _ (below_each (element_count s) (λ e. eqb (section_length s x e) (element_bytes s e)) plain e h)

      abbrev before : ℕ → ℕ
      before e = sum_below e (λ j. stored_size (element_bytes s j))

      section_is : (e : ℕ) → e ≤ element_count s → (section_at s x e ≡ x + 12 + before e) × (section_at s x e ≤ x + length_at s x)
      section_is e h =
          let a = section_mono s x e (element_count s) h in
          let b = sections_end s x right in
          let l : section_at s x e ≤ record_limit s x = omega arith in
          let d = sum_same e (λ j. stored_size (section_length s x j)) (λ j. stored_size (element_bytes s j)) (λ j k. ap stored_size (stored j (omega arith))) in
          (sections_sum s x e l ∙ ap (λ (n : ℕ). x + 12 + n) d, omega (arith, limit_inside s x))

      size_holds : (n : ℕ) → 4 + n ≤ stored_size n
      unfolding stored_size
      size_holds n = omega arith

      cell_long : (e : ℕ) → e < element_count s → length (part c (sum_below e (element_bytes s)) (element_bytes s e)) ≡ element_bytes s e
      cell_long e h = part_length c _ _ (omega (arith, element_within s range.all e h))

      places :
          (e : ℕ) → e < element_count s →
          (element_content_at (piece_at s x) 0 e ≡ 16 + before e)
          × (element_content_at (piece_at s x) 0 e + length (part c (sum_below e (element_bytes s)) (element_bytes s e)) ≤ length (piece_at s x))
      unfolding element_content_at
      places e h =
          let t = (tile_alone s x (piece_at s x) 0 (same_piece (record_ok_lem here.0)) right).places e in
          let a = section_is e (omega arith) in
          let b = section_is (e + 1) (omega arith) in
          let n = sum_more e (λ j. stored_size (element_bytes s j)) in
          let k = size_holds (element_bytes s e) in
          let l = cell_long e h in
          let m = long in
          let p : element_content_at (piece_at s x) 0 e ≡ 16 + before e = omega (arith, t, a.0) in
          (p, omega (arith, p, b.0, b.1))

      cells_lie : (n m : ℕ) → n ≤ element_count s → x + length_at s x ≤ m → Lie (header_end s) m n (cell_writes x (element_bytes s) c n)
      unfolding cell_writes
      cells_lie zero m h l = lie_none (header_end s) m 0
      cells_lie (suc e) m h l =
          let a = places e (omega arith) in
          let v = part c (sum_below e (element_bytes s)) (element_bytes s e) in
          let n = long in
          lie_more (lie_append (cells_lie e m (omega arith) l) (lie_one (header_end s) m 1 (x + 16 + before e) v (omega (arith, behind)) (omega (arith, a.0, a.1)) (omega arith))) m
          (suc e) (omega arith) (omega arith)

      over_lies : (n m : ℕ) (d : List ℕ) → n ≤ element_count s → x + length_at s x ≤ m → Lie (header_end s) m (n + 1) (over_writes (checksum_enabled s) x (length_at s x) (element_bytes s) n c d)
      unfolding over_writes
      over_lies n m d h l =
          lie_append (cells_lie n m h l)
          (seal_lies (header_end s) (checksum_enabled s) x (length_at s x) m (run (cell_writes x (element_bytes s) c n) d) behind (omega (arith, is.long)) l)

      others_same : (p : List ℕ) → carries p i 0 ≡ false → overwritten s i c p ≡ p
      unfolding overwritten
      others_same p k = rw k

      new : overwritten s i c (piece_at s x) ≡ resealed (checksum_enabled s) (cells_put s c (element_count s) (piece_at s x))
      unfolding overwritten
      new = rw only.holds

      over_split :
          (f z : List ℕ) (m : ℕ) → length f ≡ header_end s → m ≡ length (f ++ joined (pieces s)) → x + length_at s x ≤ m →
          MadeBehind (header_end s) (f ++ joined (pieces s) ++ z)
          (over_writes (checksum_enabled s) x (length_at s x) (element_bytes s) (entries_read s) c (f ++ joined (pieces s) ++ z))
          (f ++ joined (map (overwritten s i c) (pieces s))) m 17
      over_split f z m l j h =
          let d = f ++ joined (pieces s) ++ z in
          let flag = checksum_enabled s in
          let n = element_count s in
          let r = piece_at s x in
          let all : entries_read s ≡ n = range.all in
          let a : Only (λ r. carries r i 0) (length f) (pieces s) x r = rw l only in
          let p = only_placed (λ r. carries r i 0) f z a in
          let u = range.elements.1 in
          let b : length (overwritten s i c r) ≡ length r = ap length new ∙ resealed_long flag (cells_put s c n r) ∙ cells_long p s c n in
          rw all
          (only_made f z a (overwritten s i c) others_same b
          (over_run p s c flag (length_at s x) n (sym long) (omega (arith, is.long, long)) places ∙ ap (put d x) (sym new)) j
          (lie_more (over_lies n m d (omega arith) h) m 17 (omega arith) (omega arith)))

      pub over_made :
          (d f z : List ℕ) (m : ℕ) → d ≡ f ++ joined (pieces s) ++ z → length f ≡ header_end s → m ≡ length (f ++ joined (pieces s)) → x + length_at s x ≤ m →
          MadeBehind (header_end s) d (over_writes (checksum_enabled s) x (length_at s x) (element_bytes s) (entries_read s) c d) (f ++ joined (map (overwritten s i c) (pieces s))) m 17
      over_made d f z m k l j h = rw k (over_split f z m l j h)
