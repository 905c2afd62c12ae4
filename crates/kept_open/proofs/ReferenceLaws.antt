-- A reference set in the tile directory of a page: its form stays, and so do the other references. Assumes nothing.
use Prim.Native.Nat.{ℕ, ◌+◌, ◌*◌, ◌-◌, ◌/◌, ◌%◌, ◌^◌, ◌≤◌, ◌<◌}
use mathlib.Core.Path.{◌≡◌, sym, ap, ◌∙◌}
use mathlib.Core.List.{List}
use mathlib.Core.Logic.{◌⊎◌, inl, inr, by_cases}
use mathlib.Core.Bool.{Bool, true, false}
use native.Mathlib.Decide.{dec_le}
use native.Mathlib.Omega.{arith}
use lib.ListN.{length}
use lib.Dec.{eqb}
use borrow.Author.Tests.{eq-eqb}
use Rattle.wire.specs.Pick.{pick}
use Rattle.wire.specs.Bytes.{Same, number_at, put}
use Rattle.wire.proofs.ByteLaws.{same_trans, number_same, byte_same, bytes_length}
use Rattle.wire.proofs.PutLaws.{length_put, put_same, put_number}
use Rattle.wire.proofs.PlaceLaws.{Placed, placed_inside, placed_number, placed_byte}
use Rattle.record.specs.Record.{length_at, type_at}
use Rattle.header.specs.Fields.{checksum_enabled}
use Rattle.geometry.specs.Tiles.{tile_count}
use Rattle.bodies.specs.TileDirectory.{tile_directory_at, standard_references, reference_size}
use Rattle.check_directory.specs.TileRules.{tile_directory_right}
use Rattle.written_records.specs.Pieces.{sealed}
use Rattle.written_records.proofs.SealLaws.{sealed_same}
use Rattle.pieces.specs.Edits.{resealed, referring, reference_bytes, with_reference}
use Rattle.writable.specs.Writable.{directory_full}
use Rattle.page_laws.proofs.FormLaws.{SameForm, reference_stays, reference_set, reference_first, reference_second, reference_room}
use Rattle.kept_open.proofs.EntryLaws.{Referred}

-- one that is set stands apart from the others

size_small : (s : List ℕ) (content : ℕ) → content < 4294967296 → pick (eqb (reference_size s) 8) content (content / 8) < 256 ^ reference_size s
unfolding reference_size
size_small s content h = go (eqb (standard_references s (tile_directory_at s)) 1)
  where
    go : (b : Bool) → pick (eqb (pick b 8 4) 8) content (content / 8) < 256 ^ pick b 8 4
    go true = omega arith
    go false = omega arith

apart : (s : List ℕ) (i j : ℕ) → (j ≡ i → ⊥) → (32 + reference_size s * j + reference_size s ≤ 32 + reference_size s * i) ⊎ (32 + reference_size s * i + reference_size s ≤ 32 + reference_size s * j)
unfolding reference_size
apart s i j z = go (eqb (standard_references s (tile_directory_at s)) 1)
  where
    go :
        (b : Bool) →
        (32 + pick b 8 4 * j + pick b 8 4 ≤ 32 + pick b 8 4 * i) ⊎ (32 + pick b 8 4 * i + pick b 8 4 ≤ 32 + pick b 8 4 * j)
    go true = by_cases (dec_le (j + 1) i) (λ h. inl (omega arith)) (λ h. inr (omega (arith, z)))
    go false = by_cases (dec_le (j + 1) i) (λ h. inl (omega arith)) (λ h. inr (omega (arith, z)))

-- the directory r, at d, with reference number i set to a content's position
module _
    (s t r : List ℕ) (d i content : ℕ) (p : Placed s d r) (q : Placed t d (with_reference s i content r)) (k : type_at r 0 ≡ 5) (least : 36 ≤ length r)
  where
    abbrev at : ℕ
    at = 32 + reference_size s * i

    abbrev w : List ℕ
    w = reference_bytes (reference_size s) content

    w_long : length w ≡ reference_size s
    unfolding reference_bytes
    w_long = bytes_length (reference_size s) _

    changed : with_reference s i content r ≡ resealed (checksum_enabled s) (put r at w)
    unfolding with_reference referring
    changed = rw (eq-eqb (type_at r 0) 5 k)

    put_long : length (put r at w) ≡ length r
    put_long = length_put r at w

    pub set_long : length (with_reference s i content r) ≡ length r
    unfolding resealed sealed
    set_long = ap length changed ∙ length_put (put r at w) _ _ ∙ put_long

    set_same : (a b : ℕ) → b + 4 ≤ length r → Same (put r at w) (with_reference s i content r) a b
    unfolding resealed
    set_same a b h =
        rw changed
        (sealed_same (checksum_enabled s) (put r at w) 0 (length (put r at w)) (omega (arith, put_long)) (omega (arith, put_long)) a b (omega (arith, put_long)))

    -- bytes but for the reference
    kept_same : (a b : ℕ) → b + 4 ≤ length r → (b ≤ at) ⊎ (at + reference_size s ≤ a) → Same r (with_reference s i content r) a b
    kept_same a b h o = same_trans (put_same r at w a b (omega arith) (rw w_long o)) (set_same a b h)

    pub head_kept : Same s t d (d + 32)
    head_kept =
        record {
          in_first = omega (arith, placed_inside p);
          in_second = omega (arith, placed_inside q, set_long);
          each = λ x a b.
              let e : d + (x - d) ≡ x = omega arith in
              rw e at
              (placed_byte p (x - d) (omega arith)
              ∙ byte_same (kept_same 0 32 (omega arith) (inl (omega arith))) (x - d) (omega arith) (omega arith)
              ∙ sym (placed_byte q (x - d) (omega (arith, set_long))));
        }

    number_kept :
        (j : ℕ) → (j ≡ i → ⊥) → 32 + reference_size s * j + reference_size s + 4 ≤ length r →
        number_at (reference_size s) s (d + (32 + reference_size s * j)) ≡ number_at (reference_size s) t (d + (32 + reference_size s * j))
    number_kept j z h =
        let b = 32 + reference_size s * j in
        placed_number p (reference_size s) b (omega arith)
        ∙ number_same (kept_same b (b + reference_size s) (omega arith) (apart s i j z)) (reference_size s) b (omega arith) (omega arith)
        ∙ sym (placed_number q (reference_size s) b (omega (arith, set_long)))

    number_set :
        content < 4294967296 → 32 + reference_size s * i + reference_size s + 4 ≤ length r →
        number_at (reference_size s) t (d + at) ≡ pick (eqb (reference_size s) 8) content (content / 8)
    unfolding reference_bytes
    number_set h m =
        placed_number q (reference_size s) at (omega (arith, set_long))
        ∙ sym (number_same (set_same at (at + reference_size s) (omega arith)) (reference_size s) at (omega arith) (omega arith))
        ∙ put_number (reference_size s) (pick (eqb (reference_size s) 8) content (content / 8)) r at (omega arith) (size_small s content h)

    -- what a full directory gives then
    module _ (form : SameForm s t d) (right : tile_directory_right s ≡ true) (full : directory_full s ≡ true) (long : length_at s d ≡ length r) where
      pub reference_after : i < tile_count s → content < 4294967296 → content % 8 ≡ 0 → Referred s t i content
      reference_after h small eights =
          record {
            own = reference_second form right full i h ∙ reference_set form i content (number_set small (rw long at (reference_room form right full i h))) eights;
            others =
                λ j l z.
                reference_second form right full j l
                ∙ sym (reference_stays form j (number_kept j z (rw long at (reference_room form right full j l))))
                ∙ sym (reference_first form right full j l);
          }
