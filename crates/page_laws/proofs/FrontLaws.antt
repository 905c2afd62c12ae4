-- A front with fields set that nothing judges, and its checksum made anew: it is a front that says the same, and its checksum is right.
-- Assumes nothing.
use Prim.Native.Nat.{ℕ, ◌+◌, ◌-◌, ◌^◌, ◌≤◌, ◌<◌}
use mathlib.Core.Path.{◌≡◌, refl, sym, ap, ◌∙◌}
use mathlib.Core.List.{List, [], ◌++◌}
use mathlib.Core.Logic.{◌⊎◌, ⊎_elim, inl, inr}
use mathlib.Core.Bool.{true}
use native.Mathlib.Omega.{arith}
use lib.ListN.{length}
use Rattle.wire.specs.Bytes.{Bytes, part, bytes_of, number_at, Same, zeros, put}
use Rattle.wire.proofs.TestLaws.{means}
use Rattle.wire.proofs.ByteLaws.{number_before, same_sym, same_trans, same_part, same_append, number_same, byte_same, part_length, bytes_part, zeros_of}
use Rattle.wire.proofs.PutLaws.{length_put, put_same, put_number}
use Rattle.wire.proofs.PlaceLaws.{Placed, placed_before}
use Rattle.record.specs.Record.{length_at, type_at}
use Rattle.record.specs.Chain.{header_end, joined}
use Rattle.header.specs.Fields.{checksum_enabled}
use Rattle.check_header.specs.HeaderRecord.{frame_right, header_right}
use Rattle.check_header.specs.Judged.{SameJudged}
use Rattle.check_header.proofs.Judged.{end_same, header_to, option}
use Rattle.check_records.specs.Checksum.{checksum_right}
use Rattle.check_records.proofs.RecordLaws.{checksum_placed}
use Rattle.written_records.specs.Pieces.{checksum_for, sealed}
use Rattle.written_records.proofs.SealLaws.{sealed_same, sealed_placed}
use Rattle.alone.specs.Alone.{SameHeader, Front}
use Rattle.alone.proofs.HeaderLaws.{judged_header, front_long}
use Rattle.writable.specs.Parts.{Parted}
use Rattle.correct.specs.Front.{sealed_front}
use Rattle.page_laws.specs.Tiles.{SameUnset}

pub judged_trans : {s t u : List ℕ} → SameJudged s t → SameJudged t u → SameJudged s u
judged_trans {s} {t} {u} j k =
    let e = end_same j.frame in
    record {
      block = same_trans j.block k.block;
      frame = same_trans j.frame k.frame;
      sides = same_trans j.sides k.sides;
      options = same_trans j.options k.options;
      rest = same_trans j.rest (rw e k.rest);
      in_first = j.in_first;
      in_second = omega (arith, k.in_second);
    }

-- the header's bytes that no call sets

pub judged_kept : {s t : List ℕ} → Same s t 0 40 → Same s t 88 (header_end s - 4) → 288 ≤ header_end s → header_end s ≤ length s → header_end s ≤ length t → SameJudged s t
judged_kept low high l h k =
    record {
      block = same_part low 0 14 (omega arith) (omega arith);
      frame = same_part low 16 21 (omega arith) (omega arith);
      sides = same_part high 104 120 (omega arith) (omega arith);
      options = same_part high 128 131 (omega arith) (omega arith);
      rest = same_part high 280 _ (omega arith) (omega arith);
      in_first = h;
      in_second = k;
    }

pub judged_then : {s d e : List ℕ} → SameJudged s d → 288 ≤ header_end s → Same d e 0 40 → Same d e 88 (header_end s - 4) → header_end s ≤ length e → SameJudged s e
judged_then j l low high h = let z = end_same j.frame in judged_trans j (judged_kept low (rw (← z) high) (omega arith) (omega (arith, j.in_second)) (omega arith))

unset_end : {s t : List ℕ} → SameUnset s t → header_end s ≡ header_end t
unset_end k = end_same (same_part k.low 16 21 (omega arith) (omega arith))

pub unset_trans : {s t u : List ℕ} → SameUnset s t → SameUnset t u → SameUnset s u
unset_trans {s} {t} {u} j k =
    let e = unset_end j in
    record {
      low = same_trans j.low k.low;
      between = same_trans j.between k.between;
      high = same_trans j.high (rw e k.high);
      whole = omega (arith, k.whole);
    }

-- a header that is the same whole
pub same_unset : {s t : List ℕ} → Same s t 0 (header_end s) → 288 ≤ header_end s → SameUnset s t
same_unset k l =
    record {
      low = same_part k 0 40 (omega arith) (omega arith);
      between = same_part k 72 80 (omega arith) (omega arith);
      high = same_part k 88 _ (omega arith) (omega arith);
      whole = k.in_second;
    }

-- a front, with whatever stands behind it
pub front_unset : {f : List ℕ} → Front f → (b : List ℕ) → SameUnset f (f ++ b)
front_unset {f} w b =
    let l = front_long w [] in
    let z = w.whole in
    same_unset (same_append f b 0 (header_end f) (omega arith)) (omega arith)

-- a page, by its front
pub parted_unset : {s f : List ℕ} {rs : List (List ℕ)} → Parted s f rs → SameUnset s f
parted_unset {s} {f} {rs} p =
    let l = front_long p.front [] in
    let e = p.ends in
    let k : Same (f ++ joined rs) f 0 (header_end s) = same_sym (same_append f (joined rs) 0 (header_end s) (omega arith)) in
    same_unset (rw (← p.whole) at k) (omega arith)

pub parted_number : {s f : List ℕ} {rs : List (List ℕ)} → Parted s f rs → (w at : ℕ) → at + w ≤ 288 → number_at w f at ≡ number_at w s at
parted_number {s} {f} {rs} p w at h =
    let l = front_long p.front [] in
    sym (number_before w f (joined rs) at (omega arith)) ∙ ap (λ (l : List ℕ). number_at w l at) (sym p.whole)

-- g is f but for bytes from 40 up to m and from 80 up to 88: times and references
pub record FieldsSet (m : ℕ) (f g : List ℕ) : Type 0 where
  pub most : m ≤ 72
  pub long : length g ≡ length f
  pub below : Same f g 0 40
  pub between : Same f g m 80
  pub above : Same f g 88 (length f)

pub set_none : {m : ℕ} (f : List ℕ) → 88 ≤ length f → m ≤ 72 → FieldsSet m f f
set_none f h l =
    record {
      most = l;
      long = refl;
      below = record { in_first = omega arith; in_second = omega arith; each = λ i l m. refl };
      between = record { in_first = omega arith; in_second = omega arith; each = λ i l m. refl };
      above = record { in_first = omega arith; in_second = omega arith; each = λ i l m. refl };
    }

-- one field more
pub set_field :
    {m : ℕ} {f g : List ℕ} → FieldsSet m f g → (at : ℕ) (v : List ℕ) {n : ℕ} → length v ≡ n → 40 ≤ at → at + n ≤ 88 → (at + n ≤ m) ⊎ (80 ≤ at) →
    FieldsSet m f (put g at v)
set_field {m} {f} {g} k at v e h l o =
    record {
      most = k.most;
      long = length_put g at v ∙ k.long;
      below = same_trans k.below (put_same g at v 0 40 k.below.in_second (inl h));
      between = same_trans k.between (put_same g at v m 80 k.between.in_second (⊎_elim (λ p. inr (omega arith)) (λ p. inl p) o));
      above = same_trans k.above (put_same g at v 88 (length f) k.above.in_second (inr (omega arith)));
    }

-- a field of zeros reads as 0
pub put_zeros : (w : ℕ) (d : List ℕ) (at : ℕ) → at + w ≤ length d → 0 < 256 ^ w → number_at w (put d at (zeros w)) at ≡ 0
put_zeros w d at h k = rw (zeros_of w) (put_number w 0 d at h k)

module _ {m : ℕ} (s f g : List ℕ) (w : Front f) (e : header_end s ≡ length f) (k : FieldsSet m f g) where
  least : 288 ≤ length f
  least = front_long w []

  pub seal_length : length (sealed_front s g) ≡ length f
  unfolding sealed_front sealed
  seal_length = length_put _ _ _ ∙ k.long

  -- the checksum alone is made anew
  seal_same : (a b : ℕ) → b + 4 ≤ length f → Same g (sealed_front s g) a b
  unfolding sealed_front
  seal_same a b h =
      let l = least in
      sealed_same (checksum_enabled s) g 16 (header_end s - 16) (omega arith) (omega (arith, k.long)) a b (omega arith)

  -- so fields read as they were set
  pub seal_number : (n at : ℕ) → at + n + 4 ≤ length f → number_at n (sealed_front s g) at ≡ number_at n g at
  seal_number n at h = sym (number_same (seal_same at (at + n) h) n at (omega arith) (omega arith))

  pub seal_between : Same f (sealed_front s g) m 80
  seal_between = let l = least in same_trans k.between (seal_same m 80 (omega arith))

  pub seal_unset : SameUnset f (sealed_front s g)
  seal_unset =
      let l = least in
      let z = w.whole in
      record {
        low = same_trans k.below (seal_same 0 40 (omega arith));
        between = same_part seal_between 72 80 k.most (omega arith);
        high = same_trans (same_part k.above 88 (header_end f - 4) (omega arith) (omega arith)) (seal_same 88 (header_end f - 4) (omega arith));
        whole = omega (arith, seal_length);
      }

  pub seal_judged : SameJudged f (sealed_front s g)
  seal_judged = let l = least in let z = w.whole in let u = seal_unset in judged_kept u.low u.high (omega arith) (omega arith) u.whole

  pub seal_header : SameHeader f (sealed_front s g)
  seal_header = judged_header f (sealed_front s g) (length f) seal_judged w.right w.few

  pub seal_front : Front (sealed_front s g)
  seal_front =
      let z = w.whole in
      record {
        whole = sym (end_same seal_judged.frame) ∙ w.whole ∙ sym seal_length;
        right = header_to f (sealed_front s g) seal_judged (length f) (length (sealed_front s g)) w.right (omega (arith, seal_length));
        few = rw (← seal_header.count) w.few;
      }

  header_typed : type_at f 16 ≡ 6
  unfolding header_right frame_right
  header_typed = (means _ (means _ w.right).0).1.1.0

  header_stated : length_at f 16 ≡ length f - 16
  unfolding header_end
  header_stated = let z = w.whole in omega arith

  sealed_there : Placed (sealed_front s g) 16 (part g 16 (length f - 16 - 4) ++ bytes_of 4 (checksum_for (checksum_enabled s) (part g 16 (length f - 16 - 4))))
  unfolding sealed_front
  sealed_there =
      let l = least in
      rw (← e) (sealed_placed (checksum_enabled s) g 16 (header_end s - 16) (omega arith) (omega (arith, k.long)))

  -- the header's checksum is right, whatever stands behind the front
  pub seal_checksum : checksum_enabled s ≡ checksum_enabled f → Bytes g → (b : List ℕ) → checksum_right (sealed_front s g ++ b) 16 ≡ true
  unfolding checksum_for
  seal_checksum flag v b =
      let l = least in
      let t = sealed_front s g ++ b in
      let m = seal_length in
      let c : Same (sealed_front s g) t 0 131 = same_append (sealed_front s g) b 0 131 (omega arith) in
      let u = part g 16 (length f - 16 - 4) in
      let d : Same f t 16 21 = same_trans seal_judged.frame (same_part c 16 21 (omega arith) (omega arith)) in
      let p : type_at t 16 ≡ 6 = sym (byte_same d 20 (omega arith) (omega arith)) ∙ header_typed in
      let q : length_at t 16 ≡ length f - 16 = sym (number_same d 4 16 (omega arith) (omega arith)) ∙ header_stated in
      let n : length u ≡ length f - 16 - 4 = part_length g 16 (length f - 16 - 4) (omega (arith, k.long)) in
      let x : checksum_enabled s ≡ checksum_enabled t =
      flag ∙ option f (sealed_front s g) seal_judged 128 (omega arith) (omega arith) ∙ byte_same c 128 (omega arith) (omega arith) in
      checksum_placed u _ (placed_before sealed_there b) (rw x) (bytes_part 16 _ v) (omega arith) (λ y. omega (arith, p, y))

-- a page with such a front, whatever stands behind it
module _ {m : ℕ} {s f : List ℕ} {rs : List (List ℕ)} (p : Parted s f rs) (g : List ℕ) (k : FieldsSet m f g) (b : List ℕ) where
  ends : header_end s ≡ length f
  ends = sym p.ends

  pub page_unset : SameUnset s (sealed_front s g ++ b)
  page_unset = unset_trans (parted_unset p) (unset_trans (seal_unset s f g p.front ends k) (front_unset (seal_front s f g p.front ends k) b))

  pub page_between : Same s (sealed_front s g ++ b) m 80
  page_between =
      let l = front_long p.front [] in
      let x : Same s f m 80 = rw (← p.whole) at (same_sym (same_append f (joined rs) m 80 (omega arith))) in
      same_trans x (same_trans (seal_between s f g p.front ends k) (same_append (sealed_front s g) b m 80 (omega (arith, seal_length s f g p.front ends k))))
