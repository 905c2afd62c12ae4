-- Text put in pieces: the digits of a number, and one piece behind the other. Assumes nothing.
use Prim.Native.Nat.{ℕ, ◌+◌, ◌-◌, ◌/◌, ◌%◌, ◌≤◌, ◌<◌}
use mathlib.Core.Path.{◌≡◌, refl, sym, ap, ◌∙◌}
use mathlib.Core.List.{List, [], ◌∷◌, ◌++◌, append_assoc, append-nil}
use native.Mathlib.Omega.{arith}
use native.Mathlib.Numerals.{add-one}
use lib.ListN.{length, get_or, set, take, drop, length-append, length-take}
use lib.Seq.{take-suc, set_at}
use Rattle.wire.specs.Bytes.{put}
use Rattle.wire.proofs.PutLaws.{put_fits, put_put, pasted_none, pasted_all}
use Rattle.listing.specs.Text.{decimal}
use Rattle.listing.specs.Puts.{Puts}
use Rattle.listing.proofs.TextLaws.{decimal_last, decimal_more, long_last, long_more}

-- nothing, and a byte before what is put

put_nothing : (d : List ℕ) (at : ℕ) → at ≤ length d → d ≡ put d at []
put_nothing d at h = pasted_none d at [] ∙ pasted_all d at [] 0 refl (omega arith)

put_before : (d : List ℕ) (at b : ℕ) (w : List ℕ) → at + 1 + length w ≤ length d → set (put d (at + 1) w) at b ≡ put d at (b ∷ w)
put_before d at b w h =
    let r : List ℕ = drop (at + 1 + length w) d in
    let y : ℕ = get_or d at 0 in
    let k : at < length d = omega arith in
    let lt : length (take at d) ≡ at = rw length-take (omega arith) in
    let e : at + length (b ∷ w) ≡ at + 1 + length w = omega arith in
    let f : take (at + 1) d ≡ take at d ++ (y ∷ []) = rw add-one (take-suc d at 0 k) in
    let a : put d (at + 1) w ≡ take at d ++ (y ∷ (w ++ r)) =
    put_fits d (at + 1) w h ∙ ap (λ (l : List ℕ). l ++ w ++ r) f ∙ simp append_assoc in
    ap (λ (l : List ℕ). set l at b) a
    ∙ set_at (take at d) y (w ++ r) b at lt
    ∙ sym (put_fits d at (b ∷ w) (omega arith) ∙ rw (e, append_assoc))

-- the last digits of n are put, from k on; the digits of v are still to put before them
pub record Filling (d : List ℕ) (at n v k : ℕ) (l : List ℕ) : Type 0 where
  pub last : List ℕ
  pub long : k ≡ length (decimal v)
  pub all : decimal n ≡ decimal v ++ last
  pub is : l ≡ put d (at + k) last

pub filling_none : (d : List ℕ) (at n k : ℕ) → k ≡ length (decimal n) → at + k ≤ length d → Filling d at n n k d
filling_none d at n k e h = record { last = []; long = e; all = sym (append-nil (decimal n)); is = put_nothing d (at + k) h }

module _ {d : List ℕ} {at n v k : ℕ} {l : List ℕ} (f : Filling d at n v k l) (h : at + length (decimal n) ≤ length d) where
  fills : k + length f.last ≡ length (decimal n)
  fills = omega (arith, f.long, ap length f.all ∙ length-append (decimal v) f.last)

  pub filling_more : 10 ≤ v → Filling d at n (v / 10) (k - 1) (set l (at + (k - 1)) (48 + v % 10))
  filling_more m =
      let a = long_more v m in
      let e : at + k ≡ at + (k - 1) + 1 = omega (arith, f.long) in
      record {
        last = (48 + v % 10) ∷ f.last;
        long = omega (arith, f.long);
        all = f.all ∙ rw (decimal_more v m, append_assoc);
        is = rw (f.is, e) (put_before d (at + (k - 1)) (48 + v % 10) f.last (omega (arith, fills, f.long)));
      }

  pub filling_all : v < 10 → set l at (48 + v) ≡ put d at (decimal n)
  filling_all m =
      let a = long_last v m in
      let e : at + k ≡ at + 1 = omega (arith, f.long) in
      rw (f.is, e) (put_before d at (48 + v) f.last (omega (arith, fills, f.long)))
      ∙ ap (put d at) (sym (f.all ∙ ap (λ (x : List ℕ). x ++ f.last) (decimal_last v m)))

-- one piece behind the other

module _ {d : List ℕ} {at : ℕ} where
  pub puts_none : Puts d at [] at d
  puts_none = record { end = omega arith; holds = λ h. put_nothing d at (omega arith) }

  pub puts_first : {v l : List ℕ} → l ≡ put d at v → (r : ℕ) → r ≡ at + length v → Puts d at v r l
  puts_first e r h = record { end = h; holds = λ i. e }

  pub puts_then : {v w l m : List ℕ} {a r : ℕ} → Puts d at v a l → Puts l a w r m → length l ≡ length d → Puts d at (v ++ w) r m
  puts_then {v} {w} {l} {m} {a} {r} p q k =
      let n = length-append v w in
      record {
        end = omega (arith, p.end, q.end);
        holds =
            λ h.
            q.holds (omega (arith, p.end)) ∙ rw (p.end, p.holds (omega arith)) (put_put d at v w (omega arith));
      }

  pub puts_regroup : (u v w : List ℕ) {l : List ℕ} {r : ℕ} → Puts d at (u ++ (v ++ w)) r l → Puts d at (u ++ v ++ w) r l
  puts_regroup u v w p = rw (append_assoc u v w) p
