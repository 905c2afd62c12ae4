-- Bytes put at two places, one behind the other, and bytes put in three parts. Assumes nothing.
use Prim.Native.Nat.{ℕ, ◌+◌, ◌≤◌}
use mathlib.Core.Path.{◌≡◌, refl, sym, ap, ◌∙◌}
use mathlib.Core.List.{List, ◌++◌}
use native.Mathlib.Omega.{arith}
use lib.ListN.{length, length-append}
use Rattle.wire.specs.Bytes.{part, put}
use Rattle.wire.proofs.ByteLaws.{part_length}
use Rattle.wire.proofs.PutLaws.{length_put, put_put}
use Rattle.wire.proofs.PlaceLaws.{part_placed, put_there, put_before, put_inside, put_over}
use Rattle.effects.proofs.LieLaws.{put_middle}

-- the order does not count
pub put_swap :
    (d : List ℕ) (at at' : ℕ) (v w : List ℕ) → at + length v ≤ at' → at' + length w ≤ length d → put (put d at' w) at v ≡ put (put d at v) at' w
put_swap d at at' v w h k =
    let p = part_placed d at' (length w) k in
    let a = p.before in
    let m = part d at' (length w) in
    let z = p.behind in
    let e : length a ≡ at' = p.start in
    let l : length m ≡ length w = part_length d at' (length w) k in
    let f : at + length v ≤ length a = omega arith in
    ap (λ (x : List ℕ). put x at v) (put_there p w l) ∙ put_before a (w ++ z) at v f
    ∙ sym
    (ap (λ (x : List ℕ). put (put x at v) at' w) p.whole ∙ ap (λ (x : List ℕ). put x at' w) (put_before a (m ++ z) at v f)
    ∙ put_middle (put a at v) m w z (length_put a at v ∙ e) l)

-- bytes that are put over do not count
pub put_cover :
    (d : List ℕ) (at i : ℕ) (v w : List ℕ) → i + length v ≤ length w → at + length w ≤ length d → put (put d (at + i) v) at w ≡ put d at w
put_cover d at i v w h k =
    let r = part d at (length w) in
    let p = part_placed d at (length w) k in
    let l : length r ≡ length w = part_length d at (length w) k in
    let s : d ≡ put d at r = sym (put_there p r refl ∙ sym p.whole) in
    let n = length_put r i v in
    ap (λ (x : List ℕ). put (put x (at + i) v) at w) s
    ∙ ap (λ (x : List ℕ). put x at w) (put_inside d r at i v (omega arith) (omega arith))
    ∙ put_over d at (put r i v) w (omega arith) (omega arith)

-- three parts, in order, the middle one first, and the middle one last
module _
    (d : List ℕ) (at : ℕ) (a b c : List ℕ) (i j : ℕ) (e : i ≡ at + length a) (f : j ≡ at + (length a + length b))
    (h : at + (length a + length b + length c) ≤ length d)
  where
    thirds : put (put (put d at a) i b) j c ≡ put d at (a ++ b ++ c)
    thirds =
        let l = length-append a b in
        let g : j ≡ at + length (a ++ b) = omega arith in
        rw (e, g) (ap (λ (x : List ℕ). put x (at + length (a ++ b)) c) (put_put d at a b (omega arith)) ∙ put_put d at (a ++ b) c (omega arith))

    pub middle_first : put (put (put d i b) at a) j c ≡ put d at (a ++ b ++ c)
    middle_first = ap (λ (x : List ℕ). put x j c) (put_swap d at i a b (omega arith) (omega arith)) ∙ thirds

    pub middle_last : put (put (put d at a) j c) i b ≡ put d at (a ++ b ++ c)
    middle_last = put_swap (put d at a) i j b c (omega arith) (omega (arith, length_put d at a)) ∙ thirds
