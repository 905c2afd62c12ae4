-- A reference of the tile directory as it is stored. Assumes nothing.
use Prim.Native.Nat.{ℕ, ◌+◌, ◌*◌, ◌/◌, ◌^◌, ◌-◌, ◌≤◌, ◌<◌}
use mathlib.Core.Path.{◌≡◌, ap, ◌∙◌}
use mathlib.Core.List.{List}
use mathlib.Core.Bool.{Bool}
use native.Mathlib.Nat.{mul-le-mul_right}
use native.Mathlib.Omega.{arith}
use lib.ListN.{length, take}
use lib.Seq.{take_at}
use lib.Dec.{eqb}
use borrow.Author.Tests.{ne_eqb}
use Rattle.wire.specs.Pick.{pick}
use Rattle.wire.specs.Bytes.{part, bytes_of}
use Rattle.wire.proofs.ByteLaws.{part_in, bytes_length}
use Rattle.wire.proofs.PutLaws.{bytes_split}
use Rattle.stores.specs.Writes.{one_write, seal_write}
use Rattle.stores.proofs.JoinLaws.{Ran, ran_on, stored_first, whole_in, whole_out}
use Rattle.pieces.specs.Edits.{reference_bytes}
use Rattle.correct.specs.RecordWrites.{reference_write, refer_writes}

-- what a reference has

pub value_eight : (w content : ℕ) → w ≡ 8 → content ≡ pick (eqb w 8) content (content / 8)
value_eight w content e = rw e

pub value_four : (w content : ℕ) → (w ≡ 8 → ⊥) → content / 8 ≡ pick (eqb w 8) content (content / 8)
value_four w content e = rw (ne_eqb w 8 e)

-- where it stands

pub times_small : (w i : ℕ) → w ≤ 8 → w * i ≤ 8 * i
times_small w i h = mul-le-mul_right i h

-- the first bytes of a number are those of the number

pub bytes_first : (w v : ℕ) → w ≤ 8 → part (bytes_of 8 v) 0 w ≡ bytes_of w v
bytes_first w v h =
    let e : 8 ≡ w + (8 - w) = omega arith in
    let b = bytes_split w (8 - w) v in
    part_in (bytes_of 8 v) 0 w (omega (arith, bytes_length 8 v))
    ∙ ap (take w) (ap (λ (n : ℕ). bytes_of n v) e ∙ b) ∙ take_at (bytes_of w v) (bytes_of (8 - w) (v / 256 ^ w)) w (bytes_length w v)

bytes_long : (w content : ℕ) → length (reference_bytes w content) ≡ w
unfolding reference_bytes
bytes_long w content = bytes_length w _

value_is : (w v content : ℕ) → v ≡ pick (eqb w 8) content (content / 8) → bytes_of w v ≡ reference_bytes w content
unfolding reference_bytes
value_is w v content e = ap (bytes_of w) e

pub reference_out :
    (k : ℕ) (d : List ℕ) (x w i content p : ℕ) → p ≡ 32 + w * i → length d < x + (p + w) → Ran k (reference_write (length d) x w i content) d k d
unfolding reference_write
reference_out k d x w i content p e h = whole_out k (x + (32 + w * i)) (reference_bytes w content) d (bytes_long w content) (omega arith)

pub reference_in_lem :
    {k : ℕ} {d : List ℕ} (x w i content p v : ℕ) {b u : List ℕ} {r : ℕ} {o : List ℕ} → p ≡ 32 + w * i → v ≡ pick (eqb w 8) content (content / 8) →
    b ≡ bytes_of 8 v → u ≡ part b 0 w → Ran k (one_write (x + p) u) d r o → w ≤ 8 → x + (p + w) ≤ length d →
    Ran k (reference_write (length d) x w i content) d r o
unfolding reference_write
reference_in_lem {k} {d} x w i content p v {b} {u} e f g s q h j =
    let z : u ≡ reference_bytes w content = s ∙ ap (λ (y : List ℕ). part y 0 w) g ∙ bytes_first w v h ∙ value_is w v content f in
    whole_in (stored_first (rw (e, z) at q) (bytes_long w content)) (omega arith)

pub refer_ran :
    {k : ℕ} {d : List ℕ} (flag x n i content : ℕ) (wide : Bool) {w a r : ℕ} {l o : List ℕ} → w ≡ pick wide 8 4 →
    Ran k (reference_write (length d) x w i content) d a l → Ran a (seal_write flag x n l) l r o → Ran k (refer_writes flag x n (pick wide 8 4) i content d) d r o
unfolding refer_writes
refer_ran flag x n i content wide e q q' = rw e at (ran_on (seal_write flag x n) q q')
