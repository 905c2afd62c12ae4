-- What the writers of a record's pieces put. Assumes nothing.
use Prim.Native.Nat.{ℕ, ◌+◌, ◌%◌, ◌-◌, ◌≤◌, ◌<◌}
use mathlib.Core.Path.{◌≡◌, refl, sym, ap, ◌∙◌}
use mathlib.Core.List.{List, [], ◌∷◌, ◌++◌}
use mathlib.Core.Logic.{by_cases}
use native.Mathlib.Decide.{dec_le}
use native.Mathlib.Omega.{arith}
use lib.ListN.{length, length-append}
use borrow.Author.Tests.{ne_eqb}
use Rattle.wire.specs.Pick.{round_up}
use Rattle.wire.specs.Bytes.{part, bytes_of, put, zeros}
use Rattle.wire.proofs.ByteLaws.{bytes_length, zeros_length}
use Rattle.wire.proofs.PutLaws.{put_part, put_put, first, then, bytes_mod, put_out, zeros_none}
use Rattle.crc32c.specs.Crc.{crc_part}
use Rattle.geometry.specs.Sizes.{stored_size}
use Rattle.written_records.specs.Pieces.{checksum_for, record_head, record_length, unclosed, record_of, sealed, closed_at, section}
use Rattle.written_records.proofs.PieceLaws.{head_length_lem, record_holds, unclosed_length, section_length_lem}

-- a record's head

pub head_put :
    (d a b l : List ℕ) (at n kind : ℕ) → a ≡ put d at (bytes_of 4 n) → b ≡ put a (at + 4) (kind ∷ []) → l ≡ put b (at + 5) (zeros 3) → at + 8 ≤ length d →
    l ≡ put d at (record_head n kind)
unfolding record_head
head_put d a b l at n kind p q r h =
    let w = first p (bytes_length 4 n) in
    let x = then w (kind ∷ []) 1 (at + 4) q refl refl (omega arith) in
    let y = then x (zeros 3) 3 (at + 5) r (zeros_length 3) refl (omega arith) in
    y.is

-- the checksum

pub sum_on : (flag : ℕ) (s : List ℕ) (at n r : ℕ) → r ≡ crc_part s at n → flag ≡ 1 → r ≡ checksum_for flag (part s at n)
unfolding checksum_for crc_part
sum_on flag s at n r p e = rw e p

pub sum_off : (flag : ℕ) (bytes : List ℕ) → (flag ≡ 1 → ⊥) → 0 ≡ checksum_for flag bytes
unfolding checksum_for
sum_off flag bytes e = rw (ne_eqb flag 1 e)

pub sealed_is :
    (flag : ℕ) (d l : List ℕ) (at n m sum : ℕ) → m ≡ n - 4 → sum ≡ checksum_for flag (part d at m) → l ≡ put d (at + m) (bytes_of 4 sum) →
    l ≡ sealed flag d at n
unfolding sealed
sealed_is flag d l at n m sum e p q = q ∙ rw (p, e)

pub sealed_out : (flag : ℕ) (d : List ℕ) (at n m : ℕ) → m ≡ n - 4 → length d < at + m → d ≡ sealed flag d at n
unfolding sealed
sealed_out flag d at n m e h = put_out d _ _ (bytes_length 4 (checksum_for flag (part d at (n - 4)))) (omega arith)

pub closed_out : (flag : ℕ) (d : List ℕ) (at end n m : ℕ) → m ≡ n - 4 → length d < at + m → d ≡ closed_at flag d at end n
unfolding closed_at
closed_out flag d at end n m e h =
    let z : d ≡ put d end (zeros (at + (n - 4) - end)) =
    by_cases (dec_le (at + (n - 4)) end) (λ k. let q : at + (n - 4) - end ≡ 0 = omega arith in rw q (zeros_none d end))
    (λ k. put_out d end _ (zeros_length (at + (n - 4) - end)) (omega arith)) in
    sealed_out flag d at n m e h ∙ ap (λ (x : List ℕ). sealed flag x at n) z

pub closed_is :
    (flag : ℕ) (d a l : List ℕ) (at end n m k : ℕ) → m ≡ n - 4 → k ≡ at + m - end → a ≡ put d end (zeros k) → l ≡ sealed flag a at n → l ≡ closed_at flag d at end n
unfolding closed_at
closed_is flag d a l at end n m k e f p q = q ∙ rw (p, f, e)

-- an element's section

pub section_out : (d : List ℕ) (at n pad : ℕ) (bytes : List ℕ) → n ≡ length bytes → pad ≡ round_up 4 n - n → length d < at + (4 + n + pad) → d ≡ put d at (section bytes)
unfolding stored_size
section_out d at n pad bytes e p h = put_out d at (section bytes) (section_length_lem bytes) (omega arith)

pub section_put :
    (d a b l : List ℕ) (at n pad v : ℕ) (bytes : List ℕ) → n ≡ length bytes → pad ≡ round_up 4 n - n → v ≡ n % 4294967296 → a ≡ put d at (bytes_of 4 v) →
    b ≡ put a (at + 4) bytes → l ≡ put b (at + 4 + n) (zeros pad) → at + (4 + n + pad) ≤ length d → l ≡ put d at (section bytes)
unfolding section
section_put d a b l at n pad v bytes e f g p q r h =
    let s : bytes_of 4 v ≡ bytes_of 4 (length bytes) = rw (g, ← e) (bytes_mod 4 n) in
    let w = first (p ∙ ap (put d at) s) (bytes_length 4 (length bytes)) in
    let x = then w bytes n (at + 4) q (sym e) refl (omega arith) in
    let y = then x (zeros pad) pad (at + 4 + n) r (zeros_length pad) (omega arith) (omega arith) in
    y.is ∙ rw (f, e)

-- a record: its head and body, put and then padded and sealed

unclosed_is :
    (n kind k : ℕ) (body : List ℕ) → n ≡ record_length (length body) → k ≡ n - 4 - (8 + length body) → record_head n kind ++ body ++ zeros k ≡ unclosed kind body
unfolding unclosed
unclosed_is n kind k body e h = rw (h, e)

sealed_put :
    (flag : ℕ) (d w : List ℕ) (at n : ℕ) → length w ≡ n - 4 → 4 ≤ n → at + n ≤ length d →
    sealed flag (put d at w) at n ≡ put d at (w ++ bytes_of 4 (checksum_for flag w))
unfolding sealed
sealed_put flag d w at n e h k =
    let s = bytes_of 4 (checksum_for flag w) in
    let l = bytes_length 4 (checksum_for flag w) in
    rw (← e, put_part d at w (omega arith)) (put_put d at w s (omega arith))

pub closed_put :
    (d a l : List ℕ) (at end n flag kind : ℕ) (body : List ℕ) → a ≡ put d at (record_head n kind ++ body) → n ≡ record_length (length body) →
    end ≡ at + (8 + length body) → at + n ≤ length d → l ≡ closed_at flag a at end n → l ≡ put d at (record_of flag kind body)
unfolding closed_at record_of
closed_put d a l at end n flag kind body p e g h q =
    let k = at + (n - 4) - end in
    let r = record_holds (length body) in
    let b : length (record_head n kind ++ body) ≡ 8 + length body = length-append (record_head n kind) body ∙ omega (arith, head_length_lem n kind) in
    let w = then (first p b) (zeros k) k end refl (zeros_length k) g (omega arith) in
    let u : put a end (zeros k) ≡ put d at (unclosed kind body) = w.is ∙ ap (put d at) (unclosed_is n kind k body e (omega arith)) in
    q ∙ rw u (sealed_put flag d (unclosed kind body) at n (unclosed_length kind body ∙ omega arith) (omega arith) h)
