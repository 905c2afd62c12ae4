-- The fields of the header as they are stored. Assumes nothing.
use Prim.Native.Nat.{ℕ, suc, ◌+◌, ◌-◌, ◌≤◌}
use mathlib.Core.Path.{◌≡◌, refl, ◌∙◌}
use mathlib.Core.List.{List, [], ◌∷◌}
use mathlib.Core.Bool.{Bool, true, false}
use native.Mathlib.Omega.{arith}
use lib.ListN.{length}
use lib.Dec.{eqb, ltb}
use borrow.Author.Tests.{eqb-true, eqb-false, ltb-false}
use Rattle.std.specs.Prelude.{not, Some, None, cond}
use Rattle.std.specs.List.{position, position_or_len}
use Rattle.std.specs.Option.{unwrap_or}
use Rattle.wire.specs.Pick.{pick}
use Rattle.wire.specs.Bytes.{number, part, bytes_of, put, zeros}
use Rattle.crc32c.specs.Crc.{crc_part, crc_without}
use Rattle.written_records.specs.Pieces.{checksum_for}
use Rattle.stores.specs.Writes.{one_write, seal_write}
use Rattle.stores.proofs.JoinLaws.{Ran, ran_on, ran_then, ran_none}
use Rattle.correct.specs.FieldWrites.{first_set, Lowest, set_writes, opened_field_writes, refer_to, closed_field_writes, seal_without, closed_front_writes}

-- the lowest byte that is not zero

pub first_most : (v : List ℕ) → first_set v ≤ length v
unfolding first_set
first_most [] = omega arith
first_most (b ∷ bs) = go (eqb b 0) (first_most bs)
  where
    go : (c : Bool) → first_set bs ≤ length bs → pick c (suc (first_set bs)) 0 ≤ suc (length bs)
    go true h = omega arith
    go false h = omega arith

first_is : (v : List ℕ) → position_or_len (λ b. not (eqb b 0)) v ≡ first_set v
unfolding first_set
first_is [] = refl
first_is (b ∷ bs) = go (eqb b 0) (first_is bs)
  where
    go : (c : Bool) → position_or_len (λ b'. not (eqb b' 0)) bs ≡ first_set bs → pick (not (not c)) (1 + position_or_len (λ b'. not (eqb b' 0)) bs) 0 ≡ pick c (suc (first_set bs)) 0
    go true e = omega arith
    go false e = refl

pub lowest_first : (v : List ℕ) (r : ℕ) → r ≡ unwrap_or (position (λ b. not (eqb b 0)) v) (length v) → r ≡ first_set v
lowest_first v r e = e ∙ go (ltb (position_or_len _ v) (length v)) _ _ (λ f. omega (arith, ltb-false (position_or_len (λ b. not (eqb b 0)) v) (length v) f, first_is v, first_most v)) ∙ first_is v
  where
    go : (t : Bool) (a b : ℕ) → (t ≡ false → b ≡ a) → unwrap_or (cond t (Some a) None) b ≡ a
    go true a b f = refl
    go false a b f = f refl

pub lowest_set : (v : List ℕ) → (number v ≡ 0 → ⊥) → Lowest v
unfolding first_set number
lowest_set [] z = absurd (z refl)
lowest_set (b ∷ bs) z = go (eqb b 0) refl (lowest_set bs)
  where
    go : (c : Bool) → eqb b 0 ≡ c → ((number bs ≡ 0 → ⊥) → Lowest bs) → Lowest (b ∷ bs)
    go true e r = let i = eqb-true b 0 e in let w = r (λ y. z (omega arith)) in record { inside = rw e (omega (arith, w.inside)); set = rw e w.set }
    go false e r = record { inside = rw e (omega arith); set = rw e (eqb-false b 0 e) }

-- the calls, one behind the other

pub set_ran :
    {k : ℕ} {d : List ℕ} (at : ℕ) (v : List ℕ) (p n : ℕ) {a b r : ℕ} {u x y l m o : List ℕ} → n ≡ length v - (p + 1) → u ≡ part v p 1 → x ≡ part v 0 p →
    y ≡ part v (p + 1) n → Ran k (one_write (at + p) u) d a l → Ran a (one_write at x) l b m → Ran b (one_write (at + (p + 1)) y) m r o →
    Ran k (set_writes at v p) d r o
unfolding set_writes
set_ran at v p n e f g h q q' q'' = rw (← e, ← f, ← g, ← h) (ran_then (ran_then q q') q'')

pub opened_ran :
    {k : ℕ} {d : List ℕ} (t : ℕ) (v : List ℕ) (p : ℕ) {a r : ℕ} {l o : List ℕ} → v ≡ bytes_of 8 t → p ≡ first_set v → Ran k (set_writes 48 v p) d a l →
    Ran a (one_write 56 (zeros 8)) l r o → Ran k (opened_field_writes t) d r o
unfolding opened_field_writes
opened_ran t v p e f q q' = rw (← e, ← f) (ran_then q q')

pub refer_some :
    {k : ℕ} {d : List ℕ} (at : ℕ) (there : Bool) (n : ℕ) {r : ℕ} {o : List ℕ} → there ≡ true → Ran k (one_write at (bytes_of 8 (n + 8))) d r o →
    Ran k (refer_to at there n) d r o
unfolding refer_to
refer_some at there n e q = rw e q

pub refer_none : (k : ℕ) (d : List ℕ) (at : ℕ) (there : Bool) (n : ℕ) → there ≡ false → Ran k (refer_to at there n) d k d
unfolding refer_to
refer_none k d at there n e = rw e (ran_none k d)

pub closed_ran :
    {k : ℕ} {d : List ℕ} (t : ℕ) (there : Bool) (n p z : ℕ) {a b c r : ℕ} {l m s o : List ℕ} → z ≡ 7 - p → Ran k (one_write 40 (bytes_of 8 t)) d a l →
    Ran a (refer_to 56 there n) l b m → Ran b (one_write 48 (zeros p)) m c s → Ran c (one_write (48 + (p + 1)) (zeros z)) s r o →
    Ran k (closed_field_writes t there n p) d r o
unfolding closed_field_writes
closed_ran t there n p z e q q' q'' q''' = rw (← e) (ran_then (ran_then (ran_then q q') q'') q''')

-- the checksum of a header whose opened time is read as zero

pub without_on :
    (flag end n r : ℕ) (d : List ℕ) → flag ≡ 1 → n ≡ end - 20 → r ≡ crc_without d 16 n 48 56 → r ≡ checksum_for flag (part (put d 48 (zeros 8)) 16 (end - 20))
unfolding checksum_for crc_without crc_part
without_on flag end n r d e f g = rw (e, ← f) g

pub without_ran :
    {k : ℕ} {d : List ℕ} (flag end m sum : ℕ) {r : ℕ} {o : List ℕ} → m ≡ end - 20 → sum ≡ checksum_for flag (part (put d 48 (zeros 8)) 16 (end - 20)) →
    Ran k (one_write (16 + m) (bytes_of 4 sum)) d r o → Ran k (seal_without flag end d) d r o
unfolding seal_without seal_write
without_ran flag end m sum f g q =
    let a : end - 16 - 4 ≡ end - 20 = omega arith in
    rw (a, ← g, ← f) q

pub closing_ran :
    {k : ℕ} {d : List ℕ} (flag end t : ℕ) (there : Bool) (n p : ℕ) {a b r : ℕ} {l m o : List ℕ} → Ran k (closed_field_writes t there n p) d a l →
    Ran a (seal_without flag end l) l b m → Ran b (one_write (48 + p) (zeros 1)) m r o → Ran k (closed_front_writes flag end t there n p d) d r o
unfolding closed_front_writes
closing_ran flag end t there n p q q' q'' = ran_then (ran_on (seal_without flag end) q q') q''
