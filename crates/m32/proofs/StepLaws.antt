-- A code a step at a time, over any source of bytes. Assumes nothing.
use Prim.Native.Nat.{ℕ, zero, suc, ◌+◌, ◌-◌, ◌*◌, ◌%◌, ◌≤◌, ◌<◌}
use mathlib.Core.Path.{◌≡◌, refl, sym, ap, ◌∙◌}
use mathlib.Core.List.{List, [], ◌∷◌}
use mathlib.Core.Bool.{Bool, true, false}
use native.Mathlib.Omega.{arith}
use lib.ListN.{length, get_or}
use lib.Dec.{leb}
use mathlib.Core.Logic.{by_cases}
use native.Mathlib.Decide.{dec_le}
use borrow.Author.Tests.{le-leb, lt-leb, eq-eqb, ne_eqb}
use Rattle.wire.specs.Pick.{pick}
use Rattle.wire.specs.Tests.{◌≤?◌, passes}
use Rattle.wire.specs.Bytes.{largest_integer}
use Rattle.wire.proofs.TestLaws.{yes, no}
use Rattle.m32.specs.M32.{bases, signed, lowest, begun, first_step, go_on, ended, further_step, Next, found, byte, end, bytes_next, after, settle, magnitude, read_code}
use Rattle.m32.specs.declared.Partial.{Partial}
use Rattle.m32.specs.declared.Step.{Step}
use Rattle.m32.specs.declared.Step.TheVariants.{Number, More, Bad}
use Rattle.std.specs.Prelude.{Option, None}
use Rattle.m32.specs.declared.Found.{Found}

-- how many bytes more a step may ask for
abbrev room : Step → ℕ
room (Number x) = 0
room (More p) = 5 - p.digits
room Bad = 0

-- the first byte, as it is read

module _ (y : ℕ) where
  pub first_up : y ≡ 127 → More (begun false) ≡ first_step y
  unfolding first_step
  first_up e = let l : 126 < y = omega arith in rw (lt-leb y 126 l, eq-eqb y 127 e)

  pub first_lowest : y ≡ 128 → Number lowest ≡ first_step y
  unfolding first_step
  first_lowest e = let l : 126 < y = omega arith in rw (lt-leb y 126 l, ne_eqb y 127 (λ q. absurd (omega arith)), eq-eqb y 128 e)

  pub first_down : y ≡ 129 → More (begun true) ≡ first_step y
  unfolding first_step
  first_down e =
      let l : 126 < y = omega arith in
      rw (lt-leb y 126 l, ne_eqb y 127 (λ q. absurd (omega arith)), ne_eqb y 128 (λ q. absurd (omega arith)), eq-eqb y 129 e)

  -- one that is the number itself, widened by its remainders
  pub first_itself :
      y < 256 → (y ≡ 127 → ⊥) → (y ≡ 128 → ⊥) → (y ≡ 129 → ⊥) → Number (((y + 128) % 256 + 4294967168) % 4294967296) ≡ first_step y
  unfolding first_step
  first_itself h a b d =
      by_cases (dec_le y 126)
      (λ k. let e : ((y + 128) % 256 + 4294967168) % 4294967296 ≡ y = omega arith in rw (le-leb y 126 k, e))
      (λ k.
      let l : 126 < y = omega arith in
      let n : 129 < y = omega (arith, a, b, d) in
      let e : ((y + 128) % 256 + 4294967168) % 4294967296 ≡ y + 4294967040 = omega arith in
      rw (lt-leb y 126 l, ne_eqb y 127 a, ne_eqb y 128 b, ne_eqb y 129 d, e))

-- no base is below the first
pub base_least : (k : ℕ) → k ≤ 4 → 127 ≤ get_or bases k 0
base_least zero h = omega arith
base_least (suc zero) h = omega arith
base_least (suc (suc zero)) h = omega arith
base_least (suc (suc (suc zero))) h = omega arith
base_least (suc (suc (suc (suc zero)))) h = omega arith
base_least (suc (suc (suc (suc (suc k))))) h = absurd (omega arith)

module _ (p : Partial) where
  -- one byte more
  abbrev pub longer : ℕ → Partial
  longer v = record { negative = p.negative; digits = p.digits + 1; sum = v }

  pub go_on_lem : (v : ℕ) → p.digits ≤ 3 → v ≤ 2147483647 → go_on p v ≡ More (longer v)
  unfolding go_on
  go_on_lem v h k = ap (λ (b : Bool). pick b (More (longer v)) Bad) (sym (yes ((p.digits ≤? 3) ∷ (v ≤? largest_integer) ∷ []) (h, (k, tt))))

  pub go_not : (v : ℕ) → (p.digits ≤ 3 → v ≤ 2147483647 → ⊥) → go_on p v ≡ Bad
  unfolding go_on
  go_not v f = ap (λ (b : Bool). pick b (More (longer v)) Bad) (sym (no ((p.digits ≤? 3) ∷ (v ≤? largest_integer) ∷ []) (λ h. f h.0 h.1.0)))

  abbrev total : ℕ → ℕ
  total v = v + get_or bases p.digits 0

  pub end_at : (v : ℕ) → p.digits ≤ 4 → v + get_or bases p.digits 0 ≤ 2147483647 → ended p v ≡ Number (signed p.negative (v + get_or bases p.digits 0))
  unfolding ended
  end_at v h k =
      ap (λ (b : Bool). pick b (Number (signed p.negative (total v))) Bad) (sym (yes ((p.digits ≤? 4) ∷ (total v ≤? largest_integer) ∷ []) (h, (k, tt))))

  pub end_not : (v : ℕ) → (p.digits ≤ 4 → v + get_or bases p.digits 0 ≤ 2147483647 → ⊥) → ended p v ≡ Bad
  unfolding ended
  end_not v f =
      ap (λ (b : Bool). pick b (Number (signed p.negative (total v))) Bad)
      (sym (no ((p.digits ≤? 4) ∷ (total v ≤? largest_integer) ∷ []) (λ h. f h.0 h.1.0)))

  pub more_step : (y : ℕ) → 128 ≤ y → further_step p y ≡ go_on p (p.sum * 128 + (y - 128))
  unfolding further_step
  more_step y h = rw (le-leb 128 y h)

  pub last_step : (y : ℕ) → y < 128 → further_step p y ≡ ended p (p.sum * 128 + y)
  unfolding further_step
  last_step y h = rw (lt-leb 128 y h)

  -- a result, its sign known
  pub end_signed :
      (v b : ℕ) (n : Bool) → b ≡ get_or bases p.digits 0 → p.negative ≡ n → p.digits ≤ 4 → v + b ≤ 2147483647 → Number (signed n (v + b)) ≡ ended p v
  end_signed v b n e f h k = rw (e, ← f) (sym (end_at v h (rw e at k)))

  -- it asks for one less
  less : (y : ℕ) → room (further_step p y) ≤ 4 - p.digits
  unfolding further_step go_on ended
  less y =
      go (leb 128 y) (passes ((p.digits ≤? 3) ∷ (p.sum * 128 + (y - 128) ≤? largest_integer) ∷ []))
      (passes ((p.digits ≤? 4) ∷ (total (p.sum * 128 + y) ≤? largest_integer) ∷ []))
    where
      go :
          (a b c : Bool) →
          room (pick a (pick b (More (longer (p.sum * 128 + (y - 128)))) Bad) (pick c (Number (signed p.negative (total (p.sum * 128 + y)))) Bad)) ≤ 4 - p.digits
      go true true c = omega arith
      go true false c = omega arith
      go false b true = omega arith
      go false b false = omega arith

  -- and no step is made behind the fifth byte
  full : (y : ℕ) → 5 ≤ p.digits → further_step p y ≡ Bad
  unfolding further_step
  full y h = go (leb 128 y)
    where
      go : (b : Bool) → pick b (go_on p (p.sum * 128 + (y - 128))) (ended p (p.sum * 128 + y)) ≡ Bad
      go true = go_not (p.sum * 128 + (y - 128)) (λ i j. omega arith)
      go false = end_not (p.sum * 128 + y) (λ i j. omega arith)

module _ (next : ℕ → Next) where
  over : (k : ℕ) (p : Partial) (at : ℕ) → 5 ≤ p.digits → magnitude next k p at ≡ None
  unfolding magnitude
  over zero p at h = refl
  over (suc k) p at h = go (next at)
    where
      go : (x : Next) → after x (λ y q. settle (further_step p y) q (λ r. magnitude next k r q)) ≡ None
      go (byte y q) = rw (full p y h)
      go end = refl

  same : (t : Step) (at : ℕ) (f g : Partial → Option Found) → ((p : Partial) → t ≡ More p → f p ≡ g p) → settle t at f ≡ settle t at g
  same (Number x) at f g h = refl
  same (More p) at f g h = h p refl
  same Bad at f g h = refl

  -- more bytes than may be asked for make no difference
  agree : (k j : ℕ) (p : Partial) (at : ℕ) → 5 - p.digits ≤ k → 5 - p.digits ≤ j → magnitude next k p at ≡ magnitude next j p at
  unfolding magnitude
  agree zero j p at h i = sym (over j p at (omega arith))
  agree (suc k) zero p at h i = over (suc k) p at (omega arith)
  agree (suc k) (suc j) p at h i = go (next at) (λ r q. agree k j r q)
    where
      go :
          (x : Next) → ((r : Partial) (q : ℕ) → 5 - r.digits ≤ k → 5 - r.digits ≤ j → magnitude next k r q ≡ magnitude next j r q) →
          after x (λ y q. settle (further_step p y) q (λ r. magnitude next k r q)) ≡ after x (λ y q. settle (further_step p y) q (λ r. magnitude next j r q))
      go (byte y q) f =
          same (further_step p y) q (λ r. magnitude next k r q) (λ r. magnitude next j r q)
          (λ r e. let l : room (further_step p y) ≡ 5 - r.digits = ap room e in f r q (omega (arith, less p y)) (omega (arith, less p y)))
      go end f = refl

  -- what a step comes to at a position
  unfoldable pub outcome : Step → ℕ → Option Found
  outcome t at = settle t at (λ p. magnitude next (5 - p.digits) p at)

  pub is_number : (x at : ℕ) → outcome (Number x) at ≡ found x at
  unfolding outcome
  is_number x at = refl

  pub is_bad : (at : ℕ) → outcome Bad at ≡ None
  unfolding outcome
  is_bad at = refl

  asked : (p : Partial) (at y q : ℕ) → next at ≡ byte y q → magnitude next 5 p at ≡ settle (further_step p y) q (λ r. magnitude next 4 r q)
  unfolding magnitude
  asked p at y q e = rw e

  lacked : (p : Partial) (at : ℕ) → next at ≡ end → magnitude next 5 p at ≡ None
  unfolding magnitude
  lacked p at e = rw e

  pub asks : (p : Partial) (at y q : ℕ) → next at ≡ byte y q → outcome (More p) at ≡ outcome (further_step p y) q
  unfolding outcome
  asks p at y q e =
      agree (5 - p.digits) 5 p at (omega arith) (omega arith)
      ∙ asked p at y q e
      ∙ same (further_step p y) q (λ r. magnitude next 4 r q) (λ r. magnitude next (5 - r.digits) r q)
      (λ r f. let l : room (further_step p y) ≡ 5 - r.digits = ap room f in agree 4 (5 - r.digits) r q (omega (arith, less p y)) (omega arith))

  pub lacks : (p : Partial) (at : ℕ) → next at ≡ end → outcome (More p) at ≡ None
  unfolding outcome
  lacks p at e = agree (5 - p.digits) 5 p at (omega arith) (omega arith) ∙ lacked p at e

  pub begins : (at y q : ℕ) → next at ≡ byte y q → read_code next at ≡ outcome (first_step y) q
  unfolding read_code outcome
  begins at y q e =
      rw e
      (same (first_step y) q (λ r. magnitude next 5 r q) (λ r. magnitude next (5 - r.digits) r q)
      (λ r f. agree 5 (5 - r.digits) r q (omega arith) (omega arith)))

  pub begins_not : (at : ℕ) → next at ≡ end → read_code next at ≡ None
  unfolding read_code
  begins_not at e = rw e

-- the bytes of a list

pub next_byte : (s : List ℕ) (at : ℕ) → at < length s → bytes_next s at ≡ byte (get_or s at 0) (at + 1)
unfolding bytes_next
next_byte s at h = rw (lt-leb (length s) at h)

pub next_end : (s : List ℕ) (at : ℕ) → length s ≤ at → bytes_next s at ≡ end
unfolding bytes_next
next_end s at h = rw (le-leb (length s) at h)
