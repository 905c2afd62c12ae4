-- A code that is read is the one code of its number. Assumes nothing.
use Prim.Native.Nat.{ℕ, zero, suc, ◌+◌, ◌-◌, ◌*◌, ◌/◌, ◌%◌, ◌^◌, ◌≤◌, ◌<◌}
use mathlib.Core.Path.{◌≡◌, refl, sym, ap, ◌∙◌}
use mathlib.Core.List.{List, [], ◌∷◌, ◌++◌}
use mathlib.Core.Bool.{Bool, true, false}
use mathlib.Core.Logic.{by_cases}
use native.Mathlib.Omega.{arith}
use native.Mathlib.Numerals.{add-one}
use native.Mathlib.Nat.{pow-suc}
use native.Mathlib.Decide.{dec_le}
use lib.ListN.{length, get_or, take, drop}
use lib.Seq.{drop-cons}
use borrow.Author.Tests.{le-leb, lt-leb, ne_eqb}
use Rattle.wire.specs.Bytes.{Bytes}
use Rattle.m32.specs.M32.{bases, signed, begun, first_step, go_on, ended, Next, found, byte, end, bytes_next, Numbers, read_code, read_codes, reached, continued, sevens, payload, wide, code_of, codes}
use Rattle.m32.specs.Back.{Words, OnlyBytes, Stands, OneCode, CodesAlone, TakenBytes}
use Rattle.m32.specs.declared.Partial.{Partial}
use Rattle.m32.specs.declared.Step.{Step}
use Rattle.m32.specs.declared.Step.TheVariants.{Number, More}
use Rattle.std.specs.Prelude.{Option, Some, None}
use Rattle.m32.specs.declared.Found.{Found}
use Rattle.m32.proofs.StepLaws.{base_least, go_on_lem, go_not, end_at, end_not, more_step, last_step, outcome, is_number, is_bad, asks, lacks, begins, begins_not, next_byte, next_end}
use Rattle.m32.proofs.CodeLaws.{plus, minus, code_small, code_lowest, code_plus, code_minus}
use Rattle.m32.proofs.BackLaws.{number_back}

-- bytes that stand in a source, one after the other

abbrev Walk : (ℕ → Next) → ℕ → List ℕ → ℕ → Type 0
Walk next p [] q = p ≡ q
Walk next p (y ∷ ys) q = (r : ℕ) × ((next p ≡ byte y r) × Walk next r ys q)

module _ (next : ℕ → Next) where
  one_more_lem : (xs : List ℕ) (p a y b : ℕ) → Walk next p xs a → next a ≡ byte y b → Walk next p (xs ++ (y ∷ [])) b
  one_more_lem [] p a y b w e = (b, (ap next w ∙ e, refl))
  one_more_lem (x ∷ xs) p a y b w e = (w.0, (w.1.0, one_more_lem xs w.0 a y b w.1.1 e))

  joined : (xs ys : List ℕ) (p a b : ℕ) → Walk next p xs a → Walk next a ys b → Walk next p (xs ++ ys) b
  joined [] ys p a b w v = rw w v
  joined (x ∷ xs) ys p a b w v = (w.0, (w.1.0, joined xs ys w.0 a b w.1.1 v))

  abbrev behind_first : ℕ → (ℕ → ℕ) → ℕ → ℕ
  behind_first p f zero = p
  behind_first p f (suc i) = f i

  pub stands : (ys : List ℕ) (p q : ℕ) → Walk next p ys q → Stands next p ys q
  stands [] p q w = record { at = λ i. p; first = refl; behind = w; gives = record { each = λ i h. absurd (omega arith) } }
  stands (y ∷ ys) p q w = go (stands ys w.0 q w.1.1)
    where
      go : Stands next w.0 ys q → Stands next p (y ∷ ys) q
      go s =
          record {
            at = behind_first p s.at;
            first = refl;
            behind = s.behind;
            gives = record { each = each };
          }
        where
          each : (i : ℕ) → i < length (y ∷ ys) → next (behind_first p s.at i) ≡ byte (get_or (y ∷ ys) i 0) (behind_first p s.at (i + 1))
          each zero h = w.1.0 ∙ ap (byte y) (sym s.first)
          each (suc i) h =
              let e : suc i + 1 ≡ suc (i + 1) = omega arith in
              rw e (s.gives.each i (omega arith))

-- what a code comes to

abbrev is_found : Option Found → ℕ
is_found (Some f) = 1
is_found None = 0

abbrev value_of : Option Found → ℕ
value_of (Some f) = f.x
value_of None = 0

abbrev place_of : Option Found → ℕ
place_of (Some f) = f.at
place_of None = 0

none : {x q : ℕ} → None ≡ found x q → ⊥
none e = let z : ◌≡◌ {A = ℕ} 0 1 = ap is_found e in omega arith

-- how many bytes of a magnitude are followed by another, by what they hold above their base
continues : (k v : ℕ) → k ≤ 4 → v < 128 ^ suc k → continued (v + get_or bases k 0) ≡ k
unfolding continued reached
continues zero v h l = rw (lt-leb 255 (v + 127) (omega arith))
continues (suc zero) v h l = rw (le-leb 255 (v + 255) (omega arith), lt-leb 16639 (v + 255) (omega arith))
continues (suc (suc zero)) v h l =
    rw (le-leb 255 (v + 16639) (omega arith), le-leb 16639 (v + 16639) (omega arith), lt-leb 2113791 (v + 16639) (omega arith))
continues (suc (suc (suc zero))) v h l =
    rw (
      le-leb 255 (v + 2113791) (omega arith),
      le-leb 16639 (v + 2113791) (omega arith),
      le-leb 2113791 (v + 2113791) (omega arith),
      lt-leb 270549247 (v + 2113791) (omega arith),
    )
continues (suc (suc (suc (suc zero)))) v h l =
    rw (
      le-leb 255 (v + 270549247) (omega arith),
      le-leb 16639 (v + 270549247) (omega arith),
      le-leb 2113791 (v + 270549247) (omega arith),
      le-leb 270549247 (v + 270549247) (omega arith),
    )
continues (suc (suc (suc (suc (suc k))))) v h l = absurd (omega arith)

is_wide : (k v : ℕ) → k ≤ 4 → v < 128 ^ suc k → wide (v + get_or bases k 0) ≡ payload k v
unfolding wide
is_wide k v h l =
    let e : v + get_or bases k 0 - get_or bases k 0 ≡ v = omega arith in
    rw (continues k v h l, e)

-- a magnitude that is read from p on
record Magnitude (next : ℕ → Next) (n : Bool) (p x q : ℕ) : Type 0 where
  m : ℕ
  least : 127 ≤ m
  most : m ≤ 2147483647
  is : signed n m ≡ x
  walk : Walk next p (wide m) q

abbrev part : Bool → ℕ → ℕ → Partial
part n k v = record { negative = n; digits = k; sum = v }

module _ (next : ℕ → Next) (n : Bool) (p x q : ℕ) where
  -- k bytes of it are read, which hold v, and the next is its last
  last_read :
      (k v a y b : ℕ) → k ≤ 4 → v < 128 ^ k → Walk next p (sevens k v) a → next a ≡ byte y b → y < 128 →
      outcome next (More (part n k v)) a ≡ found x q → Magnitude next n p x q
  unfolding payload
  last_read k v a y b h i w f l e =
      by_cases (dec_le (v * 128 + y + get_or bases k 0) 2147483647)
      (λ u.
      let z : found (signed n (v * 128 + y + get_or bases k 0)) b ≡ found x q =
      sym (is_number next _ b) ∙ ap (λ (t : Step). outcome next t b) (sym (end_at (part n k v) (v * 128 + y) h u)) ∙ s in
      let o : b ≡ q = ap place_of z in
      record {
        m = v * 128 + y + get_or bases k 0;
        least = omega (arith, base_least k h);
        most = u;
        is = ap value_of z;
        walk = rw (is_wide k (v * 128 + y) h (omega arith), d, r, ← o) (one_more_lem next (sevens k v) p a y b w f);
      })
      (λ u. absurd (none (sym (is_bad next b) ∙ ap (λ (t : Step). outcome next t b) (sym (end_not (part n k v) (v * 128 + y) (λ c g. u g))) ∙ s)))
    where
      s : outcome next (ended (part n k v) (v * 128 + y)) b ≡ found x q
      s = ap (λ (t : Step). outcome next t b) (sym (last_step (part n k v) y l)) ∙ sym (asks next (part n k v) a y b f) ∙ e

      pw : 128 ^ suc k ≡ 128 ^ k * 128
      pw = pow-suc 128 k

      d : (v * 128 + y) / 128 ≡ v
      d = omega arith

      r : (v * 128 + y) % 128 ≡ y
      r = omega arith

  -- or another follows it
  more_read :
      (k v a y b : ℕ) → next a ≡ byte y b → 128 ≤ y → y < 256 → v < 128 ^ k → Walk next p (sevens k v) a →
      outcome next (More (part n k v)) a ≡ found x q →
      (k ≤ 3) × ((v * 128 + (y - 128) < 128 ^ suc k)
      × (Walk next p (sevens (suc k) (v * 128 + (y - 128))) b × (outcome next (More (part n (suc k) (v * 128 + (y - 128)))) b ≡ found x q)))
  unfolding sevens
  more_read k v a y b f l h i w e =
      by_cases (dec_le k 3)
      (λ c.
      by_cases (dec_le (v * 128 + (y - 128)) 2147483647)
      (λ u. (
        c,
        (
          omega arith,
          (
            rw (d, r) (one_more_lem next (sevens k v) p a y b w f),
            rw (← add-one k) (ap (λ (t : Step). outcome next t b) (sym (go_on_lem (part n k v) (v * 128 + (y - 128)) c u)) ∙ s),
          ),
        ),
      ))
      (λ u. absurd (bad (λ i j. u j))))
      (λ c. absurd (bad (λ i j. c i)))
    where
      s : outcome next (go_on (part n k v) (v * 128 + (y - 128))) b ≡ found x q
      s = ap (λ (t : Step). outcome next t b) (sym (more_step (part n k v) y l)) ∙ sym (asks next (part n k v) a y b f) ∙ e

      bad : (k ≤ 3 → v * 128 + (y - 128) ≤ 2147483647 → ⊥) → ⊥
      bad g = none (sym (is_bad next b) ∙ ap (λ (t : Step). outcome next t b) (sym (go_not (part n k v) (v * 128 + (y - 128)) g)) ∙ s)

      pw : 128 ^ suc k ≡ 128 ^ k * 128
      pw = pow-suc 128 k

      d : (v * 128 + (y - 128)) / 128 ≡ v
      d = omega arith

      r : 128 + (v * 128 + (y - 128)) % 128 ≡ y
      r = omega arith

  module _ (oct : OnlyBytes next) where
    reads :
        (j k v a : ℕ) → j + k ≡ 4 → v < 128 ^ k → Walk next p (sevens k v) a → outcome next (More (part n k v)) a ≡ found x q →
        Magnitude next n p x q
    reads zero k v a h i w e = go (next a) refl
      where
        go : (z : Next) → next a ≡ z → Magnitude next n p x q
        go end f = absurd (none (sym (lacks next (part n k v) a f) ∙ e))
        go (byte y b) f =
            by_cases (dec_le 128 y) (λ l. absurd (omega (arith, (more_read k v a y b f l (oct.small a y b f) i w e).0)))
            (λ l. last_read k v a y b (omega arith) i w f (omega arith) e)
    reads (suc j) k v a h i w e = go (next a) refl (reads j (suc k))
      where
        go :
            (z : Next) → next a ≡ z →
            ((u b : ℕ) → j + suc k ≡ 4 → u < 128 ^ suc k → Walk next p (sevens (suc k) u) b → outcome next (More (part n (suc k) u)) b ≡ found x q →
            Magnitude next n p x q) →
            Magnitude next n p x q
        go end f g = absurd (none (sym (lacks next (part n k v) a f) ∙ e))
        go (byte y b) f g =
            by_cases (dec_le 128 y)
            (λ l. let o = more_read k v a y b f l (oct.small a y b f) i w e in g (v * 128 + (y - 128)) b (omega arith) o.1.0 o.1.1.0 o.1.1.1)
            (λ l. last_read k v a y b (omega arith) i w f (omega arith) e)

-- a code

module _ (next : ℕ → Next) (oct : OnlyBytes next) (p x q : ℕ) (e : read_code next p ≡ found x q) where
  abbrev Only : Type 0
  Only = (x < 4294967296) × Walk next p (code_of x) q

  -- of one byte
  only_one : (y b z : ℕ) → next p ≡ byte y b → first_step y ≡ Number z → z < 4294967296 → code_of z ≡ y ∷ [] → Only
  only_one y b z f g h c =
      let r : found z b ≡ found x q =
      sym (is_number next z b) ∙ ap (λ (t : Step). outcome next t b) (sym g) ∙ sym (begins next p y b f) ∙ e in
      let i : z ≡ x = ap value_of r in
      (omega arith, rw (← i, c) (b, (f, ap place_of r)))

  -- of a magnitude
  only_wide :
      (y b : ℕ) (n : Bool) → next p ≡ byte y b → first_step y ≡ More (begun n) →
      ((m : ℕ) → 127 ≤ m → m ≤ 2147483647 → (signed n m < 4294967296) × (code_of (signed n m) ≡ y ∷ wide m)) → Only
  unfolding sevens
  only_wide y b n f g c =
      let r = reads next n b x q oct 4 0 0 b refl (omega arith) refl (ap (λ (t : Step). outcome next t b) (sym g) ∙ sym (begins next p y b f) ∙ e) in
      let d = c r.m r.least r.most in
      let i : signed n r.m ≡ x = r.is in
      (rw (← i) d.0, rw (← i, d.1) (b, (f, r.walk)))

  only : Only
  unfolding first_step
  only = go (next p) refl
    where
      small : (y b : ℕ) → next p ≡ byte y b → y < 256 → 129 < y → Only
      small y b f h k =
          let u : 256 - y ≡ 4294967296 - (y + 4294967040) = omega arith in
          let v : (y + 4294967040) % 256 ≡ y = omega arith in
          only_one y b (y + 4294967040) f (rw (lt-leb y 126 (omega arith), ne_eqb y 127 (λ z. omega arith), ne_eqb y 128 (λ z. omega arith), ne_eqb y 129 (λ z. omega arith))) (omega arith)
          (code_small (y + 4294967040) (256 - y) (u ∙ sym (minus (y + 4294967040) (omega arith))) (omega arith) ∙ ap (λ (w : ℕ). w ∷ []) v)

      above :
          (m : ℕ) → 127 ≤ m → m ≤ 2147483647 → (m < 4294967296) × (code_of m ≡ 127 ∷ wide m)
      above m h k = (omega arith, code_plus m m (sym (plus m k)) (omega arith) (λ z. omega arith) k)

      below :
          (m : ℕ) → 127 ≤ m → m ≤ 2147483647 → (4294967296 - m < 4294967296) × (code_of (4294967296 - m) ≡ 129 ∷ wide m)
      below m h k =
          let u : m ≡ 4294967296 - (4294967296 - m) = omega arith in
          (omega arith, code_minus (4294967296 - m) m (u ∙ sym (minus (4294967296 - m) (omega arith))) (omega arith) (λ z. omega arith) (omega arith))

      go : (z : Next) → next p ≡ z → Only
      go end f = absurd (none (sym (begins_not next p f) ∙ e))
      go (byte y b) f =
          by_cases (dec_le y 126)
          (λ h.
          let v : y % 256 ≡ y = omega arith in
          only_one y b y f (rw (le-leb y 126 h)) (omega arith) (code_small y y (sym (plus y (omega arith))) h ∙ ap (λ (w : ℕ). w ∷ []) v))
          (λ a.
          by_cases (dec_le y 127) (λ i. let h : y ≡ 127 = omega (arith, a) in only_wide y b false f (rw h) (rw h above))
          (λ c.
          by_cases (dec_le y 128)
          (λ i.
          let h : y ≡ 128 = omega (arith, c) in
          only_one y b 2147483648 f (rw h) (omega arith) (rw h (code_lowest 2147483648 2147483648 (sym (minus 2147483648 (omega arith))) refl)))
          (λ d.
          by_cases (dec_le y 129) (λ i. let h : y ≡ 129 = omega (arith, d) in only_wide y b true f (rw h) (rw h below))
          (λ g. small y b f (oct.small p y b f) (omega arith)))))

pub one_code : OneCode
one_code next oct p x q =
    record {
      is_read = λ h s. rw (← s.first, ← s.behind) (number_back next s.at x h s.gives);
      is_code = λ e. ((only next oct p x q e).0, stands next (code_of x) p q (only next oct p x q e).1);
    }

-- numbers one after the other

record Run (next : ℕ → Next) (n p : ℕ) (r : Numbers) : Type 0 where
  words : Words r.numbers
  walk : Walk next p (codes r.numbers) r.behind
  few : length r.numbers ≤ n
  no_more_lem : length r.numbers < n → read_code next r.behind ≡ None

module _ (next : ℕ → Next) (oct : OnlyBytes next) where
  runs : (n p : ℕ) → Run next n p (read_codes next n p)
  unfolding read_codes codes
  runs zero p = record { words = record { small = λ i. omega arith }; walk = refl; few = omega arith; no_more_lem = λ h. absurd (omega arith) }
  runs (suc n) p = go (read_code next p) refl (runs n)
    where
      go : (z : Option Found) → read_code next p ≡ z → ((q : ℕ) → Run next n q (read_codes next n q)) → Run next (suc n) p (read_codes next (suc n) p)
      go None e f =
          rw e (record { words = record { small = λ i. omega arith }; walk = refl; few = omega arith; no_more_lem = λ h. e })
      go (Some a) e f =
          let r = f a.at in
          let o = only next oct p a.x a.at e in
          rw e
          (record {
            words = record { small = each o.0 r.words };
            walk = joined next (code_of a.x) (codes (read_codes next n a.at).numbers) p a.at (read_codes next n a.at).behind o.1 r.walk;
            few = omega (arith, r.few);
            no_more_lem = λ h. r.no_more_lem (omega arith);
          })
        where
          each : a.x < 4294967296 → Words (read_codes next n a.at).numbers → (i : ℕ) → get_or (a.x ∷ (read_codes next n a.at).numbers) i 0 < 4294967296
          each h w zero = h
          each h w (suc i) = w.small i

pub codes_alone : CodesAlone
codes_alone next oct n p =
    let r = runs next oct n p in
    record { words = r.words; stand = stands next (codes (read_codes next n p).numbers) p (read_codes next n p).behind r.walk; few = r.few; no_more_lem = r.no_more_lem }

-- a list of bytes

module _ (s : List ℕ) where
  byte_there : (p y q : ℕ) → bytes_next s p ≡ byte y q → (p < length s) × ((get_or s p 0 ≡ y) × (p + 1 ≡ q))
  byte_there p y q e =
      by_cases (dec_le (length s) p) (λ h. absurd (no_byte (sym (next_end s p h) ∙ e)))
      (λ h.
      let f : byte (get_or s p 0) (p + 1) ≡ byte y q = sym (next_byte s p (omega arith)) ∙ e in
      (omega arith, (ap octet f, ap behind_of f)))
    where
      is_byte : Next → ℕ
      is_byte (byte y q) = 1
      is_byte end = 0

      octet : Next → ℕ
      octet (byte y q) = y
      octet end = 0

      behind_of : Next → ℕ
      behind_of (byte y q) = q
      behind_of end = 0

      no_byte : end ≡ byte y q → ⊥
      no_byte f = let z : ◌≡◌ {A = ℕ} 0 1 = ap is_byte f in omega arith

  taken : (ys : List ℕ) (p q : ℕ) → Walk (bytes_next s) p ys q → (q ≡ p + length ys) × (take (length ys) (drop p s) ≡ ys)
  taken [] p q w = (omega arith, refl)
  taken (y ∷ ys) p q w =
      let b = byte_there p y w.0 w.1.0 in
      let r = taken ys w.0 q w.1.1 in
      let i : w.0 ≡ suc p = omega arith in
      (omega arith, rw (drop-cons s p 0 b.0, b.1.0) (ap (λ (zs : List ℕ). y ∷ zs) (rw i at r.1)))

  octets : Bytes s → OnlyBytes (bytes_next s)
  octets b = record { small = λ p y q e. rw (← (byte_there p y q e).1.0) (b.small p) }

  from_start : (ys : List ℕ) (n : ℕ) → Walk (bytes_next s) 0 ys n → take n s ≡ ys
  from_start ys n w =
      let r = taken ys 0 n w in
      let i : n ≡ length ys = omega arith in rw i r.1

pub taken_bytes : TakenBytes
taken_bytes s b =
    record {
      code = λ x n e. from_start s (code_of x) n (only (bytes_next s) (octets s b) 0 x n e).1;
      all = λ n. from_start s _ _ (runs (bytes_next s) (octets s b) n 0).walk;
    }
