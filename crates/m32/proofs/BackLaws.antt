-- Every 32-bit number comes back, and no two sequences of numbers share their bytes. Assumes nothing.
use Prim.Native.Nat.{ℕ, zero, suc, ◌+◌, ◌-◌, ◌*◌, ◌/◌, ◌%◌, ◌^◌, ◌≤◌, ◌<◌}
use mathlib.Core.Path.{◌≡◌, refl, sym, ap, ap₂, ◌∙◌}
use mathlib.Core.List.{List, [], ◌∷◌, ◌++◌}
use mathlib.Core.Bool.{Bool, true, false}
use mathlib.Core.Logic.{by_cases}
use native.Mathlib.Omega.{arith}
use native.Mathlib.Numerals.{add-one}
use native.Mathlib.Nat.{pow-suc}
use native.Mathlib.Decide.{dec_le}
use lib.ListN.{length, get_or, drop, length-append, get_or-append}
use lib.Seq.{get_or-append-add, drop-append_seam}
use lib.Dec.{leb}
use borrow.Author.Tests.{leb-true, leb-false, le-leb, lt-leb, ne_eqb}
use Rattle.wire.specs.Pick.{pick}
use Rattle.m32.specs.M32.{bases, signed, begun, first_step, Next, found, byte, bytes_next, in_front, read_code, read_codes, absolute, reached, continued, sevens, payload, wide, code_of, codes}
use Rattle.m32.specs.Back.{Words, Gives, NumberBack, ComesBack, ReadBack, NoShare}
use Rattle.m32.specs.declared.Partial.{Partial}
use Rattle.m32.specs.declared.Step.{Step}
use Rattle.m32.specs.declared.Step.TheVariants.{Number, More}
use Rattle.std.specs.Prelude.{Option, Some, None}
use Rattle.m32.specs.declared.Found.{Found}
use Rattle.m32.proofs.StepLaws.{go_on_lem, end_at, more_step, last_step, outcome, is_number, asks, begins, begins_not, next_byte, next_end}
use Rattle.m32.proofs.CodeLaws.{plus, minus, code_small, code_lowest, code_plus, code_minus, sevens_length, wide_length}

-- bytes that a source gives in parts

module _ {next : ℕ → Next} {at : ℕ → ℕ} where
  pub gives_first : (xs ys : List ℕ) → Gives next at (xs ++ ys) → Gives next at xs
  gives_first xs ys g =
      record { each = λ i h. g.each i (rw length-append (omega arith)) ∙ ap (λ (y : ℕ). byte y (at (i + 1))) (get_or-append xs ys 0 i h) }

  pub gives_rest : (xs ys : List ℕ) → Gives next at (xs ++ ys) → Gives next (λ i. at (length xs + i)) ys
  gives_rest xs ys g =
      record {
        each = λ i h.
            let e : length xs + i + 1 ≡ length xs + (i + 1) = omega arith in
            g.each (length xs + i) (rw length-append (omega arith)) ∙ ap₂ (λ (y q : ℕ). byte y (at q)) (get_or-append-add xs ys i 0) e;
      }

  gives_head : {y : ℕ} {ys : List ℕ} → Gives next at (y ∷ ys) → next (at 0) ≡ byte y (at 1)
  gives_head g = g.each 0 (omega arith)

-- the bytes of a magnitude

-- k bytes are read, and their bits are v
abbrev part : Bool → ℕ → ℕ → Partial
part n k v = record { negative = n; digits = k; sum = v }

module _ (next : ℕ → Next) (n : Bool) where
  more_byte :
      (k v d a b : ℕ) → k ≤ 3 → v * 128 + d ≤ 2147483647 → next a ≡ byte (128 + d) b →
      outcome next (More (part n k v)) a ≡ outcome next (More (part n (suc k) (v * 128 + d))) b
  more_byte k v d a b h i g =
      let e : 128 + d - 128 ≡ d = omega arith in
      asks next (part n k v) a (128 + d) b g
      ∙ ap (λ (t : Step). outcome next t b)
      (more_step (part n k v) (128 + d) (omega arith) ∙ rw (e, go_on_lem (part n k v) (v * 128 + d) h i, add-one k))

  last_byte_lem :
      (k v d a b : ℕ) → k ≤ 4 → d < 128 → v * 128 + d + get_or bases k 0 ≤ 2147483647 → next a ≡ byte d b →
      outcome next (More (part n k v)) a ≡ found (signed n (v * 128 + d + get_or bases k 0)) b
  last_byte_lem k v d a b h i j g =
      asks next (part n k v) a d b g
      ∙ ap (λ (t : Step). outcome next t b) (last_step (part n k v) d i ∙ end_at (part n k v) (v * 128 + d) h j)
      ∙ is_number next _ b

  read_sevens :
      (k v : ℕ) (at : ℕ → ℕ) → k ≤ 4 → v < 128 ^ k → v < 268435456 → Gives next at (sevens k v) →
      outcome next (More (begun n)) (at 0) ≡ outcome next (More (part n k v)) (at k)
  unfolding sevens
  read_sevens zero v at h i j g = let e : v ≡ 0 = omega arith in rw e
  read_sevens (suc k) v at h i j g =
      let p : 128 ^ suc k ≡ 128 ^ k * 128 = pow-suc 128 k in
      let e : v / 128 * 128 + v % 128 ≡ v = omega arith in
      let l : length (sevens k (v / 128)) ≡ k = sevens_length k (v / 128) in
      let a : length (sevens k (v / 128)) + 0 ≡ k = omega arith in
      let b : length (sevens k (v / 128)) + 1 ≡ suc k = omega arith in
      let s : next (at k) ≡ byte (128 + v % 128) (at (suc k)) = rw (a, b) at (gives_head (gives_rest (sevens k (v / 128)) ((128 + v % 128) ∷ []) g)) in
      read_sevens k (v / 128) at (omega arith) (omega arith) (omega arith) (gives_first (sevens k (v / 128)) ((128 + v % 128) ∷ []) g)
      ∙ more_byte k (v / 128) (v % 128) (at k) (at (suc k)) (omega arith) (omega arith) s
      ∙ rw e

  read_payload :
      (k v : ℕ) (at : ℕ → ℕ) → k ≤ 4 → v < 128 ^ suc k → v + get_or bases k 0 ≤ 2147483647 → Gives next at (payload k v) →
      outcome next (More (begun n)) (at 0) ≡ found (signed n (v + get_or bases k 0)) (at (k + 1))
  unfolding payload
  read_payload k v at h i j g =
      let p : 128 ^ suc k ≡ 128 ^ k * 128 = pow-suc 128 k in
      let e : v / 128 * 128 + v % 128 ≡ v = omega arith in
      let l : length (sevens k (v / 128)) ≡ k = sevens_length k (v / 128) in
      let a : length (sevens k (v / 128)) + 0 ≡ k = omega arith in
      let s : next (at k) ≡ byte (v % 128) (at (k + 1)) = rw (a, l) at (gives_head (gives_rest (sevens k (v / 128)) ((v % 128) ∷ []) g)) in
      read_sevens k (v / 128) at h (omega arith) (omega arith) (gives_first (sevens k (v / 128)) ((v % 128) ∷ []) g)
      ∙ last_byte_lem k (v / 128) (v % 128) (at k) (at (k + 1)) h (omega arith) (rw e j) s
      ∙ rw e

-- of bases from b on, the first with k bytes and one: each is at most what the bytes of the one before it reach
abbrev Covers : ℕ → ℕ → List ℕ → Type 0
Covers k b [] = 4294967296 ≤ b + 128 ^ suc k
Covers k b (c ∷ cs) = (c ≤ b + 128 ^ suc k) × Covers (suc k) c cs

covered : Covers 0 (get_or bases 0 0) (drop 1 bases)
covered = (omega arith, (omega arith, (omega arith, (omega arith, omega arith))))

-- a magnitude lies in the range of its bytes: at or above its base, and less than their bits hold above it
pub record Range (bs : List ℕ) (m k j : ℕ) : Type 0 where
  pub few : j < length bs
  pub reaches : get_or bs j 0 ≤ m
  pub fits : m - get_or bs j 0 < 128 ^ suc (k + j)

in_range_lem : (cs : List ℕ) (m k b : ℕ) → Covers k b cs → b ≤ m → m < 4294967296 → Range (b ∷ cs) m k (reached m cs)
unfolding reached
in_range_lem [] m k b f h i = let e : k + 0 ≡ k = omega arith in record { few = omega arith; reaches = h; fits = rw e (omega arith) }
in_range_lem (c ∷ cs) m k b f h i = go (leb c m) refl (in_range_lem cs m (suc k) c f.1)
  where
    go : (t : Bool) → leb c m ≡ t → (c ≤ m → m < 4294967296 → Range (c ∷ cs) m (suc k) (reached m cs)) → Range (b ∷ c ∷ cs) m k (pick t (suc (reached m cs)) 0)
    go true g r =
        let s : Range (c ∷ cs) m (suc k) (reached m cs) = r (leb-true _ _ g) i in
        let e : k + suc (reached m cs) ≡ suc k + reached m cs = omega arith in
        record { few = omega (arith, s.few); reaches = s.reaches; fits = rw e s.fits }
    go false g r =
        let e : k + 0 ≡ k = omega arith in
        let u : m < c = leb-false _ _ g in
        record { few = omega arith; reaches = h; fits = rw e (omega (arith, f.0)) }

range : (m : ℕ) → 127 ≤ m → m < 4294967296 → Range bases m 0 (continued m)
unfolding continued
range m h k = in_range_lem (drop 1 bases) m 0 (get_or bases 0 0) covered h k

pub base_reached : (m k b : ℕ) → k ≡ continued m → b ≡ get_or bases k 0 → 127 ≤ m → m < 4294967296 → b ≤ m
base_reached m k b e f h l = rw (f, e) (range m h l).reaches

wide_back :
    (next : ℕ → Next) (n : Bool) (m : ℕ) (at : ℕ → ℕ) → 127 ≤ m → m ≤ 2147483647 → Gives next at (wide m) →
    outcome next (More (begun n)) (at 0) ≡ found (signed n m) (at (length (wide m)))
unfolding wide
wide_back next n m at h k g =
    let r : Range bases m 0 (continued m) = range m h (omega arith) in
    let z : 0 + continued m ≡ continued m = omega arith in
    let e : m - get_or bases (continued m) 0 + get_or bases (continued m) 0 ≡ m = omega (arith, r.reaches) in
    read_payload next n (continued m) (m - get_or bases (continued m) 0) at (omega (arith, r.few)) (rw z at r.fits) (rw e k) g ∙ rw (e, wide_length m)

-- numbers

small_step : (x : ℕ) → x < 4294967296 → absolute x ≤ 126 → first_step (x % 256) ≡ Number x
unfolding first_step
small_step x h k =
    by_cases (dec_le x 2147483647)
    (λ u. let y : x % 256 ≡ x = omega (arith, plus x u) in rw (y, le-leb x 126 (omega (arith, plus x u))))
    (λ w.
    let u : 2147483647 < x = omega arith in
    let a : 129 < x % 256 = omega (arith, minus x u) in
    let y : x % 256 + 4294967040 ≡ x = omega (arith, minus x u) in
    rw (lt-leb (x % 256) 126 (omega arith), ne_eqb (x % 256) 127 (λ q. omega arith), ne_eqb (x % 256) 128 (λ q. omega arith), ne_eqb (x % 256) 129 (λ q. omega arith), y))

module _ (next : ℕ → Next) (at : ℕ → ℕ) (x : ℕ) where
  -- a code of one byte, and one of a magnitude
  single : (y : ℕ) → code_of x ≡ y ∷ [] → first_step y ≡ Number x → Gives next at (code_of x) → read_code next (at 0) ≡ found x (at (length (code_of x)))
  single y e f g =
      rw e
      (begins next (at 0) y (at 1) (gives_head (rw e at g)) ∙ ap (λ (t : Step). outcome next t (at 1)) f ∙ is_number next x (at 1))

  several :
      (y : ℕ) (n : Bool) (m : ℕ) → code_of x ≡ y ∷ wide m → first_step y ≡ More (begun n) → 127 ≤ m → m ≤ 2147483647 → signed n m ≡ x →
      Gives next at (code_of x) → read_code next (at 0) ≡ found x (at (length (code_of x)))
  several y n m e f h k s g =
      let l : 1 + length (wide m) ≡ suc (length (wide m)) = omega arith in
      rw e
      (begins next (at 0) y (at 1) (gives_head (rw e at g))
      ∙ ap (λ (t : Step). outcome next t (at 1)) f
      ∙ wide_back next n m (λ i. at (1 + i)) h k (gives_rest (y ∷ []) (wide m) (rw e at g))
      ∙ rw (s, l))

pub number_back : NumberBack
unfolding first_step
number_back next at x h g =
    by_cases (dec_le (absolute x) 126) (λ u. single next at x (x % 256) (code_small x _ refl u) (small_step x h u) g)
    (λ u.
    by_cases (dec_le x 2147483647)
    (λ v.
    let e : absolute x ≡ x = plus x v in
    several next at x 127 false (absolute x) (code_plus x _ refl (omega arith) (λ q. omega arith) v) refl (omega arith) (omega arith) e g)
    (λ v.
    let e : absolute x ≡ 4294967296 - x = minus x (omega arith) in
    by_cases (dec_le x 2147483648)
    (λ w.
    let f : 2147483648 ≡ x = omega arith in
    single next at x 128 (code_lowest x _ refl (omega arith)) (ap Number f) g)
    (λ w.
    let f : 4294967296 - absolute x ≡ x = omega arith in
    several next at x 129 true (absolute x) (code_minus x _ refl (omega arith) (λ q. omega arith) (omega arith)) refl (omega arith) (omega arith) f g)))

-- sequences

pub words_tail : {x : ℕ} {xs : List ℕ} → Words (x ∷ xs) → Words xs
words_tail w = record { small = λ i. w.small (suc i) }

pub read_more :
    (next : ℕ → Next) (n x at q : ℕ) → read_code next at ≡ found x q → read_codes next (suc n) at ≡ in_front x (read_codes next n q)
unfolding read_codes
read_more next n x at q e = rw e

pub comes_back : ComesBack
unfolding codes read_codes
comes_back next at [] w g = refl
comes_back next at (x ∷ xs) w g =
    let z : length (code_of x) + 0 ≡ length (code_of x) = omega arith in
    let r : read_codes next (length xs) (at (length (code_of x))) ≡ record { numbers = xs; behind = at (length (code_of x) + length (codes xs)) } =
    rw z at (comes_back next (λ i. at (length (code_of x) + i)) xs (words_tail w) (gives_rest (code_of x) (codes xs) g)) in
    read_more next (length xs) x (at 0) (at (length (code_of x))) (number_back next at x (w.small 0) (gives_first (code_of x) (codes xs) g))
    ∙ rw (r, length-append (code_of x) (codes xs))

-- bytes at the start of a list
gives_list : (xs ys : List ℕ) → Gives (bytes_next (xs ++ ys)) (λ i. i) xs
gives_list xs ys = gives_first xs ys (record { each = λ i h. next_byte (xs ++ ys) i h })

pub read_back : ReadBack
read_back xs rest w = comes_back (bytes_next (codes xs ++ rest)) (λ i. i) xs w (gives_list (codes xs) rest)

front_back : (x : ℕ) (ys : List ℕ) → x < 4294967296 → read_code (bytes_next (code_of x ++ ys)) 0 ≡ found x (length (code_of x))
front_back x ys h = number_back (bytes_next (code_of x ++ ys)) (λ i. i) x h (gives_list (code_of x) ys)

abbrev is_found : Option Found → ℕ
is_found (Some f) = 1
is_found None = 0

abbrev value_of : Option Found → ℕ
value_of (Some f) = f.x
value_of None = 0

-- no bytes are not the codes of something
nothing : (y : ℕ) (ys : List ℕ) → y < 4294967296 → [] ≡ codes (y ∷ ys) → ⊥
unfolding codes
nothing y ys h e =
    let q : None ≡ found y (length (code_of y)) =
    sym (begins_not (bytes_next []) 0 (next_end [] 0 (omega arith))) ∙ ap (λ (s : List ℕ). read_code (bytes_next s) 0) e ∙ front_back y (codes ys) h in
    let z : ◌≡◌ {A = ℕ} 0 1 = ap is_found q in omega arith

pub no_share : NoShare
unfolding codes
no_share [] [] a b e = refl
no_share [] (y ∷ ys) a b e = absurd (nothing y ys (b.small 0) e)
no_share (x ∷ xs) [] a b e = absurd (nothing x xs (a.small 0) (sym e))
no_share (x ∷ xs) (y ∷ ys) a b e =
    let p : x ≡ y = ap value_of (sym (front_back x (codes xs) (a.small 0)) ∙ ap (λ (s : List ℕ). read_code (bytes_next s) 0) e ∙ front_back y (codes ys) (b.small 0)) in
    let f : code_of x ++ codes xs ≡ code_of x ++ codes ys = e ∙ ap (λ (z : ℕ). code_of z ++ codes ys) (sym p) in
    let q : codes xs ≡ codes ys =
    sym (drop-append_seam (code_of x) (codes xs)) ∙ ap (drop (length (code_of x))) f ∙ drop-append_seam (code_of x) (codes ys) in
    ap₂ ◌∷◌ p (no_share xs ys (words_tail a) (words_tail b) q)
