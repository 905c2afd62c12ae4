-- The entries one behind the other, and the fields at fixed places, as they are written. Assumes nothing.
use Prim.Native.Nat.{ℕ, min, ◌+◌, ◌≤◌, ◌<◌}
use mathlib.Core.Path.{◌≡◌, refl, sym, ap, ◌∙◌}
use mathlib.Core.List.{List, [], ◌∷◌, ◌++◌}
use mathlib.Core.Bool.{true}
use native.Mathlib.Omega.{arith}
use native.Mathlib.Numerals.{add-one}
use lib.ListN.{length, get_or, length-append}
use Rattle.wire.specs.Bytes.{bytes_of, put, zeros}
use Rattle.wire.proofs.ByteLaws.{bytes_length, zeros_length}
use Rattle.wire.proofs.PutLaws.{length_put, put_nil, first, then}
use Rattle.wire.proofs.TestLaws.{means, sum_none, sum_more}
use Rattle.fronts.specs.declared.entries.Numbers.{Numbers}
use Rattle.fronts.specs.Front.{strung, entry_length, entry_of}
use Rattle.fronts.specs.Given.{number_of, texts_length, text_at, stated_by, texts_short}
use Rattle.fronts.specs.Writing.{numbers_at, Ready, entries_bytes, AllReady, sides_bytes, fixed_bytes}
use Rattle.fronts.proofs.EntryLaws.{strung_more, strung_within, entry_length_lem}

-- the bytes of an element's strings

pub texts_are : (es : List ℕ) (e : ℕ) (x : Numbers) → x ≡ numbers_at es e → x.name + x.label + x.description + x.unit ≡ texts_length es e
unfolding texts_length numbers_at
texts_are es e x p = rw p

pub texts_small :
    (es : List ℕ) (e : ℕ) (x : Numbers) → x ≡ numbers_at es e → texts_short es e ≡ true →
    (x.name ≤ 65535) × ((x.label ≤ 65535) × ((x.description ≤ 65535) × (x.unit ≤ 65535)))
unfolding texts_short numbers_at
texts_small es e x p h =
    let a = means _ h in
    let n : x.name ≡ number_of es e 2 = rw p in
    let l : x.label ≡ number_of es e 3 = rw p in
    let d : x.description ≡ number_of es e 4 = rw p in
    let u : x.unit ≡ number_of es e 5 = rw p in
    (omega (arith, a.0), (omega (arith, a.1.0), (omega (arith, a.1.1.0), omega (arith, a.1.1.1.0))))

-- where a writer stands behind the first e entries

pub record Lined (d : List ℕ) (at : ℕ) (es ts l : List ℕ) (p from e : ℕ) : Type 0 where
  pub place : p ≡ at + length (entries_bytes es ts e)
  pub given : from ≡ text_at es e
  pub kept : length l ≡ length d
  pub is : l ≡ put d at (entries_bytes es ts e)

pub lined_none : (d : List ℕ) (at : ℕ) (es ts : List ℕ) → Lined d at es ts d at 0 0
unfolding entries_bytes strung text_at
lined_none d at es ts = record { place = omega arith; given = sym (sum_none (texts_length es)); kept = refl; is = sym (put_nil d at) }

entries_more : (es ts : List ℕ) (e : ℕ) → length (entries_bytes es ts (e + 1)) ≡ length (entries_bytes es ts e) + entry_length (stated_by es ts e)
unfolding entries_bytes
entries_more es ts e = strung_more e (λ i. entry_of (stated_by es ts i)) ∙ omega (arith, entry_length_lem (stated_by es ts e))

entries_within : (es ts : List ℕ) (n e : ℕ) → e ≤ n → length (entries_bytes es ts e) ≤ length (entries_bytes es ts n)
unfolding entries_bytes
entries_within es ts n e h = strung_within n (λ i. entry_of (stated_by es ts i)) e h

module _
    (d : List ℕ) (at : ℕ) (es ts l : List ℕ) (p from e n : ℕ) (w : Lined d at es ts l p from e) (r : AllReady es ts n) (h : e < n)
    (k : at + length (entries_bytes es ts n) ≤ length d)
  where
    pub lined_fits : (p + entry_length (stated_by es ts e) ≤ length d) × (p + entry_length (stated_by es ts e) ≤ length l)
    lined_fits =
        let a = entries_within es ts n (e + 1) (omega arith) in
        (omega (arith, a, entries_more es ts e, w.place), omega (arith, a, entries_more es ts e, w.place, w.kept))

    pub lined_ready : Ready es ts e from
    lined_ready = rw w.given (r.each e h)

    pub lined_more :
        (m : List ℕ) (q t : ℕ) → m ≡ put l p (entry_of (stated_by es ts e)) → q ≡ p + entry_length (stated_by es ts e) → t ≡ texts_length es e →
        Lined d at es ts m q (from + t) (e + 1)
    unfolding entries_bytes strung text_at
    lined_more m q t u v x =
        let f = lined_fits in
        let z =
        then (first w.is refl) (entry_of (stated_by es ts e)) (entry_length (stated_by es ts e)) p u (entry_length_lem (stated_by es ts e)) w.place
        (omega (arith, f.0, w.place)) in
        record {
          place = omega (arith, w.place, entries_more es ts e);
          given = omega (arith, w.given, sum_more e (texts_length es));
          kept = ap length u ∙ length_put l p (entry_of (stated_by es ts e)) ∙ w.kept;
          is = rw (add-one e) z.is;
        }

pub lined_all :
    (d : List ℕ) (at : ℕ) (es ts l : List ℕ) (p from e n : ℕ) → Lined d at es ts l p from e → e ≤ n → n ≤ e →
    (p ≡ at + length (entries_bytes es ts n)) × (l ≡ put d at (entries_bytes es ts n))
lined_all d at es ts l p from e n w h k = let q : e ≡ n = omega arith in rw (← q) (w.place, w.is)

-- the block, the sides, the fields

pub sides_put :
    (d e f g l : List ℕ) (at a b c i : ℕ) → e ≡ put d at (bytes_of 4 a) → f ≡ put e (at + 4) (bytes_of 4 b) → g ≡ put f (at + 8) (bytes_of 4 c) →
    l ≡ put g (at + 12) (bytes_of 4 i) → at + 16 ≤ length d → l ≡ put d at (sides_bytes a b c i)
unfolding sides_bytes
sides_put d e f g l at a b c i p q r s h =
    let w1 = first p (bytes_length 4 a) in
    let w2 = then w1 (bytes_of 4 b) 4 (at + 4) q (bytes_length 4 b) refl (omega arith) in
    let w3 = then w2 (bytes_of 4 c) 4 (at + 8) r (bytes_length 4 c) refl (omega arith) in
    let w4 = then w3 (bytes_of 4 i) 4 (at + 12) s (bytes_length 4 i) refl (omega arith) in
    w4.is

sides_length : (a b c i : ℕ) → length (sides_bytes a b c i) ≡ 16
unfolding sides_bytes
sides_length a b c i =
    length-append (bytes_of 4 a ++ bytes_of 4 b ++ bytes_of 4 c) (bytes_of 4 i)
    ∙ omega (arith, length-append (bytes_of 4 a ++ bytes_of 4 b) (bytes_of 4 c), length-append (bytes_of 4 a) (bytes_of 4 b), bytes_length 4 a, bytes_length 4 b, bytes_length 4 c, bytes_length 4 i)

pub fixed_put :
    (d e f g h i j l : List ℕ) (at : ℕ) (u : List ℕ) (a b c k flag n : ℕ) → length u ≡ 16 → e ≡ put d at u → f ≡ put e (at + 16) (zeros 64) →
    g ≡ put f (at + 80) (sides_bytes a b c k) → h ≡ put g (at + 96) (zeros 8) → i ≡ put h (at + 104) (flag ∷ []) → j ≡ put i (at + 105) (zeros 151) →
    l ≡ put j (at + 256) (bytes_of 4 n) → at + 260 ≤ length d → l ≡ put d at (fixed_bytes u a b c k flag n)
unfolding fixed_bytes
fixed_put d e f g h i j l at u a b c k flag n m p q r s t v w z =
    let w1 = first p m in
    let w2 = then w1 (zeros 64) 64 (at + 16) q (zeros_length 64) refl (omega arith) in
    let w3 = then w2 (sides_bytes a b c k) 16 (at + 80) r (sides_length a b c k) refl (omega arith) in
    let w4 = then w3 (zeros 8) 8 (at + 96) s (zeros_length 8) refl (omega arith) in
    let w5 = then w4 (flag ∷ []) 1 (at + 104) t refl refl (omega arith) in
    let w6 = then w5 (zeros 151) 151 (at + 105) v (zeros_length 151) refl (omega arith) in
    let w7 = then w6 (bytes_of 4 n) 4 (at + 256) w (bytes_length 4 n) refl (omega arith) in
    w7.is

pub numbers_put :
    (d l u g : List ℕ) (a b c e x f n : ℕ) → l ≡ put d 24 (fixed_bytes u a b c e f n) → a ≡ get_or g 0 0 → b ≡ get_or g 1 0 → c ≡ get_or g 2 0 → e ≡ get_or g 3 0 →
    x ≡ get_or g 4 0 → f ≡ min x 255 → l ≡ put d 24 (fixed_bytes u (get_or g 0 0) (get_or g 1 0) (get_or g 2 0) (get_or g 3 0) (min (get_or g 4 0) 255) n)
numbers_put d l u g a b c e x f n p i j k m o q = p ∙ rw (q, o, i, j, k, m)
