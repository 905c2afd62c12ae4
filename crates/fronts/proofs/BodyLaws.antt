-- What stands behind the entries, the header's body and the whole front, as they are written. Assumes nothing.
use Prim.Native.Nat.{ℕ, min, ◌+◌, ◌-◌, ◌/◌, ◌≤◌, ◌<◌}
use mathlib.Core.Path.{◌≡◌, refl, sym, ap, ◌∙◌}
use mathlib.Core.List.{List, ◌++◌, append_assoc}
use mathlib.Core.Bool.{true}
use native.Mathlib.Omega.{arith}
use native.Mathlib.Numerals.{add-one}
use lib.ListN.{length, get_or, length-append}
use Rattle.wire.specs.Tests.{sum_below}
use Rattle.wire.specs.Bytes.{part, bytes_of, put, zeros}
use Rattle.wire.proofs.ByteLaws.{part_length, bytes_length, zeros_length}
use Rattle.wire.proofs.PutLaws.{length_put, put_nil, first, then}
use Rattle.wire.proofs.TestLaws.{sum_none, sum_more, sum_each}
use Rattle.record.specs.Types.{header_record_type}
use Rattle.check_header.specs.Identification.{mark}
use Rattle.written_records.specs.Pieces.{record_head, record_length, record_of, closed_at}
use Rattle.written_records.proofs.PieceLaws.{head_length_lem, record_length_lem, record_holds}
use Rattle.written_records.proofs.PieceWriting.{closed_put}
use Rattle.fronts.specs.Front.{strung, string_of, fixed_of, entries_of, methods_of, body_of, block_bytes, front_of}
use Rattle.fronts.specs.Given.{text_at, method_length, method_at, described_by, describable}
use Rattle.fronts.specs.Writing.{sides_bytes, fixed_bytes, entries_bytes, AllReady, methods_bytes, MethodsReady, end_bytes, EndReady}
use Rattle.fronts.proofs.EntryLaws.{strung_more, strung_within, string_length}
use Rattle.fronts.proofs.FieldLaws.{fixed_length, front_length}
use Rattle.fronts.proofs.CountLaws.{Right, right_of_lem, method_is, texts_inside, summed_there, summed_short}

-- a name of a method

module _ (g ts : List ℕ) (from n i : ℕ) (r : MethodsReady g ts from n) (h : i < n) where
  pub method_fits : from + sum_below i (method_length g) + method_length g i ≤ length ts
  method_fits = omega (arith, r.inside, sum_each n (method_length g) i h)

  named_length : length (string_of (part ts (from + sum_below i (method_length g)) (method_length g i))) ≡ 2 + method_length g i
  named_length = string_length _ ∙ omega (arith, part_length ts (from + sum_below i (method_length g)) (method_length g i) method_fits)

  methods_more : length (methods_bytes g ts from (i + 1)) ≡ length (methods_bytes g ts from i) + (2 + method_length g i)
  unfolding methods_bytes
  methods_more = strung_more i (λ j. string_of (part ts (from + sum_below j (method_length g)) (method_length g j))) ∙ omega (arith, named_length)

methods_within : (g ts : List ℕ) (from n i : ℕ) → i ≤ n → length (methods_bytes g ts from i) ≤ length (methods_bytes g ts from n)
unfolding methods_bytes
methods_within g ts from n i h = strung_within n (λ j. string_of (part ts (from + sum_below j (method_length g)) (method_length g j))) i h

-- where a writer stands behind the first i of them
pub record Named (d : List ℕ) (at : ℕ) (g ts : List ℕ) (from : ℕ) (l : List ℕ) (p start i : ℕ) : Type 0 where
  pub place : p ≡ at + length (methods_bytes g ts from i)
  pub given : start ≡ from + sum_below i (method_length g)
  pub kept : length l ≡ length d
  pub is : l ≡ put d at (methods_bytes g ts from i)

pub named_none : (d : List ℕ) (at : ℕ) (g ts : List ℕ) (from : ℕ) → Named d at g ts from d at from 0
unfolding methods_bytes strung
named_none d at g ts from =
    record { place = omega arith; given = omega (arith, sum_none (method_length g)); kept = refl; is = sym (put_nil d at) }

module _
    (d : List ℕ) (at : ℕ) (g ts : List ℕ) (from : ℕ) (l : List ℕ) (p start i n k : ℕ) (w : Named d at g ts from l p start i) (r : MethodsReady g ts from n)
    (h : i < n) (f : at + length (methods_bytes g ts from n) ≤ length d) (e : k ≡ get_or g (6 + i) 0)
  where
    pub named_fits : (p + (2 + k) ≤ length d) × (start + k ≤ length ts)
    named_fits =
        let a = methods_within g ts from n (i + 1) (omega arith) in
        let b = method_is g i k e in
        (omega (arith, a, b, methods_more g ts from n i r h, w.place), omega (arith, b, w.given, method_fits g ts from n i r h))

    pub named_more : (m t : List ℕ) → t ≡ part ts start k → m ≡ put l p (string_of t) → Named d at g ts from m (p + (2 + k)) (start + k) (i + 1)
    unfolding methods_bytes strung
    named_more m t q u =
        let b = method_is g i k e in
        let v = named_fits in
        let x : List ℕ = part ts (from + sum_below i (method_length g)) (method_length g i) in
        let y : t ≡ x = q ∙ rw (w.given, b) in
        let z =
        then (first w.is refl) (string_of x) (2 + method_length g i) p (u ∙ ap (λ (c : List ℕ). put l p (string_of c)) y) (named_length g ts from n i r h) w.place
        (omega (arith, v.0, w.place, b)) in
        record {
          place = omega (arith, w.place, b, methods_more g ts from n i r h);
          given = omega (arith, w.given, b, sum_more i (method_length g));
          kept = ap length u ∙ length_put l p (string_of t) ∙ w.kept;
          is = rw (add-one i) z.is;
        }

pub named_all :
    (d : List ℕ) (at : ℕ) (g ts : List ℕ) (from : ℕ) (l : List ℕ) (p start i n : ℕ) → Named d at g ts from l p start i → i ≤ n → n ≤ i →
    (p ≡ at + length (methods_bytes g ts from n)) × (l ≡ put d at (methods_bytes g ts from n))
named_all d at g ts from l p start i n w h k = let q : i ≡ n = omega arith in rw (← q) (w.place, w.is)

-- what stands behind the entries

pub end_methods : (g ts : List ℕ) (from : ℕ) → EndReady g ts from → MethodsReady g ts from (length g - 6)
end_methods g ts from r = record { there = r.methods.there; inside = omega (arith, r.inside) }

pub end_length :
    (g ts : List ℕ) (from : ℕ) → EndReady g ts from →
    length (end_bytes g ts from) ≡ 4 + length (methods_bytes g ts from (length g - 6)) + (2 + get_or g 5 0) + 8
unfolding end_bytes
end_length g ts from r =
    let a : List ℕ = bytes_of 4 (length g - 6) in
    let b : List ℕ = methods_bytes g ts from (length g - 6) in
    let t : List ℕ = part ts (from + sum_below (length g - 6) (method_length g)) (get_or g 5 0) in
    length-append (a ++ b ++ string_of t) (zeros 8)
    ∙ omega (arith, length-append (a ++ b) (string_of t), length-append a b, bytes_length 4 (length g - 6), string_length t, zeros_length 8, part_length ts (from + sum_below (length g - 6) (method_length g)) (get_or g 5 0) r.inside)

pub end_put :
    (d a b c l : List ℕ) (at : ℕ) (g ts : List ℕ) (from n p start long s : ℕ) (t : List ℕ) → EndReady g ts from → n ≡ length g - 6 → a ≡ put d at (bytes_of 4 n) →
    b ≡ put a (at + 4) (methods_bytes g ts from n) → p ≡ at + 4 + length (methods_bytes g ts from n) → s ≡ sum_below n (method_length g) → start ≡ from + s →
    long ≡ get_or g 5 0 → t ≡ part ts start long → c ≡ put b p (string_of t) → l ≡ put c (p + (2 + long)) (zeros 8) → at + length (end_bytes g ts from) ≤ length d →
    (p + (2 + long) + 8 ≡ at + length (end_bytes g ts from)) × (l ≡ put d at (end_bytes g ts from))
unfolding end_bytes
end_put d a b c l at g ts from n p start long s t r en pa pb ep es est el et pc pl h =
    let z = end_length g ts from r in
    let m : List ℕ = methods_bytes g ts from (length g - 6) in
    let lm : length (methods_bytes g ts from n) ≡ length m = rw en in
    let x : List ℕ = part ts (from + sum_below (length g - 6) (method_length g)) (get_or g 5 0) in
    let lx : length x ≡ get_or g 5 0 = part_length ts (from + sum_below (length g - 6) (method_length g)) (get_or g 5 0) r.inside in
    let y : t ≡ x = et ∙ rw (est, es, en, el) in
    let qa : a ≡ put d at (bytes_of 4 (length g - 6)) = pa ∙ rw en in
    let qb : b ≡ put a (at + 4) m = pb ∙ rw en in
    let qc : c ≡ put b p (string_of x) = pc ∙ rw y in
    let w1 = first qa (bytes_length 4 (length g - 6)) in
    let w2 = then w1 m (length m) (at + 4) qb refl refl (omega arith) in
    let w3 = then w2 (string_of x) (2 + long) p qc (string_length x ∙ omega arith) (omega arith) (omega arith) in
    let w4 = then w3 (zeros 8) 8 (p + (2 + long)) pl (zeros_length 8) (omega arith) (omega arith) in
    (omega arith, w4.is)

-- the body

block_length : length block_bytes ≡ 16
unfolding block_bytes mark
block_length = refl

regroup : (a b c e f g : List ℕ) → a ++ b ++ (c ++ e ++ f ++ g) ≡ a ++ b ++ c ++ e ++ f ++ g
regroup a b c e f g = simp append_assoc

module _ (g u es ts : List ℕ) (ok : describable g u es ts ≡ true) where
  r : Right g u es ts
  r = right_of_lem g u es ts ok

  pub all_ready : AllReady es ts (length es / 14)
  all_ready =
      record {
        each = λ e h.
            record {
              there = summed_there es (length es / 14) e r.counted.elements h;
              short = summed_short es (length es / 14) e r.counted.elements h;
              start = refl;
              inside = texts_inside g u es ts r.whole e h;
            };
      }

  pub end_ready : EndReady g ts (text_at es (length es / 14))
  unfolding method_at
  end_ready =
      let w : text_at es (length es / 14) + sum_below (length g - 6) (method_length g) + get_or g 5 0 ≡ length ts = r.whole in
      record { methods = r.counted.methods; label = r.counted.label; inside = omega arith }

  fixed_same :
      fixed_bytes u (get_or g 0 0) (get_or g 1 0) (get_or g 2 0) (get_or g 3 0) (min (get_or g 4 0) 255) (length es / 14) ≡ fixed_of (described_by g u es ts)
  unfolding fixed_bytes fixed_of sides_bytes described_by
  fixed_same = simp append_assoc

  body_same :
      fixed_bytes u (get_or g 0 0) (get_or g 1 0) (get_or g 2 0) (get_or g 3 0) (min (get_or g 4 0) 255) (length es / 14) ++ entries_bytes es ts (length es / 14)
      ++ end_bytes g ts (text_at es (length es / 14))
      ≡ body_of (described_by g u es ts)
  unfolding body_of end_bytes entries_bytes entries_of methods_bytes methods_of method_at described_by
  body_same =
      rw fixed_same
      (regroup (fixed_of (described_by g u es ts)) (entries_of (described_by g u es ts) (length es / 14)) (bytes_of 4 (length g - 6))
      (methods_of (described_by g u es ts) (length g - 6)) (string_of (described_by g u es ts).label) (zeros 8))

  pub uuid_told : length (described_by g u es ts).uuid ≡ 16
  unfolding described_by
  uuid_told = r.uuid

  pub body_parts :
      length (body_of (described_by g u es ts)) ≡ 260 + length (entries_bytes es ts (length es / 14)) + length (end_bytes g ts (text_at es (length es / 14)))
  body_parts =
      let f : List ℕ = fixed_bytes u (get_or g 0 0) (get_or g 1 0) (get_or g 2 0) (get_or g 3 0) (min (get_or g 4 0) 255) (length es / 14) in
      let x : List ℕ = entries_bytes es ts (length es / 14) in
      let y : List ℕ = end_bytes g ts (text_at es (length es / 14)) in
      let lf : length f ≡ 260 = ap length fixed_same ∙ fixed_length (described_by g u es ts) uuid_told in
      sym (ap length body_same) ∙ length-append (f ++ x) y ∙ omega (arith, length-append f x)

  pub end_requires :
      (from p m : ℕ) → from ≡ text_at es (length es / 14) → p ≡ 284 + length (entries_bytes es ts (length es / 14)) → 24 + length (body_of (described_by g u es ts)) ≤ m →
      EndReady g ts from × (p + length (end_bytes g ts from) ≤ m)
  end_requires from p m e q h =
      let l : length (end_bytes g ts from) ≡ length (end_bytes g ts (text_at es (length es / 14))) = rw e in
      (rw e end_ready, omega (arith, l, body_parts))

  pub body_put :
      (d a b l : List ℕ) (p q from : ℕ) →
      a ≡ put d 24 (fixed_bytes u (get_or g 0 0) (get_or g 1 0) (get_or g 2 0) (get_or g 3 0) (min (get_or g 4 0) 255) (length es / 14)) →
      b ≡ put a 284 (entries_bytes es ts (length es / 14)) → p ≡ 284 + length (entries_bytes es ts (length es / 14)) → from ≡ text_at es (length es / 14) →
      l ≡ put b p (end_bytes g ts from) → q ≡ p + length (end_bytes g ts from) → 24 + length (body_of (described_by g u es ts)) ≤ length d →
      (q ≡ 24 + length (body_of (described_by g u es ts))) × (l ≡ put d 24 (body_of (described_by g u es ts)))
  body_put d a b l p q from pa pb ep ef pl eq h =
      let f : List ℕ = fixed_bytes u (get_or g 0 0) (get_or g 1 0) (get_or g 2 0) (get_or g 3 0) (min (get_or g 4 0) 255) (length es / 14) in
      let x : List ℕ = entries_bytes es ts (length es / 14) in
      let y : List ℕ = end_bytes g ts (text_at es (length es / 14)) in
      let lf : length f ≡ 260 = ap length fixed_same ∙ fixed_length (described_by g u es ts) uuid_told in
      let ly : length (end_bytes g ts from) ≡ length y = rw ef in
      let lb = body_parts in
      let w1 = first pa lf in
      let w2 = then w1 x (length x) 284 pb refl refl (omega arith) in
      let ql : l ≡ put b p y = pl ∙ rw ef in
      let w3 = then w2 y (length y) p ql refl (omega arith) (omega arith) in
      (omega arith, w3.is ∙ ap (put d 24) body_same)

  pub front_holds : 16 + (8 + length (body_of (described_by g u es ts)) + 4) ≤ length (front_of (described_by g u es ts))
  front_holds = omega (arith, front_length (described_by g u es ts), record_holds (length (body_of (described_by g u es ts))))

  front_is : (flag : ℕ) → flag ≡ min (get_or g 4 0) 255 → block_bytes ++ record_of flag header_record_type (body_of (described_by g u es ts)) ≡ front_of (described_by g u es ts)
  unfolding front_of described_by
  front_is flag e = rw e

  pub front_put :
      (d a b c l : List ℕ) (n m end flag : ℕ) → n ≡ length (front_of (described_by g u es ts)) → m ≡ n - 16 → flag ≡ min (get_or g 4 0) 255 → n ≤ length d →
      a ≡ put d 0 block_bytes → b ≡ put a 16 (record_head m header_record_type) → c ≡ put b 24 (body_of (described_by g u es ts)) →
      end ≡ 24 + length (body_of (described_by g u es ts)) → l ≡ closed_at flag c 16 end m → l ≡ put d 0 (front_of (described_by g u es ts))
  unfolding front_of described_by
  front_put d a b c l n m end flag en em ef h pa pb pc ee pl =
      let body : List ℕ = body_of (described_by g u es ts) in
      let fl = front_length (described_by g u es ts) in
      let hl = record_holds (length body) in
      let la : length a ≡ length d = ap length pa ∙ length_put d 0 block_bytes in
      let lm : m ≡ record_length (length body) = omega arith in
      let w = then (first pb (head_length_lem m header_record_type)) body (length body) 24 pc refl refl (omega arith) in
      let z = closed_put a c l 16 end m flag header_record_type body w.is lm (omega arith) (omega arith) pl in
      let o : block_bytes ++ record_of flag header_record_type body ≡ front_of (described_by g u es ts) = front_is flag ef in
      let x = then (first pa block_length) (record_of flag header_record_type body) m 16 z (record_length_lem flag header_record_type body ∙ sym lm) refl (omega arith) in
      x.is ∙ ap (put d 0) o
