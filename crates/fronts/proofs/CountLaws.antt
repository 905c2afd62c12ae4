-- The lengths that are given, added up; when a description can be written down. Assumes nothing.
use Prim.Native.Nat.{ℕ, zero, suc, ◌+◌, ◌-◌, ◌*◌, ◌/◌, ◌≤◌, ◌<◌}
use mathlib.Core.Path.{◌≡◌, refl, sym, ◌∙◌}
use mathlib.Core.List.{List, [], ◌∷◌}
use mathlib.Core.Bool.{Bool, true, false}
use native.Mathlib.Omega.{arith}
use native.Mathlib.Numerals.{add-one}
use lib.ListN.{length, get_or}
use lib.Dec.{eqb}
use Rattle.wire.specs.Pick.{pick, round_up}
use Rattle.wire.specs.Tests.{Test, is, passes, all_below, sum_below}
use Rattle.wire.specs.Bytes.{part}
use Rattle.wire.proofs.ByteLaws.{part_length}
use Rattle.wire.proofs.TestLaws.{not_both, means, yes, no, no_true, either_way, iff, below_each, below_all, sum_more, sum_same, sum_each}
use Rattle.header.specs.Element.{block_size}
use Rattle.geometry.specs.Sizes.{least_length}
use Rattle.written_records.specs.Pieces.{record_length}
use Rattle.written_records.proofs.PieceLaws.{record_holds}
use Rattle.fronts.specs.declared.entries.Numbers.{Numbers}
use Rattle.fronts.specs.Front.{strung, string_of, range_count, entry_of, entries_of, methods_of, body_of, front_of}
use Rattle.fronts.specs.Given.{number_of, texts_length, text_at, stated_by, method_length, method_at, described_by, texts_short, method_short, describable}
use Rattle.fronts.specs.Writing.{head_length, tail_length, numbers_at, entry_counted, body_counted, front_counted, Summed, MethodsSummed, Counted, counts_right, sums_right}
use Rattle.fronts.proofs.EntryLaws.{strung_more, strung_none, string_length, entry_length_lem}
use Rattle.fronts.proofs.WriteLaws.{head_size, tail_size}
use Rattle.fronts.proofs.FieldLaws.{body_length, front_length}
use Rattle.fronts.proofs.PartLaws.{entry_size_lem}
use Rattle.fronts.proofs.LineLaws.{texts_small}

-- sums, a step at a time

pub sum_step : (n a t : ℕ) (f : ℕ → ℕ) → a ≡ sum_below n f → t ≡ f n → a + t ≡ sum_below (n + 1) f
sum_step n a t f p q = rw (sum_more n f) (omega arith)

pub sum_all : (n i a : ℕ) (f : ℕ → ℕ) → a ≡ sum_below i f → i ≤ n → n ≤ i → a ≡ sum_below n f
sum_all n i a f p h k = let e : i ≡ n = omega arith in rw (← e) p

-- no string, no element's strings and no entry is longer than this
sum_most : (n : ℕ) (f : ℕ → ℕ) → ((i : ℕ) → i < n → f i ≤ 300000) → sum_below n f ≤ 300000 * n
unfolding sum_below
sum_most zero f h = omega arith
sum_most (suc n) f h = omega (arith, sum_most n f (λ i k. h i (omega arith)), h n (omega arith))

below_less : (n m : ℕ) (p : ℕ → Bool) → all_below n p ≡ true → m ≤ n → all_below m p ≡ true
below_less n m p e h = below_all m p (λ i k. below_each n p e i (omega arith))

-- elements

pub summed_less : (es : List ℕ) (n m : ℕ) → Summed es n → m ≤ n → Summed es m
summed_less es n m w h =
    record { there = omega (arith, w.there); few = omega (arith, w.few); short = below_less n m (texts_short es) w.short h }

module _ (es : List ℕ) (n e : ℕ) (w : Summed es n) (h : e < n) where
  pub summed_there : e * 14 + 14 ≤ length es
  summed_there = omega (arith, w.there)

  pub summed_short : texts_short es e ≡ true
  summed_short = below_each n (texts_short es) w.short e h

-- whether an element's strings are short
module _ (es : List ℕ) (e : ℕ) (x : Numbers) (p : x ≡ numbers_at es e) where
  pub short_not : ((x.name ≤ 65535) × ((x.label ≤ 65535) × ((x.description ≤ 65535) × (x.unit ≤ 65535))) → ⊥) → false ≡ texts_short es e
  short_not f = no_true _ (λ h. f (texts_small es e x p h))

  pub short_yes : (x.name ≤ 65535) × ((x.label ≤ 65535) × ((x.description ≤ 65535) × (x.unit ≤ 65535))) → true ≡ texts_short es e
  unfolding texts_short numbers_at
  short_yes h =
      let n : number_of es e 2 ≡ x.name = rw p in
      let l : number_of es e 3 ≡ x.label = rw p in
      let d : number_of es e 4 ≡ x.description = rw p in
      let u : number_of es e 5 ≡ x.unit = rw p in
      yes _ (omega (arith, h.0), (omega (arith, h.1.0), (omega (arith, h.1.1.0), (omega (arith, h.1.1.1), tt))))

texts_most : (es : List ℕ) (e : ℕ) → texts_short es e ≡ true → texts_length es e ≤ 300000
unfolding texts_short texts_length
texts_most es e h = let a = means _ h in omega (arith, a.0, a.1.0, a.1.1.0, a.1.1.1.0)

block_most : (kind : ℕ) → block_size kind ≤ 32
unfolding block_size
block_most kind = go (eqb kind 1)
  where
    go : (b : Bool) → pick b 32 12 ≤ 32
    go true = omega arith
    go false = omega arith

entry_most : (es : List ℕ) (e : ℕ) → texts_short es e ≡ true → entry_counted es e ≤ 300000
unfolding entry_counted head_length tail_length
entry_most es e h = let a = texts_small es e (numbers_at es e) refl h in omega (arith, a.0, a.1.0, a.1.1.0, a.1.1.1, block_most (numbers_at es e).kind)

module _ (es : List ℕ) (n e : ℕ) (w : Summed es n) (h : e ≤ n) where
  pub texts_sum_most : sum_below e (texts_length es) ≤ 5100000000000
  texts_sum_most = omega (arith, w.few, sum_most e (texts_length es) (λ i k. texts_most es i (below_each n (texts_short es) w.short i (omega arith))))

  pub entries_sum_most : sum_below e (entry_counted es) ≤ 5100000000000
  entries_sum_most = omega (arith, w.few, sum_most e (entry_counted es) (λ i k. entry_most es i (below_each n (texts_short es) w.short i (omega arith))))

pub text_most : (es : List ℕ) (n e at : ℕ) → Summed es n → e ≤ n → at ≡ text_at es e → at ≤ 5100000000000
unfolding text_at
text_most es n e at w h p = omega (arith, p, texts_sum_most es n e w h)

pub texts_one : (es : List ℕ) (n e t : ℕ) → Summed es n → e < n → t ≡ texts_length es e → t ≤ 300000
texts_one es n e t w h p = omega (arith, p, texts_most es e (summed_short es n e w h))

pub entry_one : (es : List ℕ) (n e t : ℕ) → Summed es n → e < n → t ≡ entry_counted es e → t ≤ 300000
entry_one es n e t w h p = omega (arith, p, entry_most es e (summed_short es n e w h))

pub texts_start : (es : List ℕ) (n i a : ℕ) → a ≡ sum_below i (texts_length es) → i ≤ n → n ≤ i → a ≡ text_at es n
unfolding text_at
texts_start es n i a p h k = sum_all n i a (texts_length es) p h k

pub entry_counted_lem :
    (es : List ℕ) (e : ℕ) (x : Numbers) (count head tail a b : ℕ) → x ≡ numbers_at es e → count ≡ range_count x.kind → head ≡ 10 + x.name + 4 * count →
    tail ≡ 6 + x.label + x.description + x.unit → a ≡ round_up 4 head - head → b ≡ round_up 4 tail - tail → head + a + (tail + b) ≡ entry_counted es e
unfolding entry_counted
entry_counted_lem es e x count head tail a b p q r s t u =
    let y = head_size x.kind count x.name head a q r t in
    let z = tail_size tail b x.label x.description x.unit s u in
    rw (← p, ← y, ← z)

-- methods

module _ (g : List ℕ) (n i : ℕ) (w : MethodsSummed g n) (h : i ≤ n) where
  pub methods_sum_most : sum_below i (method_length g) ≤ 5100000000000
  unfolding method_short
  methods_sum_most =
      omega (arith, w.few, sum_most i (method_length g) (λ j k. let a = means _ (below_each n (method_short g) w.short j (omega arith)) in omega (arith, a.0)))

pub method_is : (g : List ℕ) (i t : ℕ) → t ≡ get_or g (6 + i) 0 → t ≡ method_length g i
unfolding method_length
method_is g i t q = q

pub method_step : (g : List ℕ) (i a t : ℕ) → a ≡ sum_below i (method_length g) → t ≡ get_or g (6 + i) 0 → a + t ≡ sum_below (i + 1) (method_length g)
method_step g i a t p q = sum_step i a t (method_length g) p (method_is g i t q)

pub method_one : (g : List ℕ) (n i t : ℕ) → MethodsSummed g n → i < n → t ≡ get_or g (6 + i) 0 → t ≤ 65535
unfolding method_short
method_one g n i t w h p = let a = means _ (below_each n (method_short g) w.short i h) in omega (arith, a.0, method_is g i t p)

-- the front's length by the numbers is its length, where the texts are as long as they are said to be

strung_sum : (n : ℕ) (f : ℕ → List ℕ) → length (strung n f) ≡ sum_below n (λ i. length (f i))
unfolding sum_below
strung_sum zero f = strung_none f
strung_sum (suc n) f = omega (arith, rw (add-one n) at (strung_more n f), strung_sum n f)

sum_twos : (n : ℕ) (f : ℕ → ℕ) → sum_below n (λ i. 2 + f i) ≡ 2 * n + sum_below n f
unfolding sum_below
sum_twos zero f = refl
sum_twos (suc n) f = omega (arith, sum_twos n f)

sum_least : (n : ℕ) (f : ℕ → ℕ) → ((i : ℕ) → 1 ≤ f i) → n ≤ sum_below n f
unfolding sum_below
sum_least zero f h = omega arith
sum_least (suc n) f h = omega (arith, sum_least n f h, h n)

module _ (g u es ts : List ℕ) (whole : method_at g es (length g - 6) + get_or g 5 0 ≡ length ts) where
  -- an element's strings lie among the texts, and so does each method's name
  pub texts_inside : (e : ℕ) → e < length es / 14 → text_at es e + texts_length es e ≤ length ts
  unfolding method_at text_at
  texts_inside e h = omega (arith, whole, sum_each (length es / 14) (texts_length es) e h)

  pub method_inside : (i : ℕ) → i < length g - 6 → method_at g es i + method_length g i ≤ length ts
  unfolding method_at
  method_inside i h = omega (arith, whole, sum_each (length g - 6) (method_length g) i h)

  module _ (e : ℕ) (h : e < length es / 14) where
    pub name_long : length (stated_by es ts e).name ≡ number_of es e 2
    unfolding stated_by texts_length
    name_long = part_length ts (text_at es e) (number_of es e 2) (omega (arith, texts_inside e h))

    pub label_long : length (stated_by es ts e).label ≡ number_of es e 3
    unfolding stated_by texts_length
    label_long = part_length ts (text_at es e + number_of es e 2) (number_of es e 3) (omega (arith, texts_inside e h))

    pub description_long : length (stated_by es ts e).description ≡ number_of es e 4
    unfolding stated_by texts_length
    description_long = part_length ts (text_at es e + number_of es e 2 + number_of es e 3) (number_of es e 4) (omega (arith, texts_inside e h))

    pub unit_long : length (stated_by es ts e).unit ≡ number_of es e 5
    unfolding stated_by texts_length
    unit_long = part_length ts (text_at es e + number_of es e 2 + number_of es e 3 + number_of es e 4) (number_of es e 5) (omega (arith, texts_inside e h))

    kind_same : (stated_by es ts e).kind ≡ (numbers_at es e).kind
    unfolding stated_by numbers_at
    kind_same = refl

    entry_told : length (entry_of (stated_by es ts e)) ≡ entry_counted es e
    unfolding entry_counted numbers_at
    entry_told = entry_length_lem (stated_by es ts e) ∙ entry_size_lem es ts e ∙ rw (name_long, label_long, description_long, unit_long, kind_same)

  entries_told : length (entries_of (described_by g u es ts) (length es / 14)) ≡ sum_below (length es / 14) (entry_counted es)
  unfolding entries_of described_by
  entries_told =
      strung_sum (length es / 14) (λ e. entry_of (stated_by es ts e)) ∙ sum_same (length es / 14) _ (entry_counted es) (λ e h. entry_told e h)

  pub method_long : (i : ℕ) → i < length g - 6 → length ((described_by g u es ts).method i) ≡ method_length g i
  unfolding described_by
  method_long i h = part_length ts (method_at g es i) (method_length g i) (method_inside i h)

  method_told : (i : ℕ) → i < length g - 6 → length (string_of (part ts (method_at g es i) (method_length g i))) ≡ 2 + method_length g i
  method_told i h = string_length _ ∙ omega (arith, part_length ts (method_at g es i) (method_length g i) (method_inside i h))

  methods_told : length (methods_of (described_by g u es ts) (length g - 6)) ≡ 2 * (length g - 6) + sum_below (length g - 6) (method_length g)
  unfolding methods_of described_by
  methods_told =
      strung_sum (length g - 6) (λ i. string_of (part ts (method_at g es i) (method_length g i)))
      ∙ sum_same (length g - 6) _ (λ i. 2 + method_length g i) (λ i h. method_told i h)
      ∙ sum_twos (length g - 6) (method_length g)

  pub label_told_lem : length (described_by g u es ts).label ≡ get_or g 5 0
  unfolding described_by
  label_told_lem = part_length ts (method_at g es (length g - 6)) (get_or g 5 0) (omega (arith, whole))

  module _ (h : length u ≡ 16) where
    pub body_told : length (body_of (described_by g u es ts)) ≡ body_counted g es
    unfolding body_counted described_by
    body_told = body_length (described_by g u es ts) h ∙ omega (arith, entries_told, methods_told, label_told_lem)

    pub front_told : length (front_of (described_by g u es ts)) ≡ front_counted g es
    unfolding front_counted
    front_told = front_length (described_by g u es ts) ∙ rw body_told

entry_some : (es : List ℕ) (e : ℕ) → 1 ≤ entry_counted es e
unfolding entry_counted head_length tail_length
entry_some es e = omega arith

-- so many elements and methods have no shorter front
few_elements : (g es : List ℕ) → front_counted g es ≤ 16777216 → (length es / 14 ≤ 16777216) × (length g - 6 ≤ 16777216)
unfolding front_counted body_counted
few_elements g es h =
    let n = 274 + sum_below (length es / 14) (entry_counted es) + 2 * (length g - 6) + sum_below (length g - 6) (method_length g) + get_or g 5 0 in
    (omega (arith, record_holds n, sum_least (length es / 14) (entry_counted es) (entry_some es)), omega (arith, record_holds n))

-- the rules of 12, in the order in which they are asked
abbrev asked : List ℕ → List ℕ → List ℕ → List ℕ → List Test
asked g u es ts =
    is (counts_right g u es) ∷ is (all_below (length es / 14) (texts_short es)) ∷ is (all_below (length g - 6) (method_short g)) ∷ is (sums_right g es ts) ∷ []

pub describable_is : (g u es ts : List ℕ) → passes (asked g u es ts) ≡ describable g u es ts
unfolding describable counts_right sums_right
describable_is g u es ts =
    iff _ _
    (λ e.
    let a = means _ e in
    let c = means _ a.0 in
    let b = means _ a.1.1.1.0 in
    sym (yes _ (c.0, (c.1.0, (c.1.1.0, (a.1.0, (a.1.1.0, (c.1.1.1.1.1.0, (b.0, (omega (arith, front_told g u es ts b.0 c.1.0, b.1.0), tt))))))))))
    (λ e.
    let a = means _ e in
    let w = a.1.1.1.1.1.1.0 in
    let l = front_told g u es ts w a.1.0 in
    let k : front_counted g es ≤ 16777216 = omega (arith, a.1.1.1.1.1.1.1.0) in
    let m = few_elements g es k in
    sym (yes _ (sym (yes _ (a.0, (a.1.0, (a.1.1.0, (m.0, (m.1, (a.1.1.1.1.1.0, tt))))))), (a.1.1.1.0, (a.1.1.1.1.0, (sym (yes _ (w, (k, tt))), tt))))))

-- what a description has that can be written down
pub record Right (g u es ts : List ℕ) : Type 0 where
  pub six : 6 ≤ length g
  pub uuid : length u ≡ 16
  pub counted : Counted g es
  pub whole : method_at g es (length g - 6) + get_or g 5 0 ≡ length ts
  pub body : length (body_of (described_by g u es ts)) ≡ body_counted g es
  pub long : length (front_of (described_by g u es ts)) ≡ front_counted g es
  pub allowed : length (front_of (described_by g u es ts)) ≤ 16777216

pub counts_six : (g u es : List ℕ) (a : Bool) → a ≡ counts_right g u es → a ≡ true → 6 ≤ length g
unfolding counts_right
counts_six g u es a p e = (means _ (sym p ∙ e)).0

pub counted_of :
    (g u es ts : List ℕ) → counts_right g u es ≡ true → all_below (length es / 14) (texts_short es) ≡ true → all_below (length g - 6) (method_short g) ≡ true → Counted g es
unfolding counts_right
counted_of g u es ts e f h =
    let a = means _ e in
    record {
      elements = record { there = omega (arith, a.1.1.0); few = a.1.1.1.0; short = f };
      methods = record { there = omega (arith, a.0); few = a.1.1.1.1.0; short = h };
      label = a.1.1.1.1.1.0;
    }

pub right_of_lem : (g u es ts : List ℕ) → describable g u es ts ≡ true → Right g u es ts
unfolding describable
right_of_lem g u es ts e =
    let a = means _ e in
    let b = means _ (describable_is g u es ts ∙ e) in
    let w = a.1.1.1.1.1.1.0 in
    record {
      six = a.0;
      uuid = a.1.0;
      counted = counted_of g u es ts b.0 b.1.0 b.1.1.0;
      whole = w;
      body = body_told g u es ts w a.1.0;
      long = front_told g u es ts w a.1.0;
      allowed = a.1.1.1.1.1.1.1.0;
    }

-- the rules of 12, as they are asked one behind the other

pub length_counted :
    (g es : List ℕ) (methods entries names label body : ℕ) → methods ≡ length g - 6 → entries ≡ sum_below (length es / 14) (entry_counted es) →
    names ≡ sum_below methods (method_length g) → label ≡ get_or g 5 0 → body ≡ 274 + entries + 2 * methods + names + label → 16 + (body + 19) / 8 * 8 ≡ front_counted g es
unfolding front_counted body_counted record_length least_length
length_counted g es methods entries names label body em en es2 el eb =
    let n : names ≡ sum_below (length g - 6) (method_length g) = es2 ∙ rw em in
    rw (← n, ← en, ← em, ← el) (omega arith)

pub lengths_most :
    (g es : List ℕ) (methods entries names label : ℕ) → Counted g es → methods ≡ length g - 6 → entries ≡ sum_below (length es / 14) (entry_counted es) →
    names ≡ sum_below methods (method_length g) → label ≡ get_or g 5 0 → (methods ≤ 16777216) × ((entries ≤ 5100000000000) × ((names ≤ 5100000000000) × (label ≤ 65535)))
lengths_most g es methods entries names label w em en es2 el =
    let n : names ≡ sum_below (length g - 6) (method_length g) = es2 ∙ rw em in
    (omega (arith, w.methods.few), (omega (arith, entries_sum_most es (length es / 14) (length es / 14) w.elements (omega arith)), (omega (arith, n, methods_sum_most g (length g - 6) (length g - 6) w.methods (omega arith)), omega (arith, w.label))))

module _
    (g es ts : List ℕ) (from names label : ℕ) (p : from ≡ text_at es (length es / 14)) (q : names ≡ sum_below (length g - 6) (method_length g)) (r : label ≡ get_or g 5 0)
  where
    whole_is : from + names + label ≡ method_at g es (length g - 6) + get_or g 5 0
    unfolding method_at
    whole_is = rw (p, q, r)

    pub sums_most : Counted g es → (from ≤ 5100000000000) × ((names ≤ 5100000000000) × (label ≤ 65535))
    unfolding text_at
    sums_most w =
        (omega (arith, p, texts_sum_most es (length es / 14) (length es / 14) w.elements (omega arith)), (omega (arith, methods_sum_most g (length g - 6) (length g - 6) w.methods (omega arith)), omega (arith, w.label)))

    pub sums_texts : (from + names + label ≡ length ts → ⊥) → false ≡ sums_right g es ts
    unfolding sums_right
    sums_texts f = no _ (λ h. f (whole_is ∙ h.0))

    module _ (e : from + names + label ≡ length ts) (n : ℕ) (s : n ≡ front_counted g es) where
      pub sums_long : 16777216 < n → false ≡ sums_right g es ts
      unfolding sums_right
      sums_long l = no _ (λ h. omega (arith, h.1.0))

      pub sums_yes : n ≤ 16777216 → true ≡ sums_right g es ts
      unfolding sums_right
      sums_yes l = yes _ (sym whole_is ∙ e, (omega arith, tt))

module _ (g u es ts : List ℕ) (a : Bool) (p : a ≡ counts_right g u es) where
  pub described_counts : a ≡ false → false ≡ describable g u es ts
  described_counts e = no (asked g u es ts) (λ h. not_both h.0 (sym p ∙ e)) ∙ describable_is g u es ts

  module _ (h : a ≡ true) (b : Bool) (q : b ≡ all_below (length es / 14) (texts_short es)) where
    pub described_texts : b ≡ false → false ≡ describable g u es ts
    described_texts e = no (asked g u es ts) (λ k. not_both k.1.0 (sym q ∙ e)) ∙ describable_is g u es ts

    module _ (k : b ≡ true) (c : Bool) (r : c ≡ all_below (length g - 6) (method_short g)) where
      pub described_methods : c ≡ false → false ≡ describable g u es ts
      described_methods e = no (asked g u es ts) (λ m. not_both m.1.1.0 (sym r ∙ e)) ∙ describable_is g u es ts

      pub described_counted : c ≡ true → Counted g es
      described_counted m = counted_of g u es ts (sym p ∙ h) (sym q ∙ k) (sym r ∙ m)

      pub described_last : (d : Bool) → c ≡ true → d ≡ sums_right g es ts → d ≡ describable g u es ts
      described_last d m s =
          either_way (asked g u es ts) d (λ e. (sym p ∙ h, (sym q ∙ k, (sym r ∙ m, (sym s ∙ e, tt))))) (λ e n. not_both n.1.1.1.0 (sym s ∙ e))
          ∙ describable_is g u es ts
