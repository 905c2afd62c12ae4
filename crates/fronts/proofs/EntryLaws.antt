-- Strings and entries that are placed in a file: what they say. Assumes nothing.
use Prim.Native.Nat.{ℕ, zero, suc, ◌+◌, ◌*◌, ◌-◌, ◌%◌, ◌/◌, ◌^◌, ◌≤◌, ◌<◌}
use mathlib.Core.Path.{◌≡◌, refl, ap, ◌∙◌}
use mathlib.Core.List.{List, [], ◌∷◌, ◌++◌}
use mathlib.Core.Bool.{Bool, true, false}
use native.Mathlib.Omega.{arith}
use native.Mathlib.Numerals.{add-one}
use lib.ListN.{length, length-append}
use lib.Dec.{eqb}
use borrow.Author.Tests.{eqb-true, eqb-false, ne_eqb}
use mathlib.Core.Logic.{by_cases}
use native.Mathlib.Decide.{dec_le}
use Rattle.wire.specs.Pick.{pick}
use Rattle.wire.specs.Bytes.{byte_at, part, number_at, u16_at, bytes_of, zeros}
use Rattle.wire.proofs.ByteLaws.{part_whole, bytes_length, zeros_length}
use Rattle.wire.proofs.PlaceLaws.{Placed, placed_first, placed_next, placed_part, placed_byte, placed_value, placed_at}
use Rattle.wire.proofs.PutLaws.{bytes_split}
use Rattle.utf8.specs.Utf8.{utf8}
use Rattle.header.specs.Element.{string_size, string_end, block_size, fill_offset, cell_size, block_at, label_at, description_at, unit_at, entry_end, fill_bits}
use Rattle.header.specs.Texts.{string_text, text_right, entry_texts}
use Rattle.fronts.specs.Front.{Stated, StatedFits, strung, string_of, range_count, range_number, block_of, label_offset, texts_end, entry_length, entry_of}
use Rattle.fronts.specs.Judged.{texts_told}

-- lists strung together

pub strung_more : (n : ℕ) (f : ℕ → List ℕ) → length (strung (n + 1) f) ≡ length (strung n f) + length (f n)
unfolding strung
strung_more n f = rw (add-one n) (length-append (strung n f) (f n))

pub strung_none : (f : ℕ → List ℕ) → length (strung 0 f) ≡ 0
unfolding strung
strung_none f = refl

pub strung_each : {s : List ℕ} {at : ℕ} (n : ℕ) (f : ℕ → List ℕ) → Placed s at (strung n f) → (i : ℕ) → i < n → Placed s (at + length (strung i f)) (f i)
unfolding strung
strung_each zero f p i h = absurd (omega arith)
strung_each {s} {at} (suc n) f p i h = go (eqb i n) refl (strung_each n f (placed_first (strung n f) (f n) p) i)
  where
    go : (b : Bool) → eqb i n ≡ b → (i < n → Placed s (at + length (strung i f)) (f i)) → Placed s (at + length (strung i f)) (f i)
    go true e r = let z : i ≡ n = eqb-true i n e in rw z (placed_next (strung n f) (f n) refl p)
    go false e r = let z = eqb-false i n e in r (omega arith)

pub strung_within : (n : ℕ) (f : ℕ → List ℕ) (i : ℕ) → i ≤ n → length (strung i f) ≤ length (strung n f)
strung_within zero f i h = let z : i ≡ 0 = omega arith in rw z (omega arith)
strung_within (suc n) f i h =
    by_cases (dec_le i n) (λ k. omega (arith, strung_within n f i k, rw (add-one n) at (strung_more n f)))
    (λ k. let z : i ≡ suc n = omega arith in rw z (omega arith))

-- a string

pub string_length : (t : List ℕ) → length (string_of t) ≡ 2 + length t
unfolding string_of
string_length t = length-append (bytes_of 2 (length t)) t ∙ omega (arith, bytes_length 2 (length t))

module _ (t : List ℕ) {s : List ℕ} {at : ℕ} (h : length t < 65536) (p : Placed s at (string_of t)) where
  pub string_states : u16_at s at ≡ length t
  unfolding string_of
  string_states = placed_value 2 (length t) (placed_first (bytes_of 2 (length t)) t p) h

  pub string_ends : string_end s at ≡ at + (2 + length t)
  unfolding string_end string_size
  string_ends = rw string_states

  pub string_part : part s (at + 2) (length t) ≡ t
  unfolding string_of
  string_part =
      let q = placed_next (bytes_of 2 (length t)) t (bytes_length 2 (length t)) p in
      let e : at + 2 + 0 ≡ at + 2 = omega arith in
      rw e at (placed_part q 0 (length t) (omega arith)) ∙ part_whole t

  pub string_text_lem : string_text s at ≡ t
  unfolding string_text
  string_text_lem = rw string_states string_part

  pub string_judged : text_right s at ≡ utf8 t
  unfolding text_right
  string_judged = rw string_text_lem

-- the block

pub block_length : (x : Stated) → length (block_of x) ≡ block_size x.kind
unfolding block_of block_size range_count strung
block_length x = go (eqb x.kind 1)
  where
    go : (b : Bool) → length (strung (pick b 8 3) (λ i. bytes_of 4 (range_number x.kind (x.range i)))) ≡ pick b 32 12
    go true = simp (length-append, bytes_length)
    go false = simp (length-append, bytes_length)

pub fours_length : (n : ℕ) (g : ℕ → ℕ) → length (strung n (λ i. bytes_of 4 (g i))) ≡ 4 * n
fours_length zero g = strung_none (λ i. bytes_of 4 (g i))
fours_length (suc n) g =
    let a = rw (add-one n) at (strung_more n (λ i. bytes_of 4 (g i))) in
    omega (arith, a, fours_length n g, bytes_length 4 (g n))

-- its fill

module _ (x : Stated) (f : StatedFits x) {s : List ℕ} {b : ℕ} (p : Placed s b (block_of x)) where
  numbers : ℕ → ℕ
  numbers i = range_number x.kind (x.range i)

  number_there : (i : ℕ) → i < range_count x.kind → Placed s (b + 4 * i) (bytes_of 4 (range_number x.kind (x.range i)))
  unfolding block_of
  number_there i h =
      let q = strung_each (range_count x.kind) (λ j. bytes_of 4 (range_number x.kind (x.range j))) p i h in
      placed_at q (ap (λ (n : ℕ). b + n) (fours_length i (λ j. range_number x.kind (x.range j))))

  coded_fill : x.kind ≡ 1 → number_at 4 s (b + 28) ≡ range_number x.kind (x.range 7)
  unfolding range_count range_number
  coded_fill e =
      let k : 7 < range_count x.kind = rw e (omega arith) in
      let l : range_number x.kind (x.range 7) < 4294967296 = rw e (f.range 7) in
      placed_value 4 _ (number_there 7 k) l

  three : (x.kind ≡ 1 → ⊥) → 2 < range_count x.kind
  unfolding range_count
  three n = go (eqb x.kind 1)
    where
      go : (c : Bool) → 2 < pick c 8 3
      go true = omega arith
      go false = omega arith

  short_fill : x.kind ≡ 3 → number_at 2 s (b + 8) ≡ range_number x.kind (x.range 2)
  unfolding range_number
  short_fill e =
      let q = number_there 2 (three (λ h. absurd (omega arith))) in
      let v = range_number x.kind (x.range 2) in
      let r : Placed s (b + 8) (bytes_of 2 v ++ bytes_of 2 (v / 256 ^ 2)) = rw (bytes_split 2 2 v) at q in
      let l : v < 65536 = rw e (omega arith) in
      placed_value 2 v (placed_first (bytes_of 2 v) (bytes_of 2 (v / 256 ^ 2)) r) l

  other_fill : (x.kind ≡ 1 → ⊥) → (x.kind ≡ 3 → ⊥) → number_at 4 s (b + 8) ≡ range_number x.kind (x.range 2)
  unfolding range_number
  other_fill n m =
      let l : range_number x.kind (x.range 2) < 4294967296 = rw (ne_eqb x.kind 3 m) (f.range 2) in
      placed_value 4 _ (number_there 2 (three n)) l

  pub block_fill :
      number_at (cell_size x.kind) s (b + fill_offset x.kind) ≡ range_number x.kind (x.range (pick (eqb x.kind 1) 7 2))
  unfolding cell_size fill_offset
  block_fill = go (eqb x.kind 1) refl (eqb x.kind 3) refl
    where
      go :
          (c : Bool) → eqb x.kind 1 ≡ c → (d : Bool) → eqb x.kind 3 ≡ d →
          number_at (pick (eqb x.kind 3) 2 4) s (b + pick (eqb x.kind 1) 28 8) ≡ range_number x.kind (x.range (pick (eqb x.kind 1) 7 2))
      go true i d j = let e : x.kind ≡ 1 = eqb-true _ _ i in rw (i, ne_eqb x.kind 3 (λ h. absurd (omega arith))) (coded_fill e)
      go false i true j = rw (i, j) (short_fill (eqb-true _ _ j))
      go false i false j = rw (i, j) (other_fill (eqb-false _ _ i) (eqb-false _ _ j))

-- an entry: its parts, one behind the other

abbrev upto1 : Stated → List ℕ
upto1 x = (x.kind ∷ x.continuous ∷ []) ++ zeros 6

abbrev upto2 : Stated → List ℕ
upto2 x = upto1 x ++ string_of x.name

abbrev upto3 : Stated → List ℕ
upto3 x = upto2 x ++ block_of x

abbrev upto4 : Stated → List ℕ
upto4 x = upto3 x ++ zeros (label_offset x - (10 + length x.name + block_size x.kind))

abbrev upto5 : Stated → List ℕ
upto5 x = upto4 x ++ string_of x.label

abbrev upto6 : Stated → List ℕ
upto6 x = upto5 x ++ string_of x.description

abbrev upto7 : Stated → List ℕ
upto7 x = upto6 x ++ string_of x.unit

module _ (x : Stated) where
  long1 : length (upto1 x) ≡ 8
  long1 = length-append (x.kind ∷ x.continuous ∷ []) (zeros 6) ∙ omega (arith, zeros_length 6)

  long2 : length (upto2 x) ≡ 10 + length x.name
  long2 = length-append (upto1 x) (string_of x.name) ∙ omega (arith, long1, string_length x.name)

  long3 : length (upto3 x) ≡ 10 + length x.name + block_size x.kind
  long3 = length-append (upto2 x) (block_of x) ∙ omega (arith, long2, block_length x)

  pub offset_holds : 10 + length x.name + block_size x.kind ≤ label_offset x
  unfolding label_offset
  offset_holds = omega arith

  long4 : length (upto4 x) ≡ label_offset x
  long4 =
      let n = label_offset x - (10 + length x.name + block_size x.kind) in
      length-append (upto3 x) (zeros n) ∙ omega (arith, long3, zeros_length n, offset_holds)

  long5 : length (upto5 x) ≡ label_offset x + (2 + length x.label)
  long5 = length-append (upto4 x) (string_of x.label) ∙ omega (arith, long4, string_length x.label)

  long6 : length (upto6 x) ≡ label_offset x + (2 + length x.label) + (2 + length x.description)
  long6 = length-append (upto5 x) (string_of x.description) ∙ omega (arith, long5, string_length x.description)

  long7 : length (upto7 x) ≡ texts_end x
  unfolding texts_end
  long7 = length-append (upto6 x) (string_of x.unit) ∙ omega (arith, long6, string_length x.unit)

  pub entry_holds : (texts_end x ≤ entry_length x) × (entry_length x % 4 ≡ 0)
  unfolding entry_length
  entry_holds = (omega arith, omega arith)

  pub texts_least : 6 ≤ texts_end x
  unfolding texts_end
  texts_least = omega arith

  pub entry_length_lem : length (entry_of x) ≡ entry_length x
  unfolding entry_of
  entry_length_lem =
      let n = entry_length x - texts_end x in
      length-append (upto7 x) (zeros n) ∙ omega (arith, long7, zeros_length n, entry_holds.0)

-- what it says where it stands at a multiple of 4

module _ (x : Stated) (f : StatedFits x) {s : List ℕ} {at : ℕ} (p : Placed s at (entry_of x)) (m : at % 4 ≡ 0) where
  there7 : Placed s at (upto7 x)
  unfolding entry_of
  there7 = placed_first (upto7 x) (zeros (entry_length x - texts_end x)) p

  there4 : Placed s at (upto4 x)
  there4 =
      placed_first (upto4 x) (string_of x.label)
      (placed_first (upto5 x) (string_of x.description) (placed_first (upto6 x) (string_of x.unit) there7))

  there3 : Placed s at (upto3 x)
  there3 = placed_first (upto3 x) (zeros (label_offset x - (10 + length x.name + block_size x.kind))) there4

  there1 : Placed s at (upto1 x)
  there1 = placed_first (upto1 x) (string_of x.name) (placed_first (upto2 x) (block_of x) there3)

  name_there : Placed s (at + 8) (string_of x.name)
  name_there = placed_next (upto1 x) (string_of x.name) (long1 x) (placed_first (upto2 x) (block_of x) there3)

  block_there : Placed s (at + (10 + length x.name)) (block_of x)
  block_there = placed_next (upto2 x) (block_of x) (long2 x) there3

  label_there : Placed s (at + label_offset x) (string_of x.label)
  label_there =
      placed_next (upto4 x) (string_of x.label) (long4 x)
      (placed_first (upto5 x) (string_of x.description) (placed_first (upto6 x) (string_of x.unit) there7))

  description_there : Placed s (at + (label_offset x + (2 + length x.label))) (string_of x.description)
  description_there =
      placed_next (upto5 x) (string_of x.description) (long5 x) (placed_first (upto6 x) (string_of x.unit) there7)

  unit_there : Placed s (at + (label_offset x + (2 + length x.label) + (2 + length x.description))) (string_of x.unit)
  unit_there = placed_next (upto6 x) (string_of x.unit) (long6 x) there7

  pub kind_says : byte_at s at ≡ x.kind
  unfolding byte_at
  kind_says =
      let q = placed_first (x.kind ∷ x.continuous ∷ []) (zeros 6) there1 in
      let e : at + 0 ≡ at = omega arith in
      rw e at (placed_byte q 0 (omega arith))

  pub continuous_says : byte_at s (at + 1) ≡ x.continuous
  unfolding byte_at
  continuous_says =
      let q = placed_first (x.kind ∷ x.continuous ∷ []) (zeros 6) there1 in
      placed_byte q 1 (omega arith)

  pub name_states : u16_at s (at + 8) ≡ length x.name
  name_states = string_states x.name f.name name_there

  pub name_says : part s (at + 10) (length x.name) ≡ x.name
  name_says =
      let e : at + 8 + 2 ≡ at + 10 = omega arith in
      rw e at (string_part x.name f.name name_there)

  block_at_lem : block_at s at ≡ at + (10 + length x.name)
  unfolding block_at
  block_at_lem = string_ends x.name f.name name_there ∙ omega arith

  pub block_says : part s (block_at s at) (block_size x.kind) ≡ block_of x
  block_says =
      let e : at + (10 + length x.name) + 0 ≡ at + (10 + length x.name) = omega arith in
      rw (block_at_lem, ← block_length x) (rw e at (placed_part block_there 0 (length (block_of x)) (omega arith)) ∙ part_whole (block_of x))

  pub label_at_lem : label_at s at ≡ at + label_offset x
  unfolding label_at label_offset
  label_at_lem = rw (block_at_lem, kind_says) (omega arith)

  pub description_at_lem : description_at s at ≡ at + (label_offset x + (2 + length x.label))
  unfolding description_at
  description_at_lem = rw label_at_lem (string_ends x.label f.label label_there ∙ omega arith)

  pub unit_at_lem : unit_at s at ≡ at + (label_offset x + (2 + length x.label) + (2 + length x.description))
  unfolding unit_at
  unit_at_lem = rw description_at_lem (string_ends x.description f.description description_there ∙ omega arith)

  pub entry_ends : entry_end s at ≡ at + entry_length x
  unfolding entry_end entry_length texts_end
  entry_ends =
      let e : string_end s (unit_at s at) ≡ at + (label_offset x + (2 + length x.label) + (2 + length x.description)) + (2 + length x.unit) =
      rw unit_at_lem (string_ends x.unit f.unit unit_there) in
      rw e (omega arith)

  pub fill_says : fill_bits s at ≡ range_number x.kind (x.range (pick (eqb x.kind 1) 7 2))
  unfolding fill_bits
  fill_says = rw (kind_says, block_at_lem) (block_fill x f block_there)

  pub label_text : string_text s (label_at s at) ≡ x.label
  label_text = rw label_at_lem (string_text_lem x.label f.label label_there)

  pub description_text : string_text s (description_at s at) ≡ x.description
  description_text = rw description_at_lem (string_text_lem x.description f.description description_there)

  pub unit_text : string_text s (unit_at s at) ≡ x.unit
  unit_text = rw unit_at_lem (string_text_lem x.unit f.unit unit_there)

  pub texts_judged : entry_texts s at ≡ texts_told x
  unfolding entry_texts texts_told text_right
  texts_judged = rw (label_text, description_text, unit_text)
