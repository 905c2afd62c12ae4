-- An entry that is written in two halves. Assumes nothing.
use Prim.Native.Nat.{ℕ, ◌+◌, ◌*◌, ◌-◌, ◌≤◌, ◌<◌}
use mathlib.Core.Path.{◌≡◌, refl, sym, ap, ◌∙◌}
use mathlib.Core.List.{List, [], ◌∷◌, ◌++◌, append_assoc}
use native.Mathlib.Omega.{arith}
use lib.ListN.{length, length-append}
use Rattle.wire.specs.Pick.{round_up}
use Rattle.wire.specs.Bytes.{part, put, zeros}
use Rattle.wire.proofs.ByteLaws.{part_length, zeros_length}
use Rattle.wire.proofs.PutLaws.{first, then}
use Rattle.wire.proofs.TestLaws.{means}
use Rattle.header.specs.Element.{block_size}
use Rattle.fronts.specs.declared.entries.Numbers.{Numbers}
use Rattle.fronts.specs.Front.{Stated, string_of, range_count, block_of, label_offset, texts_end, entry_length, entry_of}
use Rattle.fronts.specs.Given.{number_of, texts_length, stated_by, texts_short}
use Rattle.fronts.specs.Writing.{range_bytes, head_length, head_bytes, tail_length, tail_bytes, numbers_at, Ready}
use Rattle.fronts.proofs.EntryLaws.{string_length}
use Rattle.fronts.proofs.WriteLaws.{range_length, count_size}

-- lengths of the halves

pub head_length_lem : (kind continuous : ℕ) (name range : List ℕ) (from : ℕ) → length (head_bytes kind continuous name range from) ≡ head_length kind (length name)
unfolding head_bytes head_length
head_length_lem kind continuous name range from =
    let n = round_up 4 (10 + length name + block_size kind) - (10 + length name + block_size kind) in
    let a : List ℕ = (kind ∷ continuous ∷ []) ++ zeros 6 in
    let b = a ++ string_of name in
    let c = b ++ range_bytes kind (range_count kind) range from in
    length-append c (zeros n)
    ∙ omega (arith, length-append b (range_bytes kind (range_count kind) range from), length-append a (string_of name), length-append (kind ∷ continuous ∷ []) (zeros 6), zeros_length 6, zeros_length n, string_length name, range_length kind (range_count kind) range from, count_size kind)

pub tail_length_lem : (a b c : List ℕ) → length (tail_bytes a b c) ≡ tail_length (length a) (length b) (length c)
unfolding tail_bytes tail_length
tail_length_lem a b c =
    let n = round_up 4 (6 + length a + length b + length c) - (6 + length a + length b + length c) in
    length-append (string_of a ++ string_of b ++ string_of c) (zeros n)
    ∙ omega (arith, length-append (string_of a ++ string_of b) (string_of c), length-append (string_of a) (string_of b), zeros_length n, string_length a, string_length b, string_length c)

-- together they are an entry

regroup : (h a b c z : List ℕ) → h ++ a ++ b ++ c ++ z ≡ h ++ (a ++ b ++ c ++ z)
regroup h a b c z = simp append_assoc

pad_same :
    (x : Stated) → entry_length x - texts_end x ≡ tail_length (length x.label) (length x.description) (length x.unit) - (6 + length x.label + length x.description + length x.unit)
unfolding entry_length texts_end label_offset tail_length
pad_same x = omega arith

module _ (es ts : List ℕ) (e : ℕ) where
  pub entry_size_lem :
      entry_length (stated_by es ts e)
      ≡ head_length (stated_by es ts e).kind (length (stated_by es ts e).name)
      + tail_length (length (stated_by es ts e).label) (length (stated_by es ts e).description) (length (stated_by es ts e).unit)
  unfolding entry_length texts_end label_offset head_length tail_length
  entry_size_lem = omega arith

  block_same : block_of (stated_by es ts e) ≡ range_bytes (stated_by es ts e).kind (range_count (stated_by es ts e).kind) es (e * 14 + 6)
  unfolding block_of range_bytes stated_by
  block_same = refl

  offset_same : label_offset (stated_by es ts e) ≡ head_length (stated_by es ts e).kind (length (stated_by es ts e).name)
  unfolding label_offset head_length
  offset_same = refl

  pub entry_split :
      entry_of (stated_by es ts e)
      ≡ head_bytes (stated_by es ts e).kind (stated_by es ts e).continuous (stated_by es ts e).name es (e * 14 + 6)
      ++ tail_bytes (stated_by es ts e).label (stated_by es ts e).description (stated_by es ts e).unit
  unfolding entry_of head_bytes tail_bytes
  entry_split =
      let x = stated_by es ts e in
      rw (pad_same x, block_same, offset_same)
      (regroup (head_bytes x.kind x.continuous x.name es (e * 14 + 6)) (string_of x.label) (string_of x.description) (string_of x.unit)
      (zeros (tail_length (length x.label) (length x.description) (length x.unit) - (6 + length x.label + length x.description + length x.unit))))

-- what is read of an element, and the parts of the texts
pub record Parts (es ts : List ℕ) (e from : ℕ) (x : Numbers) (name label description unit : List ℕ) : Type 0 where
  pub ready : Ready es ts e from
  pub numbers : x ≡ numbers_at es e
  pub name_is : name ≡ part ts from x.name
  pub label_is : label ≡ part ts (from + x.name) x.label
  pub description_is : description ≡ part ts (from + x.name + x.label) x.description
  pub unit_is : unit ≡ part ts (from + x.name + x.label + x.description) x.unit

module _ (es ts : List ℕ) (e from : ℕ) (x : Numbers) (name label description unit : List ℕ) (p : Parts es ts e from x name label description unit) where
  name_told : name ≡ (stated_by es ts e).name
  unfolding numbers_at stated_by
  name_told = p.name_is ∙ rw (p.numbers, p.ready.start)

  label_told_lem : label ≡ (stated_by es ts e).label
  unfolding numbers_at stated_by
  label_told_lem = p.label_is ∙ rw (p.numbers, p.ready.start)

  description_told : description ≡ (stated_by es ts e).description
  unfolding numbers_at stated_by
  description_told = p.description_is ∙ rw (p.numbers, p.ready.start)

  unit_told : unit ≡ (stated_by es ts e).unit
  unfolding numbers_at stated_by
  unit_told = p.unit_is ∙ rw (p.numbers, p.ready.start)

  kind_told : x.kind ≡ (stated_by es ts e).kind
  unfolding numbers_at stated_by
  kind_told = rw p.numbers

  continuous_told : x.continuous ≡ (stated_by es ts e).continuous
  unfolding numbers_at stated_by
  continuous_told = rw p.numbers

  pub parts_size : head_length x.kind (length name) + tail_length (length label) (length description) (length unit) ≡ entry_length (stated_by es ts e)
  parts_size = rw (kind_told, name_told, label_told_lem, description_told, unit_told) (sym (entry_size_lem es ts e))

  pub parts_short : (length name < 65536) × ((length label < 65536) × ((length description < 65536) × (length unit < 65536)))
  unfolding texts_short numbers_at texts_length
  parts_short =
      let a = means _ p.ready.short in
      let i = p.ready.inside in
      let q = p.numbers in
      let n : x.name ≡ number_of es e 2 = rw q in
      let l : x.label ≡ number_of es e 3 = rw q in
      let d : x.description ≡ number_of es e 4 = rw q in
      let u : x.unit ≡ number_of es e 5 = rw q in (
        omega (arith, ap length p.name_is, part_length ts from x.name (omega arith), a.0),
        (
          omega (arith, ap length p.label_is, part_length ts (from + x.name) x.label (omega arith), a.1.0),
          (
            omega (arith, ap length p.description_is, part_length ts (from + x.name + x.label) x.description (omega arith), a.1.1.0),
            omega (arith, ap length p.unit_is, part_length ts (from + x.name + x.label + x.description) x.unit (omega arith), a.1.1.1.0),
          ),
        ),
      )

  pub parts_put :
      (d a l : List ℕ) (at m : ℕ) → a ≡ put d at (head_bytes x.kind x.continuous name es (e * 14 + 6)) → m ≡ at + head_length x.kind (length name) →
      l ≡ put a m (tail_bytes label description unit) → at + entry_length (stated_by es ts e) ≤ length d → l ≡ put d at (entry_of (stated_by es ts e))
  parts_put d a l at m u v w h =
      let z = parts_size in
      let n = then (first u (head_length_lem x.kind x.continuous name es (e * 14 + 6))) (tail_bytes label description unit) (tail_length (length label) (length description) (length unit)) m w (tail_length_lem label description unit) v (omega arith) in
      n.is ∙ ap (put d at) (rw (kind_told, continuous_told, name_told, label_told_lem, description_told, unit_told) (sym (entry_split es ts e)))
