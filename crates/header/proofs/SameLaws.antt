-- What a header says depends only on the bytes that it is read from. Assumes nothing.
use Prim.Native.Nat.{ℕ, ◌+◌, ◌-◌, ◌≤◌, ◌<◌}
use mathlib.Core.Path.{◌≡◌, refl, ap, ◌∙◌}
use mathlib.Core.List.{List}
use mathlib.Core.Bool.{Bool, true, false}
use native.Mathlib.Omega.{arith}
use lib.ListN.{length}
use lib.Dec.{eqb}
use borrow.Author.Tests.{le-leb}
use Rattle.wire.specs.Pick.{pick, round_up}
use Rattle.wire.specs.Bytes.{byte_at, u16_at, u32_at, part, Same}
use Rattle.wire.specs.Items.{advance}
use Rattle.wire.proofs.ByteLaws.{number_same, part_same, byte_same}
use Rattle.wire.proofs.ItemLaws.{advance_grows, advance_same, advance_mono, advance_more}
use Rattle.header.specs.Fields.{header_limit, element_count}
use Rattle.record.specs.Record.{record_limit}
use Rattle.record.specs.Chain.{header_end}
use Rattle.header.specs.Element.{string_size, string_end, block_size, fill_offset, cell_size, block_at, label_at, description_at, unit_at, entry_end, fill_bits, entry_at, entry_start, element, element_name, unit_place, unit_length}
use Rattle.header.specs.Tail.{methods_at, method_count, product_label_at, fields_end}

-- positions only grow

pub string_grows : (s : List ℕ) (at : ℕ) → at + 2 ≤ string_end s at
unfolding string_end string_size
string_grows s at = omega arith

string_at : (s : List ℕ) (at : ℕ) → string_end s (at + 8) ≡ at + 10 + u16_at s (at + 8)
unfolding string_end string_size
string_at s at = omega arith

block_least : (k : ℕ) → (12 ≤ block_size k) × (fill_offset k + cell_size k ≤ block_size k)
unfolding block_size fill_offset cell_size
block_least k = go (eqb k 1) refl (eqb k 3) refl
  where
    go :
        (a : Bool) → eqb k 1 ≡ a → (b : Bool) → eqb k 3 ≡ b →
        (12 ≤ pick (eqb k 1) 32 12) × (pick (eqb k 1) 28 8 + pick (eqb k 3) 2 4 ≤ pick (eqb k 1) 32 12)
    go true p true q = rw (p, q) (omega arith, omega arith)
    go true p false q = rw (p, q) (omega arith, omega arith)
    go false p true q = rw (p, q) (omega arith, omega arith)
    go false p false q = rw (p, q) (omega arith, omega arith)

-- the positions of an entry, in their order
pub record InOrder (s : List ℕ) (at : ℕ) : Type 0 where
  pub block : block_at s at ≡ at + 10 + u16_at s (at + 8)
  pub fill : block_at s at + (fill_offset (byte_at s at) + cell_size (byte_at s at)) ≤ label_at s at
  pub description : label_at s at + 2 ≤ description_at s at
  pub unit : description_at s at + 2 ≤ unit_at s at
  pub end : unit_at s at + 2 ≤ entry_end s at
  pub label : at + 22 ≤ label_at s at
  pub last : string_end s (unit_at s at) ≤ entry_end s at

pub in_order : (s : List ℕ) (at : ℕ) → InOrder s at
unfolding block_at label_at description_at unit_at entry_end
in_order s at =
    let b = block_least (byte_at s at) in
    let p : string_end s (at + 8) ≡ at + 10 + u16_at s (at + 8) = string_at s at in
    let d = string_grows s (round_up 4 (string_end s (at + 8) + block_size (byte_at s at))) in
    let u = string_grows s (string_end s (round_up 4 (string_end s (at + 8) + block_size (byte_at s at)))) in
    let e = string_grows s (string_end s (string_end s (round_up 4 (string_end s (at + 8) + block_size (byte_at s at))))) in
    record {
      block = p;
      fill = omega arith;
      description = d;
      unit = u;
      end = omega arith;
      label = omega arith;
      last = omega arith;
    }

pub entry_grows : (s : List ℕ) (at : ℕ) → at ≤ entry_end s at
entry_grows s at = let o = in_order s at in omega arith

-- where entries start: from 284 on, each where the one before it ends

pub start_mono : (s : List ℕ) (j k : ℕ) → j ≤ k → entry_start s j ≤ entry_start s k
unfolding entry_start
start_mono s j k h =
    let e : j + (k - j) ≡ k = omega arith in
    rw e at (advance_mono (entry_end s) (header_limit s) (entry_grows s) j (k - j) 284)

start_next : (s : List ℕ) (j : ℕ) → entry_start s j ≤ header_limit s → entry_start s (j + 1) ≡ entry_end s (entry_start s j)
unfolding entry_start
start_next s j h = advance_more (entry_end s) (header_limit s) j 284 ∙ rw (le-leb _ _ h)

pub start_least : (s : List ℕ) (j : ℕ) → 284 ≤ entry_start s j
unfolding entry_start
start_least s j = advance_grows (entry_end s) (header_limit s) (entry_grows s) j 284

-- where k entries fit before the header's checksum, so does each of them, and its unit, the last of its strings

module _ (s : List ℕ) (j k : ℕ) (h : j < k) (fit : entry_start s k ≤ header_limit s) where
  entry_fits : entry_end s (entry_start s j) ≤ header_limit s
  entry_fits =
      let p = start_mono s j k (omega arith) in
      let q = start_mono s (j + 1) k (omega arith) in
      let n = start_next s j (omega arith) in
      omega arith

  pub unit_fits : unit_place s j + unit_length s j ≤ header_limit s
  unfolding unit_place unit_length string_end string_size
  unit_fits = omega (arith, entry_fits, (in_order s (entry_start s j)).last)

-- the header's checksum starts four bytes before its end, where the bytes hold it
pub limit_is : (s : List ℕ) → header_end s ≤ length s → header_limit s ≡ header_end s - 4
unfolding record_limit header_end
limit_is s h = omega arith

-- a string, and an entry that ends by b, are the same in s and t where the bytes from a up to b are

module _ {s t : List ℕ} {a b : ℕ} (e : Same s t a b) where
  pub string_same : (at : ℕ) → a ≤ at → at + 2 ≤ b → string_end s at ≡ string_end t at
  unfolding string_end string_size
  string_same at h k = rw (number_same e 2 at h k)

  module _ (at : ℕ) (h : a ≤ at) (k : entry_end s at ≤ b) where
    pub kind_same : byte_at s at ≡ byte_at t at
    kind_same = let o = in_order s at in byte_same e at h (omega arith)

    block_same : block_at s at ≡ block_at t at
    unfolding block_at
    block_same = let o = in_order s at in string_same (at + 8) (omega arith) (omega arith)

    pub label_same : label_at s at ≡ label_at t at
    unfolding label_at
    label_same = rw (block_same, kind_same)

    pub description_same : description_at s at ≡ description_at t at
    unfolding description_at
    description_same = let o = in_order s at in string_same (label_at s at) (omega arith) (omega arith) ∙ ap (string_end t) label_same

    pub unit_same : unit_at s at ≡ unit_at t at
    unfolding unit_at
    unit_same = let o = in_order s at in string_same (description_at s at) (omega arith) (omega arith) ∙ ap (string_end t) description_same

    pub entry_same : entry_end s at ≡ entry_end t at
    unfolding entry_end
    entry_same =
        let o = in_order s at in
        let p : string_end s (unit_at s at) ≡ string_end t (unit_at t at) = string_same (unit_at s at) (omega arith) (omega arith) ∙ ap (string_end t) unit_same in
        rw p

    size_same : u16_at s (at + 8) ≡ u16_at t (at + 8)
    size_same = let o = in_order s at in number_same e 2 (at + 8) (omega arith) (omega arith)

    fill_same : fill_bits s at ≡ fill_bits t at
    unfolding fill_bits
    fill_same =
        let o = in_order s at in
        number_same e (cell_size (byte_at s at)) (block_at s at + fill_offset (byte_at s at)) (omega arith) (omega arith)
        ∙ rw (kind_same, block_same)

    pub entry_at_same : entry_at s at ≡ entry_at t at
    unfolding entry_at
    entry_at_same = rw (kind_same, size_same, fill_same, entry_same)

    pub name_same : part s (at + 10) (u16_at s (at + 8)) ≡ part t (at + 10) (u16_at s (at + 8))
    name_same = let o = in_order s at in part_same e (at + 10) (u16_at s (at + 8)) (omega arith) (omega arith)

-- the header's fields behind 280: two lists of bytes that hold a header of one length, the same from 280 to its checksum

pub record SameRest (s t : List ℕ) : Type 0 where
  pub length_same : header_end s ≡ header_end t
  pub in_first : header_end s ≤ length s
  pub in_second : header_end t ≤ length t
  pub rest : Same s t 280 (header_end s - 4)

module _ (s t : List ℕ) (r : SameRest s t) where
  pub limit_same : header_limit s ≡ header_limit t
  unfolding record_limit header_end
  limit_same = omega (arith, r.in_first, r.in_second, r.length_same)

  pub start_same : (k : ℕ) → entry_start s k ≤ header_limit s → entry_start s k ≡ entry_start t k
  unfolding entry_start
  start_same k h =
      let l = limit_is s r.in_first in
      rw (← limit_same)
      (advance_same (entry_end s) (entry_end t) (header_limit s) 280 (entry_grows s) (λ at i j. entry_same r.rest at i (omega arith)) k 284 (omega arith) h)

  module _ (j k : ℕ) (h : j < k) (fit : entry_start s k ≤ header_limit s) where
    pub entry_ends : entry_end s (entry_start s j) ≤ header_end s - 4
    entry_ends = omega (arith, limit_is s r.in_first, entry_fits s j k h fit)

    pub at_same : entry_start s j ≡ entry_start t j
    at_same = let p = start_mono s j k (omega arith) in start_same j (omega arith)

    pub element_same : element s j ≡ element t j
    unfolding element
    element_same =
        entry_at_same r.rest (entry_start s j) (omega (arith, start_least s j)) entry_ends ∙ ap (entry_at t) at_same

    pub element_name_same : element_name s j ≡ element_name t j
    unfolding element_name element entry_at
    element_name_same =
        name_same r.rest (entry_start s j) (omega (arith, start_least s j)) entry_ends
        ∙ rw (size_same r.rest (entry_start s j) (omega (arith, start_least s j)) entry_ends, at_same)

  -- what follows the entries

  module _ (count : element_count s ≡ element_count t) (fit : fields_end s ≤ header_limit s) where
    label_least : product_label_at s + 10 ≤ fields_end s
    unfolding fields_end
    label_least = omega (arith, string_grows s (product_label_at s))

    pub methods_least : methods_at s + 4 ≤ product_label_at s
    unfolding product_label_at
    methods_least = advance_grows (string_end s) (header_limit s) (λ at. omega (arith, string_grows s at)) (method_count s) (methods_at s + 4)

    pub methods_from : 284 ≤ methods_at s
    unfolding methods_at
    methods_from = start_least s (element_count s)

    pub methods_at_same : methods_at s ≡ methods_at t
    unfolding methods_at
    methods_at_same = start_same (element_count s) (methods_fit methods_least) ∙ ap (entry_start t) count
      where
        methods_fit : methods_at s + 4 ≤ product_label_at s → entry_start s (element_count s) ≤ header_limit s
        methods_fit m = omega (arith, label_least)

    pub method_count_same : method_count s ≡ method_count t
    unfolding method_count
    method_count_same =
        let l = limit_is s r.in_first in
        let m = methods_least in
        let n = label_least in
        number_same r.rest 4 (methods_at s) (omega (arith, methods_from)) (omega arith) ∙ ap (u32_at t) methods_at_same

    pub product_label_same : product_label_at s ≡ product_label_at t
    unfolding product_label_at
    product_label_same =
        let l = limit_is s r.in_first in
        let n : advance (string_end s) (header_limit s) (method_count s) (methods_at s + 4) ≤ header_limit s = omega (arith, label_least) in
        let g : (at : ℕ) → at ≤ string_end s at = λ at. omega (arith, string_grows s at) in
        rw (← limit_same, ← method_count_same, ← methods_at_same)
        (advance_same (string_end s) (string_end t) (header_limit s) 280 g (λ at i j. string_same r.rest at i (omega (arith, string_grows s at)))
        (method_count s) (methods_at s + 4) (omega (arith, methods_from)) n)

    pub fields_end_same : fields_end s ≡ fields_end t
    unfolding fields_end
    fields_end_same =
        let l = limit_is s r.in_first in
        let m = methods_least in
        let n = label_least in
        rw (string_same r.rest (product_label_at s) (omega (arith, methods_from)) (omega arith), product_label_same)
