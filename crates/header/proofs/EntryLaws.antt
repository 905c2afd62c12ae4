-- Strings and element entries. Assumes nothing.
use Prim.Native.Nat.{ℕ, ◌+◌, ◌*◌, ◌/◌, ◌-◌, ◌≤◌, ◌<◌}
use mathlib.Core.Path.{◌≡◌, sym, ◌∙◌}
use mathlib.Core.List.{List}
use native.Mathlib.Omega.{arith}
use borrow.Author.Tests.{ne_eqb, le-leb, lt-leb}
use Rattle.wire.specs.Bytes.{byte_at, number_at, u16_at}
use Rattle.wire.specs.Items.{advance}
use Rattle.wire.proofs.ItemLaws.{advance_more, items_step}
use Rattle.header.specs.declared.Element.{Element}
use Rattle.header.specs.Fields.{header_limit, element_count}
use Rattle.header.specs.Element.{unit_place, unit_length, string_size, string_end, block_size, fill_offset, cell_size, block_at, label_at, description_at, unit_at, entry_end, fill_bits, entry_at, entry_start, next_entry, element, entries_read}
use Rattle.header.specs.Tail.{methods_at, method_count, product_label_at, fields_end}

-- an entry, from its parts

pub size_is : (s : List ℕ) (at n : ℕ) → n ≡ u16_at s at → 2 + n ≡ string_size s at
unfolding string_size
size_is s at n e = rw e

pub string_is : (s : List ℕ) (at n : ℕ) → n ≡ string_size s at → at + n ≡ string_end s at
unfolding string_end
string_is s at n e = rw e

pub label_is : (s : List ℕ) (at b n : ℕ) → b ≡ block_at s at → n ≡ block_size (byte_at s at) → (b + n + 3) / 4 * 4 ≡ label_at s at
unfolding label_at
label_is s at b n p q = rw (p, q)

pub entry_is :
    (s : List ℕ) (at l d u e : ℕ) → l ≡ label_at s at → d ≡ string_end s l → u ≡ string_end s d → e ≡ string_end s u →
    at + (e - at + 3) / 4 * 4 ≡ entry_end s at
unfolding entry_end unit_at description_at
entry_is s at l d u e p q r t = rw (t, r, q, p)

-- the fill, by the type code

module _ (s : List ℕ) (at k b x : ℕ) (p : k ≡ byte_at s at) (q : b ≡ block_at s at) where
  pub fill_coded : k ≡ 1 → x ≡ number_at 4 s (b + 28) → x ≡ fill_bits s at
  unfolding fill_bits fill_offset cell_size
  fill_coded h e = rw (← p, h, ← q) e

  pub fill_short : k ≡ 3 → x ≡ number_at 2 s (b + 8) → x ≡ fill_bits s at
  unfolding fill_bits fill_offset cell_size
  fill_short h e = rw (← p, h, ← q) e

  pub fill_other : (k ≡ 1 → ⊥) → (k ≡ 3 → ⊥) → x ≡ number_at 4 s (b + 8) → x ≡ fill_bits s at
  unfolding fill_bits fill_offset cell_size
  fill_other g h e = rw (← p, ← q, ne_eqb k 1 g, ne_eqb k 3 h) e

pub size_short : (k : ℕ) → k ≡ 3 → 2 ≡ cell_size k
unfolding cell_size
size_short k e = rw e

pub size_other : (k : ℕ) → (k ≡ 3 → ⊥) → 4 ≡ cell_size k
unfolding cell_size
size_other k n = rw (ne_eqb k 3 n)

pub block_coded : (k : ℕ) → k ≡ 1 → 32 ≡ block_size k
unfolding block_size
block_coded k e = rw e

pub block_other : (k : ℕ) → (k ≡ 1 → ⊥) → 12 ≡ block_size k
unfolding block_size
block_other k n = rw (ne_eqb k 1 n)

pub entry_whole_lem :
    (s : List ℕ) (at k n f e : ℕ) → k ≡ byte_at s at → n ≡ u16_at s (at + 8) → f ≡ fill_bits s at → e ≡ entry_end s at →
    ◌≡◌ {A = Element} (record { kind = k; name = at + 10; name_length = n; fill = f; end = e }) (entry_at s at)
unfolding entry_at
entry_whole_lem s at k n f e p q r t = rw (p, q, r, t)

pub entries_begin : (s : List ℕ) (e l : ℕ) → l ≡ header_limit s → advance (entry_end s) l (e - 0) 284 ≡ entry_start s e
unfolding entry_start
entries_begin s e l p = let z : e - 0 ≡ e = omega arith in rw (z, p)

-- an entry more

pub next_past : (s : List ℕ) (at l : ℕ) → l ≡ header_limit s → l < at → at ≡ next_entry s at
unfolding next_entry
next_past s at l p h = rw (lt-leb at (header_limit s) (omega arith))

pub next_in : (s : List ℕ) (at l r : ℕ) → l ≡ header_limit s → at ≤ l → r ≡ entry_end s at → r ≡ next_entry s at
unfolding next_entry
next_in s at l r p h q = rw (le-leb at (header_limit s) (omega arith)) q

pub entry_next : (s : List ℕ) (e at r : ℕ) → at ≡ entry_start s e → r ≡ next_entry s at → r ≡ entry_start s (e + 1)
unfolding entry_start next_entry
entry_next s e at r p q = q ∙ rw p (sym (advance_more (entry_end s) (header_limit s) e 284))

-- its type code
pub kind_is : (s : List ℕ) (e at k : ℕ) → at ≡ entry_start s e → k ≡ byte_at s at → k ≡ (element s e).kind
unfolding element entry_at
kind_is s e at k p q = q ∙ rw p

-- a string more
-- one of `count` items more, behind i of them
pub items_next :
    (next : ℕ → ℕ) (limit count i at b x : ℕ) → advance next limit (count - i) at ≡ x → i < count → at ≤ limit → b ≡ next at →
    advance next limit (count - (i + 1)) b ≡ x
items_next next limit count i at b x e h k p =
    let m : count - (i + 1) ≡ count - i - 1 = omega arith in
    rw m (items_step next limit (count - i) at b x e (omega arith) k p)

pub strings_next :
    (s : List ℕ) (limit count i at n x : ℕ) → advance (string_end s) limit (count - i) at ≡ x → i < count → at ≤ limit → n ≡ string_size s at →
    advance (string_end s) limit (count - (i + 1)) (at + n) ≡ x
strings_next s limit count i at n x e h k p = items_next (string_end s) limit count i at (at + n) x e h k (string_is s at n p)

pub methods_begin :
    (s : List ℕ) (l m n : ℕ) → l ≡ header_limit s → m ≡ methods_at s → n ≡ method_count s →
    advance (string_end s) l (n - 0) (m + 4) ≡ product_label_at s
unfolding product_label_at
methods_begin s l m n p q r = let z : n - 0 ≡ n = omega arith in rw (z, p, q, r)

pub fields_is : (s : List ℕ) (p n : ℕ) → p ≡ product_label_at s → n ≡ string_size s p → p + n + 8 ≡ fields_end s
unfolding fields_end string_end
fields_is s p n f g = rw (g, f)

pub read_all : (s : List ℕ) (n : ℕ) → n ≡ element_count s → n ≤ 16 → n ≡ entries_read s
unfolding entries_read
read_all s n p h = omega arith

pub read_some : (s : List ℕ) (n : ℕ) → n ≡ element_count s → 16 < n → 16 ≡ entries_read s
unfolding entries_read
read_some s n p h = omega arith

-- Req 10: where a unit string stands

pub unit_is : (s : List ℕ) (e at l d u : ℕ) → at ≡ entry_start s e → l ≡ label_at s at → d ≡ string_end s l → u ≡ string_end s d → u ≡ unit_at s (entry_start s e)
unfolding unit_at description_at
unit_is s e at l d u p q r t = t ∙ rw (r, q, p)

pub place_of_unit : (s : List ℕ) (e u : ℕ) → u ≡ unit_at s (entry_start s e) → u + 2 ≡ unit_place s e
unfolding unit_place
place_of_unit s e u p = rw p

pub length_of_unit : (s : List ℕ) (e u n : ℕ) → u ≡ unit_at s (entry_start s e) → n ≡ u16_at s u → n ≡ unit_length s e
unfolding unit_length
length_of_unit s e u n p q = q ∙ rw p
