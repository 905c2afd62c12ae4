-- What the header says of a page and of an element, from its parts. Assumes nothing.
use Prim.Native.Nat.{ℕ, ◌+◌}
use mathlib.Core.Path.{◌≡◌, ◌∙◌}
use mathlib.Core.List.{List}
use borrow.Author.Tests.{ne_eqb}
use Rattle.wire.specs.Bytes.{byte_at, number_at, u16_at}
use Rattle.header.specs.Fields.{raster_space, coordinate_system}
use Rattle.header.specs.Element.{string_size, string_end, cell_size, block_at, label_at, description_at, entry_start}
use Rattle.header.specs.Tail.{method_count, product_label_at}
use Rattle.says.specs.declared.further.PageSaid.{PageSaid}
use Rattle.says.specs.declared.further.Texts.{Texts}
use Rattle.says.specs.declared.further.Floats.{Floats}
use Rattle.says.specs.declared.further.ElementSaid.{ElementSaid}
use Rattle.says.specs.Further.{said_of_page, texts_at, continuous_at, range_offset, range_bits, coded_bits, coded_at, said_at, said_of_element}

pub page_is :
    (s : List ℕ) (at n m r c : ℕ) → at ≡ product_label_at s → n ≡ u16_at s at → m ≡ method_count s → r ≡ raster_space s → c ≡ coordinate_system s →
    ◌≡◌ {A = PageSaid}
    (record {
      label = at + 2;
      label_length = n;
      uuid = 24;
      methods = m;
      raster_space = r;
      coordinate_system = c;
      coordinates = 136;
      coordinates_length = 144;
    })
    (said_of_page s)
unfolding said_of_page
page_is s at n m r c p q t u v = rw (q, p, t, u, v)

pub block_is : (s : List ℕ) (at n : ℕ) → n ≡ string_size s (at + 8) → at + 8 + n ≡ block_at s at
unfolding block_at string_end
block_is s at n e = rw e

pub texts_are :
    (s : List ℕ) (at l n z m : ℕ) → l ≡ label_at s at → n ≡ u16_at s l → z ≡ string_size s l → m ≡ u16_at s (l + z) →
    ◌≡◌ {A = Texts} (record { label = l + 2; label_length = n; description = l + z + 2; description_length = m }) (texts_at s at)
unfolding texts_at description_at string_end
texts_are s at l n z m p q t u = rw (u, t, q, p)

-- a value of the block, by the type code

module _ (s : List ℕ) (at d k b x : ℕ) (p : k ≡ byte_at s at) (q : b ≡ block_at s at) where
  pub range_coded : k ≡ 1 → x ≡ number_at 4 s (b + (20 + d)) → x ≡ range_bits s at d
  unfolding range_bits range_offset cell_size
  range_coded h e = rw (← p, h, ← q) e

  pub range_short : k ≡ 3 → x ≡ number_at 2 s (b + d) → x ≡ range_bits s at d
  unfolding range_bits range_offset cell_size
  range_short h e = rw (← p, h, ← q) e

  pub range_other : (k ≡ 1 → ⊥) → (k ≡ 3 → ⊥) → x ≡ number_at 4 s (b + d) → x ≡ range_bits s at d
  unfolding range_bits range_offset cell_size
  range_other g h e = rw (← p, ← q, ne_eqb k 1 g, ne_eqb k 3 h) e

  pub coded_is : k ≡ 1 → x ≡ number_at 4 s (b + d) → x ≡ coded_bits s at d
  unfolding coded_bits
  coded_is h e = rw (← p, h, ← q) e

pub coded_not : (s : List ℕ) (at d k : ℕ) → k ≡ byte_at s at → (k ≡ 1 → ⊥) → 0 ≡ coded_bits s at d
unfolding coded_bits
coded_not s at d k p g = rw (← p, ne_eqb k 1 g)

pub coded_are :
    (s : List ℕ) (at a b f c o : ℕ) → a ≡ coded_bits s at 0 → b ≡ coded_bits s at 4 → f ≡ coded_bits s at 8 → c ≡ coded_bits s at 12 → o ≡ coded_bits s at 16 →
    ◌≡◌ {A = Floats} (record { minimum = a; maximum = b; fill = f; scale = c; offset = o }) (coded_at s at)
unfolding coded_at
coded_are s at a b f c o p q t u v = rw (p, q, t, u, v)

pub said_is :
    (s : List ℕ) (at : ℕ) (t : Texts) (k a b : ℕ) (c : Floats) → t ≡ texts_at s at → k ≡ byte_at s (at + 1) → a ≡ range_bits s at 0 → b ≡ range_bits s at 4 →
    c ≡ coded_at s at → ◌≡◌ {A = ElementSaid} (record { texts = t; continuous = k; minimum = a; maximum = b; coded = c }) (said_at s at)
unfolding said_at continuous_at
said_is s at t k a b c p q u v w = rw (p, q, u, v, w)

pub element_said : (s : List ℕ) (e at : ℕ) (x : ElementSaid) → at ≡ entry_start s e → x ≡ said_at s at → x ≡ said_of_element s e
unfolding said_of_element
element_said s e at x p q = q ∙ rw p
