-- The names of the compression methods, one behind the other. Assumes nothing.
use Prim.Native.Nat.{ℕ, ◌+◌, ◌≤◌, ◌<◌}
use mathlib.Core.Path.{◌≡◌, refl, sym, ◌∙◌}
use mathlib.Core.List.{List, [], ◌∷◌}
use native.Mathlib.Omega.{arith}
use lib.ListN.{length, drop}
use borrow.Author.Tests.{le-leb, lt-leb}
use Rattle.wire.specs.Bytes.{u16_at, put}
use Rattle.wire.proofs.ItemLaws.{advance_none, advance_more}
use Rattle.header.specs.Fields.{element_count, header_limit}
use Rattle.header.specs.Element.{string_size, string_end, entry_start}
use Rattle.header.specs.Tail.{methods_at, method_count}
use Rattle.says.specs.declared.lists.Progress.{Progress}
use Rattle.says.specs.declared.lists.Listed.TheVariants.{Items}
use Rattle.says.specs.Lists.{items_of, item_numbers, offered, offered_to}
use Rattle.says.specs.Methods.{method_at, next_name, method_says, method_indexes}
use Rattle.says.proofs.ItemLaws.{Listing, list_begin, item_step, list_numbers_lem, list_items, below_drop, below_end}

pub method_first : (s : List ℕ) (n r : ℕ) → n ≡ element_count s → r ≡ entry_start s n → r + 4 ≡ method_at s 0
unfolding method_at methods_at
method_first s n r p q = rw (q, p) (sym (advance_none (string_end s) (header_limit s) (entry_start s (element_count s) + 4)))

pub name_beyond : (s : List ℕ) (at l : ℕ) → l ≡ header_limit s → l < at → at ≡ next_name s at
unfolding next_name
name_beyond s at l e h = rw (lt-leb at (header_limit s) (omega arith))

pub name_in : (s : List ℕ) (at l n : ℕ) → l ≡ header_limit s → at ≤ l → n ≡ string_size s at → at + n ≡ next_name s at
unfolding next_name string_end
name_in s at l n e h q = rw (le-leb at (header_limit s) (omega arith), q)

pub method_next : (s : List ℕ) (k at r : ℕ) → at ≡ method_at s k → r ≡ next_name s at → r ≡ method_at s (k + 1)
unfolding method_at next_name
method_next s k at r p q = q ∙ rw p (sym (advance_more (string_end s) (header_limit s) k (methods_at s + 4)))

method_long : (s : List ℕ) (k : ℕ) → length (method_says s k) ≡ 2
unfolding method_says
method_long s k = refl

method_item : (s : List ℕ) (k at : ℕ) (v : List ℕ) → at ≡ method_at s k → v ≡ (at + 2) ∷ u16_at s at ∷ [] → v ≡ method_says s k
unfolding method_says
method_item s k at v p q = q ∙ rw p

-- the loop: the names from k on are still to come

unfoldable pub names_ahead : List ℕ → ℕ → List ℕ
names_ahead s k = drop k (method_indexes s)

pub names_begin :
    (s : List ℕ) (from : ℕ) (d₀ : List ℕ) →
    Listing (method_says s) 2 from (method_indexes s) d₀ (record { skip = from; at = 0; taken = 0; seen = 0 }) d₀ (names_ahead s 0)
unfolding names_ahead
names_begin s from d₀ = list_begin (method_says s) 2 from (method_indexes s) d₀

module _ (s d₀ : List ℕ) (from k n : ℕ) (p : Progress) (d : List ℕ) (i : Listing (method_says s) 2 from (method_indexes s) d₀ p d (names_ahead s k)) (e : n ≡ method_count s) where
  pub names_step :
      (at : ℕ) (q : Progress) (d' v : List ℕ) → k < n → at ≡ method_at s k → v ≡ (at + 2) ∷ u16_at s at ∷ [] → q ≡ offered (length v) (length d) p →
      d' ≡ offered_to d v p → Listing (method_says s) 2 from (method_indexes s) d₀ q d' (names_ahead s (k + 1))
  unfolding names_ahead method_indexes
  names_step at q d' v h a b g w =
      item_step (method_says s) 2 from (method_indexes s) d₀ (method_long s) p d (drop (k + 1) (method_indexes s)) k
      (rw (below_drop (method_count s) k (omega arith)) at i) q d' v (method_item s k at v a b) g w

  none_left : n ≤ k → Listing (method_says s) 2 from (method_indexes s) d₀ p d []
  unfolding names_ahead method_indexes
  none_left h = rw (below_end (method_count s) k (omega arith)) at i

  pub names_end : n ≤ k → Items p.taken p.seen ≡ items_of 2 from (method_indexes s) (length d₀)
  names_end h = list_items (method_says s) 2 from (method_indexes s) d₀ p d (none_left h)

  pub names_written : n ≤ k → d ≡ put d₀ 0 (item_numbers (method_says s) 2 from (method_indexes s) (length d₀))
  names_written h = list_numbers_lem (method_says s) 2 from (method_indexes s) d₀ p d (none_left h)
