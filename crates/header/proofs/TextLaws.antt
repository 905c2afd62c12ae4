-- Descriptive strings: the judgement of one, of an entry's three, and that both depend only on the bytes that they are read from.
-- Assumes nothing.
use Prim.Native.Nat.{ℕ, ◌+◌, ◌-◌, ◌≤◌, ◌<◌}
use mathlib.Core.Path.{◌≡◌, refl, sym, ap, ◌∙◌}
use mathlib.Core.List.{List, []}
use mathlib.Core.Bool.{Bool, true, false}
use native.Mathlib.Omega.{arith}
use lib.ListN.{length}
use Rattle.wire.specs.Bytes.{u16_at, part, Same}
use Rattle.wire.proofs.ByteLaws.{number_same, part_same, part_out}
use Rattle.wire.proofs.TestLaws.{no, not_both, either_way}
use Rattle.utf8.specs.Utf8.{utf8, goes_on}
use Rattle.record.specs.Chain.{header_end}
use Rattle.header.specs.Fields.{element_count, header_limit}
use Rattle.header.specs.Element.{string_size, string_end, label_at, description_at, unit_at, entry_end, entry_start}
use Rattle.header.specs.Tail.{product_label_at, fields_end}
use Rattle.header.specs.Texts.{string_text, text_right, entry_texts}
use Rattle.header.proofs.SameLaws.{in_order, start_least, limit_is, label_same, description_same, unit_same, SameRest, entry_ends, at_same, methods_least, methods_from, product_label_same}

empty_right : true ≡ utf8 []
unfolding utf8 goes_on
empty_right = refl

-- a string that starts past the end has no bytes
pub text_past : (s : List ℕ) (at : ℕ) → length s ≤ at → true ≡ text_right s at
unfolding text_right string_text
text_past s at h = rw (part_out s (at + 2) (u16_at s at) (omega arith)) empty_right

pub text_judged : (s : List ℕ) (at n : ℕ) (x : List ℕ) (r : Bool) → n ≡ u16_at s at → x ≡ part s (at + 2) n → r ≡ utf8 x → r ≡ text_right s at
unfolding text_right string_text
text_judged s at n x r p q t = t ∙ rw (q, p)

-- the three strings of an entry

module _ (s : List ℕ) (at l : ℕ) (p : l ≡ label_at s at) (a : Bool) (q : a ≡ text_right s l) where
  label_told_lem : a ≡ text_right s (label_at s at)
  label_told_lem = q ∙ ap (text_right s) p

  pub label_not : a ≡ false → false ≡ entry_texts s at
  unfolding entry_texts
  label_not f = no _ (λ z. not_both z.0 (sym label_told_lem ∙ f))

  module _ (d : ℕ) (u : d ≡ string_end s l) (b : Bool) (v : b ≡ text_right s d) where
    description_told : b ≡ text_right s (description_at s at)
    unfolding description_at
    description_told = v ∙ rw (u, p)

    pub description_not : b ≡ false → false ≡ entry_texts s at
    unfolding entry_texts
    description_not f = no _ (λ z. not_both z.1.0 (sym description_told ∙ f))

    pub unit_last : (n : ℕ) → n ≡ string_end s d → (r : Bool) → r ≡ text_right s n → a ≡ true → b ≡ true → r ≡ entry_texts s at
    unfolding entry_texts unit_at description_at
    unit_last n w r k f g =
        let t : r ≡ text_right s (string_end s (string_end s (label_at s at))) = k ∙ rw (w, u, p) in
        either_way _ r (λ h. (sym label_told_lem ∙ f, (sym description_told ∙ g, (sym t ∙ h, tt)))) (λ h z. not_both z.1.1.0 (sym t ∙ h))

-- each string ends where the next one starts

label_ends : (s : List ℕ) (at : ℕ) → string_end s (label_at s at) ≡ description_at s at
unfolding description_at
label_ends s at = refl

description_ends : (s : List ℕ) (at : ℕ) → string_end s (description_at s at) ≡ unit_at s at
unfolding unit_at
description_ends s at = refl

-- the same in s and t where the bytes from a up to b are

module _ {s t : List ℕ} {a b : ℕ} (e : Same s t a b) where
  pub text_same : (at : ℕ) → a ≤ at → string_end s at ≤ b → text_right s at ≡ text_right t at
  unfolding text_right string_text string_end string_size
  text_same at h k =
      rw (part_same e (at + 2) (u16_at s at) (omega arith) (omega arith), number_same e 2 at h (omega arith))

  pub texts_same : (at : ℕ) → a ≤ at → entry_end s at ≤ b → entry_texts s at ≡ entry_texts t at
  unfolding entry_texts
  texts_same at h k =
      let o = in_order s at in
      let l = text_same (label_at s at) (omega arith) (omega (arith, label_ends s at)) in
      let d = text_same (description_at s at) (omega arith) (omega (arith, description_ends s at)) in
      let u = text_same (unit_at s at) (omega arith) (omega arith) in
      rw (l, d, u, label_same e at h k, description_same e at h k, unit_same e at h k)

-- and of two headers that agree behind 280

module _ (s t : List ℕ) (r : SameRest s t) where
  pub element_texts_same :
      (j k : ℕ) → j < k → entry_start s k ≤ header_limit s → entry_texts s (entry_start s j) ≡ entry_texts t (entry_start t j)
  element_texts_same j k h fit =
      texts_same r.rest (entry_start s j) (omega (arith, start_least s j)) (entry_ends s t r j k h fit)
      ∙ ap (entry_texts t) (at_same s t r j k h fit)

  label_fits : fields_end s ≤ header_limit s → string_end s (product_label_at s) ≤ header_end s - 4
  unfolding fields_end
  label_fits f = omega (arith, limit_is s r.in_first)

  pub product_text_same :
      element_count s ≡ element_count t → fields_end s ≤ header_limit s →
      text_right s (product_label_at s) ≡ text_right t (product_label_at t)
  product_text_same c f =
      text_same r.rest (product_label_at s) (omega (arith, methods_from s t r c f, methods_least s t r c f)) (label_fits f)
      ∙ ap (text_right t) (product_label_same s t r c f)
