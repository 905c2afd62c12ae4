-- The sections of a tile record, one behind the other. Assumes nothing.
use Prim.Native.Nat.{ℕ, zero, suc, ◌+◌, ◌-◌, ◌≤◌, ◌<◌}
use mathlib.Core.Path.{◌≡◌, sym, ◌∙◌}
use mathlib.Core.List.{List}
use native.Mathlib.Omega.{arith}
use native.Mathlib.Numerals.{add-one}
use lib.ListN.{length}
use borrow.Author.Tests.{le-leb, lt-leb}
use Rattle.wire.specs.Bytes.{u32_at}
use Rattle.wire.proofs.ItemLaws.{advance_grows, advance_mono, advance_more, advance_none}
use Rattle.wire.specs.Tests.{sum_below}
use Rattle.wire.specs.Items.{advance}
use Rattle.geometry.specs.Sizes.{stored_size, cap}
use Rattle.record.specs.Record.{record_limit, length_at}
use Rattle.bodies.specs.TileRecord.{section_end, section_at, next_section, section_start, section_length, longest_section}

pub section_is : (s : List ℕ) (p l n : ℕ) → l ≡ u32_at s p → n ≡ stored_size l → p + n ≡ section_end s p
unfolding section_end
section_is s p l n e f = rw (f, e)

stored_grows : (l : ℕ) → 4 ≤ stored_size l
unfolding stored_size
stored_grows l = omega arith

pub stored_most : (l n : ℕ) → n ≡ stored_size l → l < cap → (4 ≤ n) × (n ≤ longest_section)
unfolding stored_size
stored_most l n e h = (omega arith, omega arith)

pub section_grows : (s : List ℕ) (p : ℕ) → p + 4 ≤ section_end s p
unfolding section_end
section_grows s p = omega (arith, stored_grows (u32_at s p))

pub start_past : (s : List ℕ) (at e : ℕ) → length s ≤ at → 0 ≡ section_start s at e
unfolding section_start
start_past s at e h = rw (le-leb (length s) at h)

pub start_is : (s : List ℕ) (at e r : ℕ) → at < length s → r ≡ section_at s at e → r ≡ section_start s at e
unfolding section_start
start_is s at e r h q = rw (lt-leb (length s) at h) q

pub sections_begin : (s : List ℕ) (at e l : ℕ) → l ≡ record_limit s at → advance (section_end s) l e (at + 12) ≡ section_at s at e
unfolding section_at
sections_begin s at e l p = rw p

pub section_least : (s : List ℕ) (at e : ℕ) → at + 12 ≤ section_at s at e
unfolding section_at
section_least s at e = advance_grows (section_end s) (record_limit s at) (λ p. omega (arith, section_grows s p)) e (at + 12)

pub section_holds : (s : List ℕ) (p : ℕ) → p + 4 + u32_at s p ≤ section_end s p
unfolding section_end stored_size
section_holds s p = omega arith

pub section_mono : (s : List ℕ) (at e f : ℕ) → e ≤ f → section_at s at e ≤ section_at s at f
unfolding section_at
section_mono s at e f h =
    let q : e + (f - e) ≡ f = omega arith in
    rw q at (advance_mono (section_end s) (record_limit s at) (λ p. omega (arith, section_grows s p)) e (f - e) (at + 12))

-- a section more

pub next_past : (s : List ℕ) (at p l : ℕ) → l ≡ record_limit s at → l < p → p ≡ next_section s at p
unfolding next_section
next_past s at p l q h = rw (lt-leb p (record_limit s at) (omega arith))

pub next_in : (s : List ℕ) (at p l r : ℕ) → l ≡ record_limit s at → p ≤ l → r ≡ section_end s p → r ≡ next_section s at p
unfolding next_section
next_in s at p l r q h t = rw (le-leb p (record_limit s at) (omega arith)) t

pub section_more : (s : List ℕ) (at e p r : ℕ) → p ≡ section_at s at e → r ≡ next_section s at p → r ≡ section_at s at (e + 1)
unfolding section_at next_section
section_more s at e p r q t = t ∙ rw q (sym (advance_more (section_end s) (record_limit s at) e (at + 12)))

pub section_next : (s : List ℕ) (at e : ℕ) → section_at s at e ≤ record_limit s at → section_at s at (e + 1) ≡ section_end s (section_at s at e)
unfolding section_at
section_next s at e h = advance_more (section_end s) (record_limit s at) e (at + 12) ∙ rw (le-leb _ _ h)

-- where the sections end before the checksum, each is read, and they start where the sizes before them add up to
pub sections_sum :
    (s : List ℕ) (at e : ℕ) → section_at s at e ≤ record_limit s at →
    section_at s at e ≡ at + 12 + sum_below e (λ d. stored_size (section_length s at d))
unfolding section_at section_end section_length sum_below
sections_sum s at zero h = advance_none _ _ (at + 12) ∙ omega arith
sections_sum s at (suc e) h =
    let m : section_at s at e ≤ section_at s at (suc e) = section_mono s at e (suc e) (omega arith) in
    let q = sections_sum s at e (omega arith) in
    let n : section_at s at (suc e) ≡ section_end s (section_at s at e) = rw (← add-one e) (section_next s at e (omega arith)) in
    omega arith

pub limit_inside : (s : List ℕ) (at : ℕ) → record_limit s at ≤ at + length_at s at
unfolding record_limit
limit_inside s at = omega arith

-- where the record lies in the file
pub section_told : (s : List ℕ) (x e r : ℕ) → x < length s → r ≡ section_start s x e → r ≡ section_at s x e
unfolding section_start
section_told s x e r h p = rw (lt-leb (length s) x h) at p
