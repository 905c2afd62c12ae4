-- What is asked of a tile before it is stored or removed, and of a page before it is closed. Assumes nothing.
use Rattle.std.specs.Prelude.{None, Option, Some}
use Prim.Native.Nat.{ℕ, min, ◌+◌, ◌≤◌, ◌<◌}
use mathlib.Core.Path.{◌≡◌, refl, sym, ap, ◌∙◌}
use mathlib.Core.List.{List}
use mathlib.Core.Bool.{Bool, true, false}
use mathlib.Core.Logic.{by_cases}
use native.Mathlib.Decide.{dec_le}
use native.Mathlib.Omega.{arith}
use lib.ListN.{length}
use borrow.Author.Tests.{eq-eqb, ne_eqb}
use Rattle.wire.specs.Tests.{all_below}
use Rattle.wire.specs.Pick.{pick}
use Rattle.wire.specs.Bytes.{u32_at}
use Rattle.wire.proofs.ByteLaws.{byte_out}
use Rattle.wire.proofs.TestLaws.{means, yes, no, below_none, below_more, below_not, each_all}
use Rattle.record.specs.Record.{type_at}
use Rattle.record.specs.Chain.{records_of}
use Rattle.record.proofs.FindLaws.{found_not, at_is}
use Rattle.header.specs.Fields.{element_count}
use Rattle.geometry.specs.Sizes.{element_bytes, cap}
use Rattle.bodies.specs.TileRecord.{section_start, section_length}
use Rattle.bodies.proofs.SectionLaws.{section_told}
use Rattle.bodies.specs.TileDirectory.{tile_directory_at}
use Rattle.tile_routes.specs.declared.Route.TheVariants.{Directory}
use Rattle.tile_routes.specs.Ways.{carries, referred_to, found_by}
use Rattle.correct.specs.Storing.{carrying, tile_referred, is_plain, stored_over}
use Rattle.correct.specs.Removing.{is_there}
use Rattle.correct.specs.Closing.{any_free}
use Rattle.edit_walks.specs.declared.Wanted.TheVariants.{Tile}
use Rattle.edit_walks.specs.Walks.{wanted_by, over_at}
use Rattle.edit_walks.specs.Runs.{plain_element}

carries_type : (s : List ℕ) (i x : ℕ) → carries s i x ≡ true → type_at s x ≡ 2
unfolding carries
carries_type s i x e = (means _ e).0

-- the tile's record

module _ (s : List ℕ) (i at : ℕ) {f : Option ℕ} (e : at ≡ tile_directory_at s) (g : f ≡ found_by s (Directory at) i) where
  referred_by : carrying s i f ≡ tile_referred s i
  unfolding found_by tile_referred
  referred_by = ap (carrying s i) (g ∙ ap (λ (y : ℕ). referred_to s y i) e)

  pub referred_none : f ≡ None → None ≡ tile_referred s i
  referred_none h = sym (ap (carrying s i) h) ∙ referred_by

  module _ (x : ℕ) {b : Bool} (h : f ≡ Some x) (k : b ≡ wanted_by s (Tile i) x) where
    pub referred_at : b ≡ true → Some x ≡ tile_referred s i
    unfolding wanted_by
    referred_at z = sym (ap (carrying s i) h ∙ rw (← k, z)) ∙ referred_by

    pub referred_not : b ≡ false → None ≡ tile_referred s i
    unfolding wanted_by
    referred_not z = sym (ap (carrying s i) h ∙ rw (← k, z)) ∙ referred_by

-- it starts in the page
pub tile_inside : (s : List ℕ) (i x : ℕ) {t : Option ℕ} → t ≡ Some x → t ≡ tile_referred s i → x < length s
unfolding tile_referred
tile_inside s i x {t} e g = go (referred_to s (tile_directory_at s) i) (sym g ∙ e)
  where
    type_inside : carries s i x ≡ true → x < length s
    type_inside c =
        by_cases (dec_le (length s) x)
        (λ h. let z : type_at s x ≡ 0 = sym (byte_out s (x + 4) (omega arith)) in absurd (omega (arith, carries_type s i x c)))
        (λ h. omega arith)

    here : (y : ℕ) (b : Bool) → carries s i y ≡ b → pick b (Some y) None ≡ Some x → x < length s
    here y true c h = let z : y ≡ x = at_is h in type_inside (rw z at c)
    here y false c h = found_not (sym h) refl

    go : (r : Option ℕ) → carrying s i r ≡ Some x → x < length s
    go None h = found_not (sym h) refl
    go (Some y) h = here y (carries s i y) refl h

-- its elements

module _ (s : List ℕ) (x e : ℕ) {p l u : ℕ} (h : x < length s) (a : p ≡ section_start s x e) (b : l ≡ u32_at s p) (c : u ≡ min (element_bytes s e) cap) where
  length_told : l ≡ section_length s x e
  unfolding section_length
  length_told = b ∙ ap (u32_at s) (section_told s x e p h a)

  pub element_not : (l ≡ u → ⊥) → l < 4294967296 → false ≡ plain_element s x e
  unfolding plain_element
  element_not z k = rw (ne_eqb (section_length s x e) (element_bytes s e) (λ q. z (omega (arith, length_told))))

  pub element_is : l ≡ u → l < 4294967296 → true ≡ plain_element s x e
  unfolding plain_element
  element_is z k = let q : section_length s x e ≡ element_bytes s e = omega (arith, length_told) in rw (eq-eqb (section_length s x e) (element_bytes s e) q)

-- the first e of them

abbrev pub Plains : List ℕ → ℕ → ℕ → Type 0
Plains s x e = all_below e (plain_element s x) ≡ true

pub plains_none : (s : List ℕ) (x : ℕ) → Plains s x 0
plains_none s x = below_none (plain_element s x)

pub plains_more : (s : List ℕ) (x e : ℕ) {b : Bool} → Plains s x e → b ≡ plain_element s x e → b ≡ true → Plains s x (e + 1)
plains_more s x e h f g = below_more e (plain_element s x) h (sym f ∙ g)

plain_is : (s : List ℕ) (x : ℕ) → is_plain s x ≡ all_below (element_count s) (plain_element s x)
unfolding is_plain plain_element
plain_is s x = refl

pub plains_not : (s : List ℕ) (x e n : ℕ) {b : Bool} → n ≡ element_count s → e < n → b ≡ plain_element s x e → b ≡ false → false ≡ is_plain s x
plains_not s x e n p h f g = below_not (element_count s) (plain_element s x) e (omega arith) (sym f ∙ g) ∙ sym (plain_is s x)

pub plains_all : (s : List ℕ) (x e n : ℕ) → n ≡ element_count s → Plains s x e → e ≤ n → n ≤ e → true ≡ is_plain s x
plains_all s x e n p f h k = each_all (element_count s) e (plain_element s x) f (omega arith) (omega arith) ∙ sym (plain_is s x)

-- whether it is stored over

module _ (s : List ℕ) (i : ℕ) {t : Option ℕ} (f : t ≡ tile_referred s i) where
  pub over_absent : t ≡ None → None ≡ over_at s i
  unfolding over_at stored_over
  over_absent e = rw (← f, e)

  pub over_plain : (x : ℕ) {b : Bool} → t ≡ Some x → b ≡ is_plain s x → b ≡ true → Some x ≡ over_at s i
  unfolding over_at stored_over
  over_plain x e g h = rw (← f, e, ← g, h)

  pub over_packed : (x : ℕ) {b : Bool} → t ≡ Some x → b ≡ is_plain s x → b ≡ false → None ≡ over_at s i
  unfolding over_at stored_over
  over_packed x e g h = rw (← f, e, ← g, h)

  pub there_yes : (x : ℕ) → t ≡ Some x → true ≡ is_there s i
  unfolding is_there
  there_yes x e = rw (← f, e)

  pub there_no : t ≡ None → false ≡ is_there s i
  unfolding is_there
  there_no e = rw (← f, e)

-- free records

pub free_no : (s : List ℕ) (n : ℕ) → n ≡ length (records_of s 0) → n ≡ 0 → false ≡ any_free s
unfolding any_free
free_no s n e z = no _ (λ p. omega (arith, p.0))

pub free_yes : (s : List ℕ) (n : ℕ) → n ≡ length (records_of s 0) → (n ≡ 0 → ⊥) → true ≡ any_free s
unfolding any_free
free_yes s n e z = yes _ (omega arith, tt)
