-- What the calls read of a page, and of a page that is such as they take for granted. Assumes nothing.
use Prim.Native.Nat.{ℕ, ◌≤◌, ◌<◌}
use mathlib.Core.Path.{◌≡◌, refl, sym, ap, ◌∙◌}
use mathlib.Core.List.{List, []}
use mathlib.Core.Bool.{Bool, true, false}
use mathlib.Core.Logic.{by_cases}
use native.Mathlib.Decide.{dec_le}
use native.Mathlib.Omega.{arith}
use lib.ListN.{length}
use lib.Dec.{eqb}
use borrow.Author.Tests.{eq-eqb, ne_eqb}
use Rattle.wire.specs.Pick.{pick}
use Rattle.wire.specs.Bytes.{part}
use Rattle.wire.proofs.ByteLaws.{part_length, part_out, number_out}
use Rattle.wire.proofs.TestLaws.{means, yes, no, not_both}
use Rattle.record.specs.Record.{length_at}
use Rattle.record.specs.Chain.{header_end}
use Rattle.header.specs.Fields.{checksum_enabled, element_count}
use Rattle.geometry.specs.Tiles.{tile_count}
use Rattle.geometry.specs.Sizes.{tile_bytes, plain_tile_length}
use Rattle.geometry.proofs.SizeLaws.{plain_most}
use Rattle.bodies.specs.TileDirectory.{tile_directory_at, standard_references, reference_size}
use Rattle.check_header.specs.Ceilings.{within_ceilings}
use Rattle.tile_sizes.specs.TileSizes.{tile_small, length_of_tile}
use Rattle.tile_sizes.proofs.SizeLaws.{entries_few, length_is}
use Rattle.correct.specs.Front.{page_in, workable}
use Rattle.correct.proofs.ListLaws.{part_page}
use Rattle.calls.specs.Layouts.{is_wide, layout_of}

-- what every call takes for granted

module _ (s : List ℕ) (end : ℕ) (e : end ≡ header_end s) where
  pub work_short : end < 88 → false ≡ workable s
  unfolding workable
  work_short h = no _ (λ p. omega (arith, p.1.0))

  module _ (at : ℕ) (f : at ≡ tile_directory_at s) where
    pub work_before : at < end → false ≡ workable s
    unfolding workable
    work_before h = no _ (λ p. omega (arith, p.1.1.0))

    pub work_within : 88 ≤ end → end ≤ at → {r : Bool} → r ≡ within_ceilings s (length s) → r ≡ workable s
    unfolding workable
    work_within h g {r} w = go r w
      where
        go : (r : Bool) → r ≡ within_ceilings s (length s) → r ≡ workable s
        go true w = yes _ (sym w, (omega arith, (omega arith, tt)))
        go false w = no _ (λ p. not_both p.0 (sym w))

pub wide_not : (s : List ℕ) (n : ℕ) → n ≡ reference_size s → (n ≡ 8 → ⊥) → false ≡ is_wide s
unfolding is_wide
wide_not s n e z = rw (ne_eqb (reference_size s) 8 (λ q. z (e ∙ q)))

pub wide_yes : (s : List ℕ) (n : ℕ) → n ≡ reference_size s → n ≡ 8 → true ≡ is_wide s
unfolding is_wide
wide_yes s n e z = rw (eq-eqb (reference_size s) 8 (sym e ∙ z))

-- eight bytes or four
pub wide_size : (s : List ℕ) → pick (is_wide s) 8 4 ≡ reference_size s
unfolding is_wide reference_size
wide_size s = go (eqb (standard_references s (tile_directory_at s)) 1)
  where
    go : (b : Bool) → ◌≡◌ {A = ℕ} (pick (eqb (pick b 8 4) 8) 8 4) (pick b 8 4)
    go true = refl
    go false = refl

pub layout_is :
    (s : List ℕ) {flag end directory long : ℕ} {wide : Bool} → flag ≡ checksum_enabled s → end ≡ header_end s → directory ≡ tile_directory_at s →
    long ≡ length_at s directory → wide ≡ is_wide s →
    record { flag = flag; end = end; directory = directory; long = long; wide = wide } ≡ layout_of s
unfolding layout_of
layout_is s e f g h i = rw (e, f, h, g, i)

-- what it means

pub record Worked (s : List ℕ) : Type 0 where
  pub file : length s ≤ 16777216
  pub tiles : tile_count s ≤ 65536
  pub elements : element_count s ≤ 16
  pub tile : tile_bytes s ≤ 1048576
  pub header : 88 ≤ header_end s
  pub apart : header_end s ≤ tile_directory_at s

pub worked_of : (s : List ℕ) → workable s ≡ true → Worked s
unfolding workable within_ceilings
worked_of s e =
    let w = means _ e in
    let h = means _ w.0 in
    record { file = h.0; tiles = h.1.1.0; elements = h.1.1.1.0; tile = h.1.1.1.1.0; header = w.1.0; apart = w.1.1.0 }

module _ (s : List ℕ) (w : Worked s) where
  pub worked_small : tile_small s ≡ true
  unfolding tile_small
  worked_small = sym (yes _ (w.tile, tt))

  pub tile_length_is : (r : ℕ) → r ≡ length_of_tile s → r ≡ plain_tile_length s
  tile_length_is r e = e ∙ sym (length_is s worked_small (plain_tile_length s) refl)

  pub plain_small : plain_tile_length s ≤ 1048711
  plain_small = omega (arith, plain_most s, w.tile, entries_few s)

-- of a page in a buffer: it lies whole in it

module _ (b : List ℕ) (n : ℕ) where
  pub page_own : workable (page_in b n) ≡ true → length (page_in b n) ≡ n
  unfolding page_in header_end
  page_own e =
      by_cases (dec_le n (length b)) (λ h. part_length b 0 n (omega arith))
      (λ h.
      let z : part b 0 n ≡ [] = part_out b 0 n (omega arith) in
      let w : 88 ≤ header_end [] = (worked_of [] (rw z at e)).header in
      absurd (omega (arith, number_out 4 [] 16 (omega arith))))

  pub page_in_lem : workable (page_in b n) ≡ true → n ≤ length b
  unfolding page_in
  page_in_lem e = by_cases (dec_le n (length b)) (λ h. h) (λ h. let z = ap length (part_out b 0 n (omega arith)) in omega (arith, page_own e, z))

  pub page_worked : {s : List ℕ} → s ≡ part b 0 n → workable (page_in b n) ≡ true → workable s ≡ true
  page_worked e h = ap workable (part_page b n e) ∙ h

  pub worked_page : {s : List ℕ} {w : Bool} → s ≡ part b 0 n → w ≡ workable s → {v : Bool} → w ≡ v → workable (page_in b n) ≡ v
  worked_page e f g = ap workable (sym (part_page b n e)) ∙ sym f ∙ g
