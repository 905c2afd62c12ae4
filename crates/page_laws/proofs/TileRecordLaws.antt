-- The record of a tile by where it is found, and that it is found there again where it stays. Assumes nothing.
use Rattle.std.specs.Prelude.{None, Option, Some}
use Prim.Native.Nat.{ℕ, ◌+◌}
use mathlib.Core.Path.{◌≡◌, refl, sym, ap, subst, ◌∙◌}
use mathlib.Core.List.{List, [], ◌∷◌, ◌++◌, append_assoc, Memᴰ}
use mathlib.Core.Logic.{◌⊎◌, ⊎_elim, inl, inr}
use mathlib.Core.Bool.{Bool, true, false}
use lib.ListN.{length, take, length-append}
use lib.Dec.{eqb}
use Rattle.wire.specs.Pick.{pick}
use Rattle.wire.specs.Tests.{passes}
use Rattle.wire.proofs.PlaceLaws.{Placed, placed_self}
use Rattle.record.specs.Record.{type_at}
use Rattle.record.specs.Chain.{header_end, records, find, first_record, joined, starts_of, WellFormed}
use Rattle.bodies.specs.TileRecord.{tile_index}
use Rattle.page_check.specs.Accepted.{Sound}
use Rattle.tile_routes.specs.Ways.{carries, walked_to}
use Rattle.pieces.specs.Pieces.{pieces}
use Rattle.pieces.specs.Standing.{standing}
use Rattle.alone.specs.Alone.{SameRecord}
use Rattle.alone.proofs.PieceLaws.{placed_same, starts_are}
use Rattle.alone.proofs.StandLaws.{Stands, stands}
use Rattle.writable.proofs.PartLaws.{sound_parted}
use Rattle.correct.specs.Storing.{tile_at}
use Rattle.page_laws.specs.Tiles.{standing_of, of_tile, record_of_tile}
use Rattle.page_laws.proofs.TileMapLaws.{carries_same, stands_of}

-- where the first of some records stands
abbrev first_place : List (ℕ × List ℕ) → Option ℕ
first_place [] = None
first_place (p ∷ ps) = Some p.0

first_found :
    (t a : List ℕ) (rs : List (List ℕ)) → t ≡ a ++ joined rs → WellFormed rs → (j : ℕ) →
    find (carries t j) (starts_of (length a) rs) ≡ first_place (of_tile j (standing 2 (length a) rs))
unfolding find standing of_tile carries passes
first_found t a [] e v j = refl
first_found t a (r ∷ rs) e v j =
    let p : Placed t (length a) r = record { before = a; behind = joined rs; whole = e; start = refl } in
    go (placed_same p (placed_self r) v.0.0 v.0.1) (eqb (type_at r 0) 2) refl (eqb (tile_index r 0) j) refl
    (rw (length-append a r) at (first_found t (a ++ r) rs (e ∙ sym (append_assoc a r (joined rs))) v.1 j))
  where
    go :
        SameRecord t (length a) r 0 → (b : Bool) → eqb (type_at r 0) 2 ≡ b → (d : Bool) → eqb (tile_index r 0) j ≡ d →
        find (carries t j) (starts_of (length a + length r) rs) ≡ first_place (of_tile j (standing 2 (length a + length r) rs)) →
        pick (carries t j (length a)) (Some (length a)) (find (carries t j) (starts_of (length a + length r) rs))
        ≡ first_place (of_tile j (standing 2 (length a) (r ∷ rs)))
    go q true x true y i = rw (carries_same q j, x, y)
    go q true x false y i = rw (carries_same q j, x, y) i
    go q false x d y i = rw (carries_same q j, x) i

of_member : (j : ℕ) (l : List (ℕ × List ℕ)) {q : ℕ × List ℕ} → Memᴰ q (of_tile j l) → Memᴰ q l
unfolding of_tile
of_member j [] m = absurd (mathlib.Core.List.Memᴰ.not-nil m)
of_member j (p ∷ l) {q} m = go (eqb (tile_index p.1 0) j) m (λ n. of_member j l n)
  where
    go : (b : Bool) → Memᴰ q (pick b (p ∷ of_tile j l) (of_tile j l)) → (Memᴰ q (of_tile j l) → Memᴰ q l) → Memᴰ q (p ∷ l)
    go true n i = ⊎_elim (λ e. mathlib.Core.List.Memᴰ.head e) (λ k. mathlib.Core.List.Memᴰ.tail (i k)) (mathlib.Core.List.Memᴰ.cases_cons n)
    go false n i = mathlib.Core.List.Memᴰ.tail (i n)

-- of a sound page

module _ (s : List ℕ) (o : Sound s) (j : ℕ) where
  abbrev f : List ℕ
  f = take (header_end s) s

  abbrev t : List ℕ
  t = f ++ joined (pieces s)

  found_first : tile_at s j ≡ first_place (record_of_tile s j)
  unfolding tile_at walked_to first_record records record_of_tile
  found_first =
      let p = sound_parted s o in
      ap (λ (l : List ℕ). tile_at l j) p.whole
      ∙ ap (find (carries t j)) (starts_are f p.front (pieces s) p.formed)
      ∙ first_found t f (pieces s) refl p.formed j
      ∙ ap (λ (l : List (ℕ × List ℕ)). first_place (of_tile j l)) (sym (stands_of f p.front 2 (pieces s) p.formed))
      ∙ ap (λ (l : List ℕ). first_place (record_of_tile l j)) (sym p.whole)

  found_stands : (q : ℕ × List ℕ) (ps : List (ℕ × List ℕ)) → record_of_tile s j ≡ q ∷ ps → Stands s (pieces s) 2 q
  unfolding record_of_tile standing_of
  found_stands q ps e =
      let p = sound_parted s o in
      let m : Memᴰ q (of_tile j (standing 2 (header_end s) (pieces s))) = rw e (mathlib.Core.List.Memᴰ.head refl) in
      stands s f (pieces s) p.whole p.formed 2 (subst (λ (n : ℕ). Memᴰ q (standing 2 n (pieces s))) (sym p.ends) (of_member j _ m))

-- the same record at the same place of two pages

pub record BothAt (s t : List ℕ) (j : ℕ) : Type 0 where
  pub start : ℕ
  pub first : tile_at s j ≡ Some start
  pub second : tile_at t j ≡ Some start
  pub same : SameRecord s start t start

pub tile_stays :
    (s t : List ℕ) → Sound s → Sound t → (j : ℕ) → record_of_tile t j ≡ record_of_tile s j →
    ((tile_at s j ≡ None) × (tile_at t j ≡ None)) ⊎ BothAt s t j
tile_stays s t o q j e = go (record_of_tile s j) refl
  where
    go : (l : List (ℕ × List ℕ)) → record_of_tile s j ≡ l → ((tile_at s j ≡ None) × (tile_at t j ≡ None)) ⊎ BothAt s t j
    go [] i = inl (found_first s o j ∙ ap first_place i, found_first t q j ∙ ap first_place (e ∙ i))
    go (p ∷ ps) i =
        let a = found_stands s o j p ps i in
        let b = found_stands t q j p ps (e ∙ i) in
        inr
        (record {
          start = p.0;
          first = found_first s o j ∙ ap first_place i;
          second = found_first t q j ∙ ap first_place (e ∙ i);
          same = placed_same a.placed b.placed a.ok a.stated;
        })
