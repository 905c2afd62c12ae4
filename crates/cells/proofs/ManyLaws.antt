-- Many reads after one check: a cell told from what is held, which on a sound page is its meaning. Assumes nothing.
use Rattle.std.specs.Prelude.{Err, None, Ok, Option, Result, Some}
use Prim.Native.Nat.{ℕ, ◌+◌, ◌*◌, ◌≤◌, ◌<◌}
use mathlib.Core.Path.{◌≡◌, refl, sym, ap, ◌∙◌}
use mathlib.Core.List.{List, [], ◌∷◌}
use mathlib.Core.Bool.{Bool, true, false}
use mathlib.Core.Logic.{by_cases}
use native.Mathlib.Decide.{dec_le}
use native.Mathlib.Omega.{arith}
use lib.ListN.{length, get_or}
use borrow.Author.Tests.{eq-eqb, ne_eqb}
use Rattle.wire.specs.Tests.{◌≤?◌}
use Rattle.wire.specs.Bytes.{put, number_at}
use Rattle.wire.proofs.TestLaws.{yes, no}
use Rattle.wire.proofs.PutLaws.{put_each_lem}
use Rattle.answer.specs.declared.Refusal.{Refusal}
use Rattle.answer.specs.declared.Refusal.TheVariants.{Directory}
use Rattle.answer.specs.declared.Value.{Value}
use Rattle.answer.specs.declared.Location.{Location}
use Rattle.answer.specs.declared.Cell.{Cell}
use Rattle.answer.specs.declared.Cell.TheVariants as cell
use Rattle.answer.specs.declared.Held.{Held}
use Rattle.answer.specs.declared.Held.TheVariants as held
use Rattle.answer.specs.Values.{value_of}
use Rattle.answer.specs.Answers.{held_kind}
use Rattle.header.specs.Fields.{tile_rows, tile_columns, element_count}
use Rattle.header.specs.Element.{cell_size, element}
use Rattle.geometry.specs.Tiles.{tile_count, cell_tile, cell_inside}
use Rattle.geometry.specs.Sizes.{cell_offset}
use Rattle.geometry.proofs.GridLaws.{inside_less}
use Rattle.geometry.proofs.SizeLaws.{size_range}
use Rattle.bodies.specs.TileDirectory.{tile_directory_at}
use Rattle.bodies.specs.TileRecord.{element_content_at}
use Rattle.unpack.specs.Unpack.{cells_in, is_whole}
use Rattle.unpack.proofs.AnswerLaws.{whole_cell}
use Rattle.page_check.specs.Accepted.{Sound}
use Rattle.page_check.proofs.AcceptedLaws.{accepted_sound}
use Rattle.cells.specs.Asked.{in_grid}
use Rattle.cells.specs.TileCells.{location_of, fill_of, packed, unpackable, unpacked_in, unpacked_at, offset_in, stored_at, cell_from, cell_in, cell_of, held_room, room_of, unpacked_bits, MemorySaid}
use Rattle.tile_routes.specs.Ways.{meant, referred_to}
use Rattle.cells.specs.Routes.{cell_by, tile_by}
use Rattle.cells.specs.Meaning.{meaning}
use Rattle.cells.specs.inner.Lookups.{guarded, looked_up}
use Rattle.cells.specs.Many.{held_by_directory, stored_from, numbered_cell, told_by, held_cell, Holds, HoldsAccepted}
use Rattle.cells.proofs.CellLaws.{tiles_in_lem, sides_mean}
use Rattle.cells.proofs.ReadLaws.{sound_lawful, sound_finds, looked_means, tile_looked_means}
use Rattle.cells.proofs.HeldLaws.{in_at, room_stored, room_packed, room_alone, room_unpacked, room_malformed}
use Rattle.cells.proofs.DemandLaws.{stored_inside, not_whole_cell, content_long}

-- a cell told from what is held, as the functions below answer

module _ (s : List ℕ) (k at t i : ℕ) where
  pub stored_in :
      (o p n : ℕ) (v : Value) → at < length s → o ≡ cell_offset k i → p ≡ at + o → n ≡ number_at (cell_size k) s (p + 0) → v ≡ value_of k n →
      Ok (cell.Stored v p (record { tile = t; inside = i })) ≡ stored_from s k at t i
  unfolding stored_from
  stored_in o p n v h q u e f =
      let z : p + 0 ≡ p = omega arith in
      let w : p ≡ at + cell_offset k i = u ∙ ap (λ (x : ℕ). at + x) q in
      rw (← yes ((at + 1 ≤? length s) ∷ []) (omega arith, tt), f, e, z, w)

  pub stored_past : length s ≤ at → Err Directory ≡ stored_from s k at t i
  unfolding stored_from
  stored_past h = rw (← no ((at + 1 ≤? length s) ∷ []) (λ y. omega (arith, y.0)))

module _ (s m : List ℕ) (k f t i : ℕ) (x : Result Held Refusal) where
  abbrev here : Location
  here = record { tile = t; inside = i }

  pub numbered_stored : {at : ℕ} (r : Result Cell Refusal) → x ≡ Ok (held.Stored at) → r ≡ stored_from s k at t i → r ≡ numbered_cell s k f m t i x
  unfolding numbered_cell
  numbered_stored r p e = e ∙ rw p

  pub numbered_unpacked : {at : ℕ} (n : ℕ) (v : Value) → x ≡ Ok (held.Unpacked at) → n ≡ get_or m i 0 → v ≡ value_of k n → Ok (cell.Unpacked v at here) ≡ numbered_cell s k f m t i x
  unfolding numbered_cell
  numbered_unpacked n v p q e = rw (e, q, p)

  pub numbered_absent : (v : Value) → x ≡ Ok held.Absent → v ≡ value_of k f → Ok (cell.Fill v here) ≡ numbered_cell s k f m t i x
  unfolding numbered_cell
  numbered_absent v p e = rw (e, p)

  pub numbered_alone : x ≡ Ok held.Alone → Err Directory ≡ numbered_cell s k f m t i x
  unfolding numbered_cell
  numbered_alone p = rw p

  pub numbered_refused : {r : Refusal} → x ≡ Err r → Err r ≡ numbered_cell s k f m t i x
  unfolding numbered_cell
  numbered_refused p = rw p

module _ (s : List ℕ) (ci : ℕ) (m : List ℕ) (row column e n : ℕ) (x : Result Held Refusal) (r : Result Cell Refusal) (q : n ≡ held_kind x) where
  pub told_alone : n ≡ 0 → r ≡ looked_up s ci (referred_to s (tile_directory_at s)) row column e → r ≡ told_by s ci m row column e x
  unfolding told_by
  told_alone h f = f ∙ rw (eq-eqb (held_kind x) 0 (sym q ∙ h))

  pub told_numbered :
      (k f t i : ℕ) → (n ≡ 0 → ⊥) → k ≡ (element s e).kind → f ≡ (element s e).fill → t ≡ cell_tile s row column → i ≡ cell_inside s row column →
      r ≡ numbered_cell s k f m t i x → r ≡ told_by s ci m row column e x
  unfolding told_by
  told_numbered k f t i h a b u c d = d ∙ rw (ne_eqb (held_kind x) 0 (λ z. h (q ∙ z)), a, b, u, c)

-- on a sound page it is the meaning

module _ (s : List ℕ) (o : Sound s) (ci row column e : ℕ) (m : List ℕ) (g : in_grid s row column e ≡ true) where
  abbrev i : ℕ
  i = cell_inside s row column

  means : (f : Option ℕ) → meant s (cell_tile s row column) ≡ f → meaning s ci row column e ≡ cell_of s ci row column e f
  unfolding meaning cell_by
  means f j = rw (g, j)

  few : i < tile_rows s * tile_columns s
  unfolding cell_inside
  few = let d = sides_mean s (sound_lawful s o) in inside_less (tile_rows s) (tile_columns s) row column (omega (arith, d.tile_rows_lem.0)) (omega (arith, d.tile_columns_lem.0))

  abbrev Told : ℕ → Result Held Refusal → Type 0
  Told x y = told_by s ci (put m 0 (unpacked_bits s e y)) row column e y ≡ cell_in s ci x row column e

  by_record : (x : ℕ) → meant s (cell_tile s row column) ≡ Some x → Told x (held_room s ci x e (length m))
  unfolding cell_in cell_from packed unpackable unpacked_in told_by numbered_cell stored_from stored_at offset_in location_of
  by_record x j = go (packed s x e) refl (unpackable s ci x e) refl (is_whole (unpacked_in s x e)) refl
    where
      at : ℕ
      at = element_content_at s x e

      go : (p : Bool) → packed s x e ≡ p → (u : Bool) → unpackable s ci x e ≡ u → (w : Bool) → is_whole (unpacked_in s x e) ≡ w → Told x (held_room s ci x e (length m))
      go false ep u eu w ew =
          let q : meaning s ci row column e ≡ stored_at s (location_of s row column) e (at + offset_in s row column e) = means (Some x) j ∙ rw ep in
          let l = stored_inside s o ci row column e _ _ _ q in
          let h : at < length s = omega (arith, l, (size_range (element s e).kind).0) in
          rw (room_stored s ci x e (length m) ep, ep, ← yes ((at + 1 ≤? length s) ∷ []) (omega arith, tt))
      go true ep false eu w ew = rw (room_packed s ci x e (length m) ep eu, ep, eu)
      go true ep true eu w ew =
          by_cases (dec_le (tile_rows s * tile_columns s) (length m)) (λ h. fits w ew h)
          (λ h. rw (room_alone s ci x e (length m) ep eu (omega arith)) (looked_means s _ (sound_lawful s o) (sound_finds s o) ci row column e ∙ means (Some x) j ∙ rw ep))
        where
          fits : (w : Bool) → is_whole (unpacked_in s x e) ≡ w → tile_rows s * tile_columns s ≤ length m → Told x (held_room s ci x e (length m))
          fits false ew h = rw (room_malformed s ci x e (length m) ep eu h ew, ep, eu, not_whole_cell (unpacked_in s x e) i ew)
          fits true ew h =
              let v : List ℕ = cells_in (unpacked_at s e at) in
              let n : length v ≡ tile_rows s * tile_columns s = content_long s x e ew in
              let z : 0 + i ≡ i = omega arith in
              let c : get_or (put m 0 v) i 0 ≡ get_or v i 0 = rw z at (put_each_lem m 0 v i (omega (arith, few)) (omega arith)) in
              rw (room_unpacked s ci x e (length m) ep eu h ew, ep, eu, whole_cell (unpacked_in s x e) i ew, in_at s x e, c)

  by_found :
      (f : Option ℕ) → meant s (cell_tile s row column) ≡ f →
      told_by s ci (put m 0 (unpacked_bits s e (room_of s ci e (length m) f))) row column e (room_of s ci e (length m) f) ≡ meaning s ci row column e
  unfolding told_by numbered_cell fill_of location_of
  by_found None j = sym (means None j)
  by_found (Some x) j = by_record x j ∙ sym (means (Some x) j)

pub sound_holds :
    (s : List ℕ) → Sound s → (ci tile e : ℕ) (m : List ℕ) → tile < tile_count s → e < element_count s →
    Holds s ci tile e (held_by_directory s ci tile e (length m)) (put m 0 (unpacked_bits s e (held_by_directory s ci tile e (length m))))
unfolding held_by_directory held_cell guarded tile_by told_by
sound_holds s o ci tile e m t n =
    record {
      each = λ row column g k. rw (g, sound_lawful s o) (found row column g k);
      numbered = λ h row column g k. rw (ne_eqb (held_kind x) 0 h, k) at (found row column g k);
    }
  where
    x : Result Held Refusal
    x = held_by_directory s ci tile e (length m)

    b : x ≡ room_of s ci e (length m) (meant s tile)
    b =
        tile_looked_means s _ (sound_lawful s o) (sound_finds s o) Err (room_of s ci e (length m)) tile e ∙ rw (← tiles_in_lem s tile e _ _ refl refl t n)

    found :
        (row column : ℕ) → in_grid s row column e ≡ true → cell_tile s row column ≡ tile →
        told_by s ci (put m 0 (unpacked_bits s e x)) row column e x ≡ meaning s ci row column e
    found row column g k = rw (b, ← k) (by_found s o ci row column e m g (meant s (cell_tile s row column)) refl)

pub holds_accepted : HoldsAccepted
holds_accepted s a = sound_holds s (accepted_sound s a)

-- and with memory of which is said only what it holds where a content is not malformed: of a refused one it is not asked
pub holds_lent : (s : List ℕ) (ci tile e : ℕ) (x : Result Held Refusal) (v o : List ℕ) → (MemorySaid false x → o ≡ v) → Holds s ci tile e x v → Holds s ci tile e x o
unfolding held_cell told_by numbered_cell
holds_lent s ci tile e (Err r) v o f h = record { each = h.each; numbered = h.numbered }
holds_lent s ci tile e (Ok (held.Stored at)) v o f h = rw (f (λ k y g. absurd (omega (arith, ap held_kind g)))) h
holds_lent s ci tile e (Ok (held.Unpacked at)) v o f h = rw (f (λ k y g. absurd (omega (arith, ap held_kind g)))) h
holds_lent s ci tile e (Ok held.Absent) v o f h = rw (f (λ k y g. absurd (omega (arith, ap held_kind g)))) h
holds_lent s ci tile e (Ok held.Alone) v o f h = rw (f (λ k y g. absurd (omega (arith, ap held_kind g)))) h
