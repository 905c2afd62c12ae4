-- All cells of an element in a tile: copied or unpacked. Assumes nothing.
use Rattle.std.specs.Prelude.{Err, None, Ok, Option, Result, Some}
use Prim.Native.Nat.{ℕ, ◌+◌, ◌-◌, ◌*◌, ◌≤◌, ◌<◌}
use mathlib.Core.Path.{◌≡◌, refl, sym, ap, ◌∙◌}
use mathlib.Core.List.{List, [], ◌∷◌}
use mathlib.Core.Bool.{Bool, true, false}
use native.Mathlib.Omega.{arith}
use native.Mathlib.Nat.{mul-le-mul}
use lib.ListN.{length, get_or, set}
use lib.Dec.{eqb}
use Rattle.wire.specs.Bytes.{part, number_at, put}
use Rattle.wire.proofs.ListLaws.{below_long, below_at}
use Rattle.wire.proofs.PutLaws.{put_nil, put_not, pasted, pasted_none, pasted_more, pasted_all}
use Rattle.header.specs.Fields.{tile_rows, tile_columns}
use Rattle.wire.specs.Tests.{Test, ◌≤?◌, is, Holds}
use Rattle.wire.proofs.TestLaws.{not_both, yes, no}
use Rattle.answer.specs.declared.Refusal.{Refusal}
use Rattle.answer.specs.declared.Refusal.TheVariants as refusal
use Rattle.answer.specs.declared.Held.{Held}
use Rattle.answer.specs.declared.Held.TheVariants as held
use Rattle.answer.specs.Answers.{held_kind}
use Rattle.header.specs.Element.{cell_size, element}
use Rattle.geometry.specs.Sizes.{cell_offset}
use Rattle.check_header.specs.Ceilings.{most_tile_side}
use Rattle.bodies.specs.TileRecord.{section_at, section_length, element_content_at}
use Rattle.unpack.specs.Unpack.{Cells, cells, malformed, unpacked, cells_in, is_whole}
use Rattle.cells.specs.Asked.{in_tiles}
use Rattle.cells.specs.TileCells.{packed, unpackable, unpacked_in, unpacked_at, held_in, stays_alone, held_room, room_of, unpacked_bits, MemorySaid, stored_bits, held_bits}
use Rattle.cells.specs.inner.Lookups.{sides_lawful, reached_by, room_reached, guarded, looked_tile, looked_up_held, looked_up_room}
use Rattle.cells.proofs.CellLaws.{sides_mean, reached_none, reached_at, held_lost}

-- the number of cells

pub cells_few : (s : List ℕ) (n : ℕ) → sides_lawful s ≡ true → n ≡ tile_rows s * tile_columns s → n ≤ most_tile_side * most_tile_side
cells_few s n l e =
    let a = sides_mean s l in
    let m : tile_rows s * tile_columns s ≤ most_tile_side * most_tile_side = mul-le-mul a.tile_rows_lem.1 a.tile_columns_lem.1 in
    omega arith

-- stored cells, a copy under way

module _ (s : List ℕ) (kind at n : ℕ) where
  pub stored_long : length (stored_bits s kind at n) ≡ n
  unfolding stored_bits
  stored_long = below_long _ n

  pub stored_cell : (i : ℕ) → i < n → get_or (stored_bits s kind at n) i 0 ≡ number_at (cell_size kind) s (at + cell_offset kind i)
  unfolding stored_bits
  stored_cell i h = below_at _ n i h

  module _ (d : List ℕ) where
    pub stored_out : length d < n → d ≡ put d 0 (stored_bits s kind at n)
    stored_out h = sym (put_not d 0 (stored_bits s kind at n) (omega (arith, stored_long)))

    pub stored_begun : d ≡ pasted d 0 (stored_bits s kind at n) 0
    stored_begun = pasted_none d 0 (stored_bits s kind at n)

    pub stored_next :
        (out : List ℕ) (i o v : ℕ) → out ≡ pasted d 0 (stored_bits s kind at n) i → i < length d → i < n → o ≡ cell_offset kind i →
        v ≡ number_at (cell_size kind) s (at + o) → set out i v ≡ pasted d 0 (stored_bits s kind at n) (i + 1)
    stored_next out i o v e h k p f =
        let m : v ≡ get_or (stored_bits s kind at n) i 0 = f ∙ rw p (sym (stored_cell i k)) in
        let z : 0 + i ≡ i = omega arith in
        rw (e, m) (rw z at (pasted_more d 0 (stored_bits s kind at n) i (omega arith) (omega (arith, stored_long))))

    pub stored_done : (out : List ℕ) (i : ℕ) → out ≡ pasted d 0 (stored_bits s kind at n) i → i ≡ n → n ≤ length d → out ≡ put d 0 (stored_bits s kind at n)
    stored_done out i e f h = e ∙ pasted_all d 0 (stored_bits s kind at n) i (f ∙ sym stored_long) (omega (arith, stored_long))

-- the content of a malformed one holds nothing

not_whole : (x : Cells) → is_whole x ≡ false → cells_in x ≡ []
unfolding is_whole cells_in
not_whole (cells vs) e = not_both refl e
not_whole malformed e = refl

nothing_put : (d : List ℕ) → d ≡ put d 0 []
nothing_put d = sym (put_nil d 0)

-- where the content of element e of the tile record at x starts, it holds what the record's does
pub in_at : (s : List ℕ) (x e : ℕ) → unpacked_in s x e ≡ unpacked_at s e (element_content_at s x e)
unfolding unpacked_in element_content_at section_length
in_at s x e = let z : section_at s x e + 4 - 4 ≡ section_at s x e = omega arith in rw z

pub all_unpacked :
    (s c : List ℕ) (x e k h w : ℕ) (t : Bool) → k ≡ (element s e).kind → h ≡ tile_rows s → w ≡ tile_columns s → t ≡ eqb k 3 →
    c ≡ part s (element_content_at s x e) (section_length s x e) → (keep r : Bool) (d o : List ℕ) → r ≡ is_whole (unpacked c h w t) →
    ((keep ≡ false → r ≡ true) → o ≡ put d 0 (cells_in (unpacked c h w t))) →
    (r ≡ is_whole (unpacked_in s x e)) × ((keep ≡ false → r ≡ true) → o ≡ put d 0 (cells_in (unpacked_in s x e)))
unfolding unpacked_in
all_unpacked s c x e k h w t ek eh ew et ec keep r d o p q = (p ∙ rw (ec, eh, ew, et, ek), λ f. q f ∙ rw (ec, eh, ew, et, ek))

-- all cells, by the tile record at x: as without a bound on their number, unless they stay alone

module _ (s : List ℕ) (ci x e room : ℕ) where
  abbrev alone : List Test
  alone = is (packed s x e) ∷ is (unpackable s ci x e) ∷ (room + 1 ≤? tile_rows s * tile_columns s) ∷ []

  as_in : (Holds alone → ⊥) → held_room s ci x e room ≡ held_in s ci x e
  unfolding held_room stays_alone
  as_in f = rw (← no alone f)

  pub room_all : tile_rows s * tile_columns s ≤ room → held_room s ci x e room ≡ held_in s ci x e
  room_all h = as_in (λ y. omega (arith, y.1.1.0))

  pub room_stored : packed s x e ≡ false → held_room s ci x e room ≡ Ok (held.Stored (element_content_at s x e))
  unfolding held_in
  room_stored f = as_in (λ y. not_both y.0 f) ∙ rw f

  module _ (f : packed s x e ≡ true) where
    pub room_packed : unpackable s ci x e ≡ false → held_room s ci x e room ≡ Err (refusal.Compressed x)
    unfolding held_in
    room_packed g = as_in (λ y. not_both y.1.0 g) ∙ rw (f, g)

    module _ (g : unpackable s ci x e ≡ true) where
      pub room_alone : room < tile_rows s * tile_columns s → held_room s ci x e room ≡ Ok held.Alone
      unfolding held_room stays_alone
      room_alone h = rw (← yes alone (f, (g, (omega arith, tt))))

      module _ (h : tile_rows s * tile_columns s ≤ room) where
        pub room_unpacked : is_whole (unpacked_in s x e) ≡ true → held_room s ci x e room ≡ Ok (held.Unpacked (element_content_at s x e))
        unfolding held_in
        room_unpacked w = room_all h ∙ rw (f, g, w)

        pub room_malformed : is_whole (unpacked_in s x e) ≡ false → held_room s ci x e room ≡ Err (refusal.Malformed x)
        unfolding held_in
        room_malformed w = room_all h ∙ rw (f, g, w)

-- as the functions below answer

module _ (s : List ℕ) (ci x e room : ℕ) (a : Bool) (ea : a ≡ packed s x e) (keep : Bool) (d : List ℕ) where
  abbrev Says : Result Held Refusal → List ℕ → Type 0
  Says r o = (r ≡ held_room s ci x e room) × (MemorySaid keep r → o ≡ put d 0 (unpacked_bits s e r))

  pub held_stored : (p : ℕ) → p ≡ section_at s x e → a ≡ false → Says (Ok (held.Stored (p + 4))) d
  unfolding element_content_at
  held_stored p ep f = (rw ep (sym (room_stored s ci x e room (sym ea ∙ f))), λ k. nothing_put d)

  module _ (f : a ≡ true) (b : Bool) (eb : b ≡ unpackable s ci x e) where
    pub held_packed : b ≡ false → Says (Err (refusal.Compressed x)) d
    held_packed g = (sym (room_packed s ci x e room (sym ea ∙ f) (sym eb ∙ g)), λ k. nothing_put d)

    module _ (g : b ≡ true) (n : ℕ) (en : n ≡ tile_rows s * tile_columns s) where
      pub held_alone : room < n → Says (Ok held.Alone) d
      held_alone h = (sym (room_alone s ci x e room (sym ea ∙ f) (sym eb ∙ g) (omega arith)), λ k. nothing_put d)

      module _ (h : n ≤ room) (w : Bool) (o : List ℕ) (ew : w ≡ is_whole (unpacked_in s x e))
          (eo : (keep ≡ false → w ≡ true) → o ≡ put d 0 (cells_in (unpacked_in s x e))) where
        pub held_unpacked : (p : ℕ) → p ≡ section_at s x e → w ≡ true → Says (Ok (held.Unpacked (p + 4))) o
        unfolding element_content_at
        held_unpacked p ep q =
            (rw ep (sym (room_unpacked s ci x e room (sym ea ∙ f) (sym eb ∙ g) (omega arith) (sym ew ∙ q))), λ k. eo (λ l. q) ∙ rw (in_at s x e, ep))

        pub held_malformed : w ≡ false → Says (Err (refusal.Malformed x)) o
        held_malformed q = (
          sym (room_malformed s ci x e room (sym ea ∙ f) (sym eb ∙ g) (omega arith) (sym ew ∙ q)),
          λ k. eo (λ l. absurd (k l x refl)) ∙ rw (not_whole (unpacked_in s x e) (sym ew ∙ q)),
        )

-- by what was found, and by a look-up: where nothing is unpacked, nothing is written

module _ (s : List ℕ) (ci e room : ℕ) (f : Option ℕ) (keep : Bool) (d : List ℕ) where
  abbrev Reaches : Result Held Refusal → List ℕ → Type 0
  Reaches r o = (r ≡ room_reached s ci e room f) × (MemorySaid keep r → o ≡ put d 0 (unpacked_bits s e r))

  pub held_none : f ≡ None → Reaches (Ok held.Absent) d
  held_none p = (reached_none Err (room_of s ci e room) s f (Ok held.Absent) p refl, λ k. nothing_put d)

  pub held_at :
      (x : ℕ) (r : Result Held Refusal) (o : List ℕ) → f ≡ Some x → x < length s → r ≡ held_room s ci x e room → (MemorySaid keep r → o ≡ put d 0 (unpacked_bits s e r)) → Reaches r o
  held_at x r o p h q u = (reached_at Err (room_of s ci e room) s f x r p h q, u)

  pub held_past : (x : ℕ) → f ≡ Some x → length s ≤ x → Reaches (Err refusal.Directory) d
  held_past x p h = (held_lost s f x p h ci e room, λ k. nothing_put d)

pub refused_keeps : (r : Refusal) (x : Result Held Refusal) (d : List ℕ) → Err r ≡ x → (Err r ≡ x) × (d ≡ put d 0 [])
refused_keeps r x d p = (p, nothing_put d)

pub refused_said : (keep : Bool) (r : Refusal) (x : Result Held Refusal) (d : List ℕ) → Err r ≡ x → (Err r ≡ x) × (MemorySaid keep (Err r) → d ≡ put d 0 [])
refused_said keep r x d p = (p, λ k. nothing_put d)

-- memory that is kept
pub said_kept : (r : Result Held Refusal) → MemorySaid true r
said_kept r k x e = not_both refl k

-- all bits: with room for the cells of any lawful tile none stay alone, and what is stored is copied

room_held : (s : List ℕ) (ci : ℕ) (way : ℕ → Option ℕ) (tile e room : ℕ) → most_tile_side * most_tile_side ≤ room → looked_up_room s ci way tile e room ≡ looked_up_held s ci way tile e
unfolding looked_tile guarded reached_by
room_held s ci way tile e room h = go (sides_lawful s) refl (way tile) refl
  where
    go : (b : Bool) → sides_lawful s ≡ b → (f : Option ℕ) → way tile ≡ f → looked_up_room s ci way tile e room ≡ looked_up_held s ci way tile e
    go false l f j = rw l
    go true l None j = rw j
    go true l (Some x) j = rw (j, room_all s ci x e room (omega (arith, cells_few s _ l refl)))

pub stored_lawful : (s : List ℕ) (said : Option ℕ → Result Held Refusal) (way : ℕ → Option ℕ) (tile e at : ℕ) (x : Result Held Refusal) → x ≡ looked_tile Err said s way tile e → x ≡ Ok (held.Stored at) → sides_lawful s ≡ true
unfolding looked_tile guarded
stored_lawful s said way tile e at x p q = go (in_tiles s tile e) refl (sides_lawful s) refl
  where
    go : (a : Bool) → in_tiles s tile e ≡ a → (b : Bool) → sides_lawful s ≡ b → sides_lawful s ≡ true
    go a i true l = l
    go false i false l = let h : Err refusal.OutsideGrid ≡ Ok (held.Stored at) = sym (p ∙ rw i) ∙ q in absurd (omega (arith, ap held_kind h))
    go true i false l = let h : Err refusal.Directory ≡ Ok (held.Stored at) = sym (p ∙ rw (i, l)) ∙ q in absurd (omega (arith, ap held_kind h))

module _ (s : List ℕ) (ci : ℕ) (way : ℕ → Option ℕ) (tile e : ℕ) (x : Result Held Refusal) (d o : List ℕ) (p : x ≡ looked_up_room s ci way tile e (most_tile_side * most_tile_side))
    (q : o ≡ put d 0 (unpacked_bits s e x)) where
  pub all_copied :
      (at : ℕ) (o2 : List ℕ) → x ≡ Ok (held.Stored at) → o2 ≡ put o 0 (stored_bits s (element s e).kind at (tile_rows s * tile_columns s)) →
      (Ok (held.Stored at) ≡ looked_up_held s ci way tile e) × (o2 ≡ put d 0 (held_bits s e (Ok (held.Stored at))))
  all_copied at o2 f g =
      let k : o ≡ d = q ∙ rw f (put_nil d 0) in
      (sym f ∙ p ∙ room_held s ci way tile e _ (omega arith), g ∙ rw k)

  pub all_kept : (y : Result Held Refusal) → x ≡ y → unpacked_bits s e y ≡ held_bits s e y → (y ≡ looked_up_held s ci way tile e) × (o ≡ put d 0 (held_bits s e y))
  all_kept y f g = (sym f ∙ p ∙ room_held s ci way tile e _ (omega arith), q ∙ rw (f, g))

-- what is not stored is unpacked into the memory, or has no bits
pub kept_bits : (s : List ℕ) (e : ℕ) (h : Held) → ((at : ℕ) → h ≡ held.Stored at → ⊥) → unpacked_bits s e (Ok h) ≡ held_bits s e (Ok h)
kept_bits s e (held.Stored at) n = absurd (n at refl)
kept_bits s e (held.Unpacked at) n = refl
kept_bits s e held.Absent n = refl
kept_bits s e held.Alone n = refl
