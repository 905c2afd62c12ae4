-- Tile records and references correspond one to one just where the computed rules hold. Assumes nothing.
use Prim.Native.Nat.{ℕ, ◌<◌}
use mathlib.Core.Path.{◌≡◌, refl, sym, ap, ◌∙◌}
use mathlib.Core.List.{List, Memᴰ}
use mathlib.Core.Bool.{Bool, true, false, ◌||◌}
use native.Mathlib.Omega.{arith}
use lib.Dec.{eqb}
use borrow.Author.Tests.{eqb-true, eqb-false, eq-eqb, ne_eqb}
use Rattle.wire.proofs.TestLaws.{means, yes, below_each, below_all}
use Rattle.record.specs.Record.{content_at}
use Rattle.geometry.specs.Tiles.{tile_count}
use Rattle.bodies.specs.TileRecord.{tile_index}
use Rattle.record.specs.Chain.{records_of}
use Rattle.bodies.specs.TileDirectory.{tile_reference}
use Rattle.check_directory.specs.TileRules.{rectangle_right, tiles_listed, gives_tile, tiles_only}
use Rattle.check_directory.specs.Correspondence.{TileRecord, OneToOne}
use Rattle.check_directory.proofs.OnlyLaws.{referenced_below}
use Rattle.wire.proofs.ListLaws.{every_member, member_every, some_member, member_some}

module _ (s : List ℕ) (listed : tiles_listed s ≡ true) (only : tiles_only s ≡ true) where
  own_content : {x : ℕ} → Memᴰ x (records_of s 2) → tile_reference s (tile_index s x) ≡ content_at x
  unfolding tiles_listed
  own_content m = eqb-true _ _ (every_member _ (records_of s 2) listed m)

  gives_record : (i : ℕ) → i < tile_count s → (tile_reference s i ≡ 0 → ⊥) → TileRecord s i
  unfolding tiles_only gives_tile
  gives_record i h z =
      let t = below_each (tile_count s) _ only i h in
      let n = ne_eqb (tile_reference s i) 0 z in
      some_member _ _ (records_of s 2) (rw n at t)
      (λ x m e. let y = means _ e in record { start = x; among = m; index = y.1.0; content = y.0 })

  same_record : (i j : ℕ) → TileRecord s i → TileRecord s j → tile_reference s i ≡ tile_reference s j → i ≡ j
  same_record i j a b e =
      let h : a.start ≡ b.start = omega (arith, a.content, b.content, e) in
      sym a.index ∙ ap (tile_index s) h ∙ b.index

  pub one_to_one : rectangle_right s ≡ true → OneToOne s
  one_to_one right =
      record {
        below = λ m. referenced_below s right _ (λ z. absurd (omega (arith, own_content m)));
        listed = own_content;
        given = gives_record;
        one_record = λ {x} {y} m n e. omega (arith, own_content m, own_content n, ap (tile_reference s) e);
        one_index = λ i j h k z e. same_record i j (gives_record i h z) (gives_record j k (λ w. z (e ∙ w))) e;
      }

-- and back: the two that the rules rest on, and all of it

pub if_listed : (s : List ℕ) → ((x : ℕ) → Memᴰ x (records_of s 2) → tile_reference s (tile_index s x) ≡ content_at x) → tiles_listed s ≡ true
unfolding tiles_listed
if_listed s f = member_every _ (records_of s 2) (λ x m. eq-eqb _ _ (f x m))

pub if_only : (s : List ℕ) → ((i : ℕ) → i < tile_count s → (tile_reference s i ≡ 0 → ⊥) → TileRecord s i) → tiles_only s ≡ true
unfolding tiles_only gives_tile
if_only s f = below_all (tile_count s) _ (λ i h. go i h (eqb (tile_reference s i) 0) refl)
  where
    there : (i : ℕ) → TileRecord s i → gives_tile s i ≡ true
    there i t = member_some _ (records_of s 2) t.among (sym (yes _ (t.content, (t.index, tt))))

    go : (i : ℕ) → i < tile_count s → (b : Bool) → eqb (tile_reference s i) 0 ≡ b → (eqb (tile_reference s i) 0 || gives_tile s i) ≡ true
    go i h true e = rw e
    go i h false e = rw e (there i (f i h (eqb-false _ _ e)))

pub one_listed : (s : List ℕ) → OneToOne s → tiles_listed s ≡ true
one_listed s o = if_listed s (λ x m. o.listed m)

pub one_only : (s : List ℕ) → OneToOne s → tiles_only s ≡ true
one_only s o = if_only s o.given
