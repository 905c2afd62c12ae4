-- The ways to a tile's record: the walk and the directory find what is meant.
use Rattle.std.specs.Prelude.{None, Some}
use Prim.Native.Nat.{ℕ, ◌-◌, ◌<◌}
use mathlib.Core.Path.{◌≡◌, refl, sym, ap, ◌∙◌}
use mathlib.Core.List.Memᴰ
use mathlib.Core.List.{List, [], ◌∷◌, Memᴰ}
use mathlib.Core.Bool.{Bool, true, false}
use native.Mathlib.Omega.{arith}
use lib.ListN.{length}
use lib.Dec.{eqb}
use borrow.Author.Tests.{eqb-true, eqb-false}
use Rattle.wire.specs.Pick.{pick}
use Rattle.wire.specs.Lists.{select}
use Rattle.wire.proofs.TestLaws.{means, yes}
use Rattle.wire.proofs.ListLaws.{select_member, member_select}
use Rattle.record.specs.Chain.{starts, find, first_record, header_end, records, records_of}
use Rattle.record.proofs.ChainLaws.{ok_means, starts_ok}
use Rattle.record.proofs.FindLaws.{found_not, of_type, type_of}
use Rattle.geometry.specs.Tiles.{tile_count}
use Rattle.bodies.specs.TileDirectory.{tile_directory_at, tile_reference}
use Rattle.bodies.specs.TileRecord.{tile_index}
use Rattle.check_directory.specs.Correspondence.{TileRecord, OneToOne}
use Rattle.tile_routes.specs.Ways.{carries, records_with, first_of, meant, referred_to, walked_to}

-- the walk: the first record that carries the index is the first of those that do

first_selected : (p : ℕ → Bool) (l : List ℕ) → find p l ≡ first_of (select p l)
unfolding find select
first_selected p [] = refl
first_selected p (x ∷ xs) = go (p x) (first_selected p xs)
  where
    go : (b : Bool) → find p xs ≡ first_of (select p xs) → pick b (Some x) (find p xs) ≡ first_of (pick b (x ∷ select p xs) (select p xs))
    go true r = refl
    go false r = r

pub walk_finds : (s : List ℕ) (i : ℕ) → walked_to s (header_end s) i ≡ meant s i
unfolding walked_to meant first_record records_with records
walk_finds s i = first_selected (carries s i) (starts s (header_end s))

-- what is meant: a tile record with the index, which starts in the file

pub record IsMeant (s : List ℕ) (i x : ℕ) : Type 0 where
  pub among : Memᴰ x (records_of s 2)
  pub index : tile_index s x ≡ i
  pub inside : x < length s

carries_tile : (s : List ℕ) (i x : ℕ) → Memᴰ x (records_with s i) → IsMeant s i x
unfolding records_with carries records
carries_tile s i x m =
    let h = select_member _ (records s) m in
    let c = means _ h.1 in
    let o = ok_means s x (starts_ok s x (header_end s) h.0) in
    record { among = type_of s 2 h.0 c.0; index = c.1.0; inside = omega (arith, o.inside, o.long) }

pub meant_is : (s : List ℕ) (i x : ℕ) → meant s i ≡ Some x → IsMeant s i x
unfolding meant
meant_is s i x e = go (records_with s i) refl
  where
    go : (l : List ℕ) → records_with s i ≡ l → IsMeant s i x
    go [] f = found_not (sym e) (rw f)
    go (y ∷ ys) f =
        let g : Some y ≡ Some x = rw f at e in
        let z : y ≡ x = cc in
        carries_tile s i x (rw f (Memᴰ.head (sym z)))

-- the directory: where records and references correspond one to one, the reference of a tile gives the one record with its index

with_index : (s : List ℕ) (i : ℕ) {x : ℕ} → Memᴰ x (records_of s 2) → tile_index s x ≡ i → Memᴰ x (records_with s i)
unfolding records_with carries
with_index s i m e = let h = of_type s 2 m in member_select _ (records s) h.0 (sym (yes _ (h.1, (e, tt))))

module _ (s : List ℕ) (o : OneToOne s) (i : ℕ) (h : i < tile_count s) where
  none_with : tile_reference s i ≡ 0 → meant s i ≡ None
  unfolding meant
  none_with z = go (records_with s i) refl
    where
      go : (l : List ℕ) → records_with s i ≡ l → first_of (records_with s i) ≡ None
      go [] e = rw e
      go (x ∷ xs) e =
          let t = carries_tile s i x (rw e (Memᴰ.head refl)) in
          absurd (omega (arith, o.listed t.among, ap (tile_reference s) t.index))

  first_with : (tile_reference s i ≡ 0 → ⊥) → meant s i ≡ Some (tile_reference s i - 8)
  unfolding meant
  first_with z = go (records_with s i) refl
    where
      r : TileRecord s i
      r = o.given i h z

      go : (l : List ℕ) → records_with s i ≡ l → first_of (records_with s i) ≡ Some (tile_reference s i - 8)
      go [] e = absurd (Memᴰ.not-nil (rw e at (with_index s i r.among r.index)))
      go (x ∷ xs) e =
          let t = carries_tile s i x (rw e (Memᴰ.head refl)) in
          let q : x ≡ r.start = o.one_record t.among r.among (t.index ∙ sym r.index) in
          let w : x ≡ tile_reference s i - 8 = omega (arith, r.content) in
          rw e (ap Some w)

  pub directory_finds : referred_to s (tile_directory_at s) i ≡ meant s i
  unfolding referred_to
  directory_finds = go (eqb (tile_reference s i) 0) refl
    where
      go : (b : Bool) → eqb (tile_reference s i) 0 ≡ b → pick b None (Some (tile_reference s i - 8)) ≡ meant s i
      go true f = sym (none_with (eqb-true _ _ f))
      go false f = sym (first_with (eqb-false _ _ f))
