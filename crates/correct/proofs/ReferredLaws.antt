-- The tile's record by the directory is that of the walk. Assumes nothing.
use Rattle.std.specs.Prelude.{None, Option, Some}
use Prim.Native.Nat.{ℕ, ◌<◌}
use mathlib.Core.Path.{◌≡◌, refl, sym, ap, ◌∙◌}
use mathlib.Core.List.{List}
use mathlib.Core.Bool.{true}
use Rattle.wire.proofs.TestLaws.{yes}
use Rattle.record.specs.Chain.{records}
use Rattle.record.proofs.FindLaws.{of_type}
use Rattle.geometry.specs.Tiles.{tile_count}
use Rattle.page_check.specs.Accepted.{Sound}
use Rattle.page_check.proofs.GivenLaws.{sound_one}
use Rattle.tile_routes.specs.Ways.{carries, meant}
use Rattle.tile_routes.proofs.WayLaws.{walk_finds, meant_is, directory_finds}
use Rattle.writable.proofs.OpenLaws.{open_sound}
use Rattle.correct.specs.Storing.{tile_at, carrying, tile_referred, ReferredIsWalked}

carries_meant : (s : List ℕ) (i x : ℕ) → meant s i ≡ Some x → carries s i x ≡ true
unfolding carries
carries_meant s i x e = let m = meant_is s i x e in sym (yes _ ((of_type s 2 m.among).1, (m.index, tt)))

carrying_meant : (s : List ℕ) (i : ℕ) → carrying s i (meant s i) ≡ meant s i
carrying_meant s i = go (meant s i) refl
  where
    go : (f : Option ℕ) → meant s i ≡ f → carrying s i f ≡ f
    go None e = refl
    go (Some x) e = rw (carries_meant s i x e)

pub referred_is : (s : List ℕ) → Sound s → (i : ℕ) → i < tile_count s → tile_referred s i ≡ tile_at s i
unfolding tile_referred tile_at
referred_is s o i h = ap (carrying s i) (directory_finds s (sound_one s (records s) o) i h) ∙ carrying_meant s i ∙ sym (walk_finds s i)

pub referred_walked : ReferredIsWalked
referred_walked s o i h = referred_is s (open_sound s o) i h
