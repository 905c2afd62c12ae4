-- A laid-down tile record in a file that keeps the front's fields. Assumes nothing.
use Prim.Native.Nat.{ℕ, ◌<◌}
use mathlib.Core.Path.{◌≡◌, sym}
use mathlib.Core.List.{List}
use mathlib.Core.Bool.{false}
use native.Mathlib.Omega.{arith}
use Rattle.wire.proofs.TestLaws.{no}
use Rattle.header.specs.Fields.{element_count}
use Rattle.cells.specs.TileCells.{packed}
use Rattle.alone.specs.Alone.{SameHeader}
use Rattle.written_rules.proofs.PlainLaws.{TileHere, tile_states}
use Rattle.read_back.proofs.Setting.{Kept, tiles_kept, size_kept}

pub kept_header : {f s : List ℕ} → Kept f s → SameHeader s f
kept_header k = record { flag = k.flag; tiles = tiles_kept k; count = k.count; sizes = λ e h. size_kept k e (rw (← k.count) h) }

pub tile_whole : {f s cs : List ℕ} {i x : ℕ} → Kept f s → TileHere f s cs i x → (e : ℕ) → e < element_count f → packed s x e ≡ false
unfolding packed
tile_whole k p e h = sym (no _ (λ z. omega (arith, z.0, tile_states p e h, size_kept k e h)))
