-- Two's complement. Assumes nothing.
use Prim.Native.Nat.{ℕ}
use mathlib.Core.Path.{◌≡◌}
use lib.IntN.{ℤ}
use mir.Syntax.{Width}
use mir.Val.{to_z, of_z, Fits}
use mir.Facts.{to_z-of_z, sfits_to_z}

-- what a call handed back, kept in a local
pub kept : (w : Width) {n : ℕ} {r : ℤ} → Fits w n → r ≡ to_z w n → to_z w (of_z w r) ≡ to_z w n
kept w f e = rw e (to_z-of_z (sfits_to_z f))
