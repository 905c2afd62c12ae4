-- `fronts::entries::put_string` meets its contract. Assumes nothing.
use mathlib.Core.Path.{refl}
use native.Mathlib.Omega.{arith}
use Rattle.fronts.proofs.WriteLaws.{string_out, string_put}
use Rattle.fronts.proofs.entries.put_string.Goals as goal

pub returns-then-room-n : goal.returns-then-room-n
returns-then-room-n c = string_out _ _ _ _ refl (omega arith)

pub returns-then-room-n-lt2 : goal.returns-then-room-n-lt2
returns-then-room-n-lt2 c = string_out _ _ _ _ refl (omega arith)

pub returns-then-room-n-2 : goal.returns-then-room-n-2
returns-then-room-n-2 c = string_out _ _ _ _ refl (omega arith)

pub returns : goal.returns
returns c = string_put _ _ _ _ _ _ _ refl c.put_byte.ensures c.put_byte-2.ensures c.put_bytes.ensures (omega arith)
