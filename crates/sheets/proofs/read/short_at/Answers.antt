-- `sheets::read::short_at` meets its contract. Assumes nothing.
use Prim.Native.Nat.{◌+◌}
use Rattle.wire.proofs.ByteLaws.{byte_in, byte_number, number_split}
use Rattle.sheets.proofs.ReadLaws.{short_read}
use native.Mathlib.Omega.{arith}
use Rattle.sheets.proofs.read.short_at.Goals as goal

pub overflow_cast-v : goal.overflow_cast-v
overflow_cast-v c = record { fits = omega (arith, c.type_inv.file c.args.at) }

pub overflow_cast-v-2 : goal.overflow_cast-v-2
overflow_cast-v-2 c = record { fits = omega (arith, c.type_inv.file (c.args.at + 1)) }

pub overflow_mul-v : goal.overflow_mul-v
overflow_mul-v c = record { fits = omega (arith, c.type_inv.file (c.args.at + 1)) }

pub overflow_add-v-2 : goal.overflow_add-v-2
overflow_add-v-2 c = record { fits = omega (arith, c.type_inv.file c.args.at, c.type_inv.file (c.args.at + 1)) }

pub overflow_cast-result : goal.overflow_cast-result
overflow_cast-result c = record { fits = omega (arith, c.type_inv.file c.args.at, c.type_inv.file (c.args.at + 1)) }

pub returns : goal.returns
returns c = short_read _ _ (number_split 1 1 _ _ _ _ (omega (arith, c.requires)) (byte_number _ _ _ (byte_in _ _)) (byte_number _ _ _ (byte_in _ _))) (omega (arith, c.type_inv.file c.args.at, c.type_inv.file (c.args.at + 1)))
