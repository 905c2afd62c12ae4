-- A value of an element's type: Integer, integer-coded (its raw integer), Float (bit pattern kept) or Short
-- (document 01, 'Finding a cell'). The type codes are those of G Table 8.
use Rattle.std.specs.Prelude.{ℕ, ◌%◌, eqb}
use Rattle.std.specs.Float.Ieee.{of_bits}
use Rattle.std.specs.Float.{binary32}
use Rattle.std.specs.Int.{w16, w32}
use Rattle.std.proofs.Common.{to_z, of_z}
use Rattle.wire.specs.Pick.{pick}
use Rattle.answer.specs.declared.Value.{Value}
use Rattle.answer.specs.declared.Value.TheVariants.{Integer, IntegerCoded, Float, Short}

-- the value that a bit pattern stands for, by the element's type code: 1 integer-coded, 2 Float, 3 Short, else
-- Integer (0). Integers are in two's complement (G Table 4); a Short takes the pattern's lower 16 bits
unfoldable pub value_of : ℕ → ℕ → Value
value_of kind bits =
    pick (eqb kind 1) (IntegerCoded (to_z w32 bits))
    (pick (eqb kind 2) (Float (of_bits binary32 bits) bits)
    (pick (eqb kind 3) (Short (to_z w16 (bits % 65536)))
    (Integer (to_z w32 bits))))

-- a value's type code
abbrev pub value_type : Value → ℕ
value_type (Integer z) = 0
value_type (IntegerCoded z) = 1
value_type (Float x bits) = 2
value_type (Short z) = 3

-- a value's bit pattern
abbrev pub value_bits : Value → ℕ
value_bits (Integer z) = of_z w32 z
value_bits (IntegerCoded z) = of_z w32 z
value_bits (Float x bits) = bits
value_bits (Short z) = of_z w16 z
