-- Numbers with their highest byte first, as the archive's score sheets (Req 13, "all big-endian") and correction logs (Req 14,
-- "four-byte big-endian") have them. Reading is total, as it is of the numbers in `Bytes`.
use Rattle.std.specs.Prelude.{ℕ, zero, suc, ◌+◌, ◌*◌, ◌/◌, ◌%◌, List, [], ◌∷◌, ◌++◌}
use Rattle.wire.specs.Bytes.{part}

-- the number whose bytes these are, highest first, behind the higher bytes of a number c
unfoldable pub big_from : ℕ → List ℕ → ℕ
big_from c [] = c
big_from c (b ∷ bs) = big_from (256 * c + b) bs

-- the number of w bytes at a position; 0 where they do not lie whole in s
unfoldable pub big_at : ℕ → List ℕ → ℕ → ℕ
big_at w s at = big_from 0 (part s at w)

-- the w lowest bytes of a number, highest first
unfoldable pub big_of : ℕ → ℕ → List ℕ
big_of zero v = []
big_of (suc w) v = big_of w (v / 256) ++ (v % 256 ∷ [])
