-- The bits of a content (G 8): they fill a byte from its low-order bit on, then the next byte.
use Rattle.std.specs.Prelude.{ℕ, zero, suc, min, ◌+◌, ◌*◌, ◌/◌, ◌%◌, ◌^◌, List, length, leb, eqb}
use Rattle.wire.specs.Pick.{pick}
use Rattle.wire.specs.Bytes.{byte_at, largest_integer}

-- the bytes of a content: a length L, an Integer (document 01, stage 8), counts no more than its largest
abbrev pub bytes_in : List ℕ → ℕ
bytes_in c = min (length c) largest_integer

-- and so no bit is at this position or behind it
abbrev pub bits_in : ℕ
bits_in = 8 * largest_integer

-- bit i is bit i mod 8 of byte i div 8, low-order first; 2 past the end
unfoldable pub bit_at : List ℕ → ℕ → ℕ
bit_at c i = pick (leb (bytes_in c) (i / 8)) 2 (byte_at c (i / 8) / 2 ^ (i % 8) % 2)

-- the number of n bits from i on, low-order bits first (G 8, 'integer values larger than one byte')
unfoldable pub bits_at : List ℕ → ℕ → ℕ → ℕ
bits_at c i zero = 0
bits_at c i (suc n) = bit_at c i + 2 * bits_at c (i + 1) n

-- eight of them, a symbol; 256 where the last lies past the end
unfoldable pub octet_at : List ℕ → ℕ → ℕ
octet_at c i = pick (eqb (bit_at c (i + 7)) 2) 256 (bits_at c i 8)
