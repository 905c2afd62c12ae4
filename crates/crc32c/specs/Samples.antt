-- CRC32C's published vectors: the check value of `123456789`, and RFC 3720, appendix B.4.
use Rattle.std.specs.Prelude.{ℕ, ◌≡◌, List, [], ◌∷◌, map}
use Rattle.wire.specs.Bytes.{zeros}
use Rattle.crc32c.specs.Crc.{crc_of, crc_part, crc_without}

-- bytes, and their checksum
pub record Vector : Type 0 where
  pub bytes : List ℕ
  pub sum : ℕ

abbrev pub vector : List ℕ → ℕ → Vector
vector s n = record { bytes = s; sum = n }

-- '123456789'
abbrev pub one_to_nine : List ℕ
one_to_nine =
    49 ∷ 50 ∷ 51 ∷ 52 ∷ 53 ∷ 54 ∷ 55 ∷ 56 ∷ 57 ∷ []

-- 32 bytes of ones, ascending and descending bytes, and an iSCSI read command
abbrev pub all_ones : List ℕ
all_ones =
    255 ∷ 255 ∷ 255 ∷ 255 ∷ 255 ∷ 255 ∷ 255 ∷ 255 ∷ 255 ∷ 255 ∷ 255 ∷ 255 ∷ 255 ∷ 255 ∷ 255 ∷ 255 ∷ 255 ∷ 255 ∷ 255 ∷ 255 ∷ 255 ∷ 255
    ∷ 255 ∷ 255 ∷ 255 ∷ 255 ∷ 255 ∷ 255 ∷ 255 ∷ 255 ∷ 255 ∷ 255 ∷ []

abbrev pub upward : List ℕ
upward =
    0 ∷ 1 ∷ 2 ∷ 3 ∷ 4 ∷ 5 ∷ 6 ∷ 7 ∷ 8 ∷ 9 ∷ 10 ∷ 11 ∷ 12 ∷ 13 ∷ 14 ∷ 15 ∷ 16 ∷ 17 ∷ 18 ∷ 19 ∷ 20 ∷ 21 ∷ 22 ∷ 23 ∷ 24 ∷ 25 ∷ 26 ∷ 27 ∷ 28
    ∷ 29 ∷ 30 ∷ 31 ∷ []

abbrev pub downward : List ℕ
downward =
    31 ∷ 30 ∷ 29 ∷ 28 ∷ 27 ∷ 26 ∷ 25 ∷ 24 ∷ 23 ∷ 22 ∷ 21 ∷ 20 ∷ 19 ∷ 18 ∷ 17 ∷ 16 ∷ 15 ∷ 14 ∷ 13 ∷ 12 ∷ 11 ∷ 10 ∷ 9 ∷ 8 ∷ 7 ∷ 6 ∷ 5 ∷ 4
    ∷ 3 ∷ 2 ∷ 1 ∷ 0 ∷ []

abbrev pub read_command : List ℕ
read_command =
    1 ∷ 192 ∷ 0 ∷ 0 ∷ 0 ∷ 0 ∷ 0 ∷ 0 ∷ 0 ∷ 0 ∷ 0 ∷ 0 ∷ 0 ∷ 0 ∷ 0 ∷ 0 ∷ 20 ∷ 0 ∷ 0 ∷ 0 ∷ 0 ∷ 0 ∷ 4 ∷ 0 ∷ 0 ∷ 0 ∷ 0 ∷ 20 ∷ 0 ∷ 0 ∷ 0 ∷ 24
    ∷ 40 ∷ 0 ∷ 0 ∷ 0 ∷ 0 ∷ 0 ∷ 0 ∷ 0 ∷ 2 ∷ 0 ∷ 0 ∷ 0 ∷ 0 ∷ 0 ∷ 0 ∷ 0 ∷ []

abbrev pub published : List Vector
published =
    vector [] 0
    ∷ vector one_to_nine 0xE306_9283
    ∷ vector (zeros 32) 0x8A91_36AA
    ∷ vector all_ones 0x62A8_AB43
    ∷ vector upward 0x46DD_794E
    ∷ vector downward 0x113F_DB5C
    ∷ vector read_command 0xD996_3A56
    ∷ []

-- of a part, of one that does not lie in the bytes, and of ones that are read as zeros
pub record VectorsHold : Type 0 where
  pub whole : map (λ v. crc_of v.bytes) published ≡ map (λ v. v.sum) published
  pub of_part : crc_part (120 ∷ 120 ∷ one_to_nine) 2 9 ≡ 0xE306_9283
  pub past_end : crc_part one_to_nine 5 9 ≡ 0
  pub read_as_zeros : crc_without all_ones 0 32 0 32 ≡ 0x8A91_36AA
