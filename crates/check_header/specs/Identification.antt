-- Document 01, stages 1 and 2; G Table 6. `s` is the bytes, n the file's length.
use Rattle.std.specs.Prelude.{ℕ, List, [], ◌∷◌, Bool}
use Rattle.wire.specs.Tests.{◌≤?◌, ◌≡?◌, is, passes}
use Rattle.wire.specs.Bytes.{byte_at, part, same_bytes}

-- the eleven characters `gvrs raster` and a zero byte
unfoldable pub mark : List ℕ
mark = 103 ∷ 118 ∷ 114 ∷ 115 ∷ 32 ∷ 114 ∷ 97 ∷ 115 ∷ 116 ∷ 101 ∷ 114 ∷ 0 ∷ []

-- stage 1: at least 16 bytes, and the first 12 are the mark
unfoldable pub identified : List ℕ → ℕ → Bool
identified s n = passes ((16 ≤? n) ∷ is (same_bytes (part s 0 12) mark) ∷ [])

-- stage 2: bytes 12 and 13 are 1 and 4
unfoldable pub version_right : List ℕ → Bool
version_right s = passes ((byte_at s 12 ≡? 1) ∷ (byte_at s 13 ≡? 4) ∷ [])
