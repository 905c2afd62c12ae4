-- Req 13, "Our sheets, all big-endian: a four-byte length of all that follows, a version byte 1, rows and columns as 16-bit numbers (at
-- least 1), then 16-bit scores by rows, -1 for unread, else 0 to 1000". A sheet is a list of bytes d, and no byte more.
use Rattle.std.specs.Prelude.{ℕ, ◌+◌, ◌*◌, ◌≤◌, ◌<◌, ◌≡◌, Bool, true, ◌||◌, length, leb, eqb}
use mathlib.Core.List.{List, [], ◌∷◌, ◌++◌, flat_map}
use Rattle.wire.specs.Tests.{◌≤?◌, ◌≡?◌, is, passes, all_below}
use Rattle.wire.specs.Bytes.{Bytes, byte_at}
use Rattle.wire.specs.Big.{big_at, big_of}
use Rattle.blocks.specs.Tables.{tabled}

-- the length stands at 0, the version at 4, and the scores from 9 on
unfoldable pub sheet_rows : List ℕ → ℕ
sheet_rows d = big_at 2 d 5

unfoldable pub sheet_columns : List ℕ → ℕ
sheet_columns d = big_at 2 d 7

-- the 16 bits of the score with a number, counted by rows
unfoldable pub score_at : List ℕ → ℕ → ℕ
score_at d i = big_at 2 d (9 + 2 * i)

-- "-1 for unread": its 16 bits
abbrev pub unread : ℕ
unread = 65535

-- "-1 for unread, else 0 to 1000", of 16 bits
unfoldable pub score_right : ℕ → Bool
score_right v = leb v 1000 || eqb v unread

-- what is no bad sheet
unfoldable pub sheet_right : List ℕ → Bool
sheet_right d =
    passes
    ((9 ≤? length d) ∷ (big_at 4 d 0 + 4 ≡? length d) ∷ (byte_at d 4 ≡? 1) ∷ (1 ≤? sheet_rows d) ∷ (1 ≤? sheet_columns d)
    ∷ (9 + 2 * (sheet_rows d * sheet_columns d) ≡? length d) ∷ is (all_below (sheet_rows d * sheet_columns d) (λ i. score_right (score_at d i))) ∷ [])

-- the sheet of m rows and n columns with the scores g r c
unfoldable pub sheet_head : ℕ → ℕ → List ℕ
sheet_head m n = big_of 4 (5 + 2 * (m * n)) ++ (1 ∷ []) ++ big_of 2 m ++ big_of 2 n

unfoldable pub sheet_bytes : ℕ → ℕ → (ℕ → ℕ → ℕ) → List ℕ
sheet_bytes m n g = sheet_head m n ++ flat_map (big_of 2) (tabled m n g)

-- it has them where its sides and its length fit their fields
pub record Fits (m n : ℕ) : Type 0 where
  pub rows : (1 ≤ m) × (m ≤ 65535)
  pub columns : (1 ≤ n) × (n ≤ 65535)
  pub long : 5 + 2 * (m * n) ≤ 4294967295

pub record Says (d : List ℕ) (m n : ℕ) (g : ℕ → ℕ → ℕ) : Type 0 where
  pub rows : sheet_rows d ≡ m
  pub columns : sheet_columns d ≡ n
  pub score : (r c : ℕ) → r < m → c < n → score_at d (r * n + c) ≡ g r c
  pub right : sheet_right d ≡ true

abbrev pub Written : Type 0
Written =
    (m n : ℕ) (g : ℕ → ℕ → ℕ) → Fits m n → ((r c : ℕ) → r < m → c < n → score_right (g r c) ≡ true) → Says (sheet_bytes m n g) m n g

-- and what is right is the sheet of its own rows, columns and scores
abbrev pub Read : Type 0
Read =
    (d : List ℕ) → Bytes d → sheet_right d ≡ true →
    Fits (sheet_rows d) (sheet_columns d) × (sheet_bytes (sheet_rows d) (sheet_columns d) (λ r c. score_at d (r * sheet_columns d + c)) ≡ d)
