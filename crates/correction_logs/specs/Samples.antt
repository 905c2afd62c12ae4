-- Req 14, samples: logs of document 01's page of the listing, which has four tiles of eight bytes.
use Rattle.std.specs.Prelude.{ℕ, ◌≡◌, List, [], ◌∷◌, ◌++◌, true, false, replicate, take}
use Rattle.correction_logs.specs.Log.{is_store, entry_tile, entry_cells, entries_from, log_right}

-- store tile 0, eight bytes 11, and remove tile 2 twice
abbrev pub three : List ℕ
three = (0 ∷ 0 ∷ 0 ∷ 24 ∷ 1 ∷ 1 ∷ 0 ∷ 0 ∷ 0 ∷ 0 ∷ []) ++ replicate 8 17 ++ (2 ∷ 0 ∷ 0 ∷ 0 ∷ 2 ∷ 2 ∷ 0 ∷ 0 ∷ 0 ∷ 2 ∷ [])

pub record LogSamples : Type 0 where
  pub right : log_right 4 8 three ≡ true
  pub entries : entries_from 4 8 three 5 ≡ 5 ∷ 18 ∷ 23 ∷ []
  pub stores : is_store three 5 ≡ true
  pub cells : entry_cells 8 three 5 ≡ replicate 8 17
  pub removes : is_store three 18 ≡ false
  pub tile : entry_tile three 23 ≡ 2
  -- the index 2 is past two tiles, and tiles of nine bytes take a byte more
  pub past : log_right 2 8 three ≡ false
  pub longer : log_right 4 9 three ≡ false
  -- one with no entry is right; one that its end cuts, or with a byte more, is not
  pub none : log_right 4 8 (0 ∷ 0 ∷ 0 ∷ 1 ∷ 1 ∷ []) ≡ true
  pub cut : log_right 4 8 (take 27 three) ≡ false
  pub more : log_right 4 8 (three ++ (0 ∷ [])) ≡ false
  -- a length that counts itself, another version, and an entry that neither stores nor removes
  pub counted : log_right 4 8 (0 ∷ 0 ∷ 0 ∷ 5 ∷ 1 ∷ []) ≡ false
  pub version : log_right 4 8 (0 ∷ 0 ∷ 0 ∷ 1 ∷ 2 ∷ []) ≡ false
  pub neither : log_right 4 8 (0 ∷ 0 ∷ 0 ∷ 6 ∷ 1 ∷ 3 ∷ 0 ∷ 0 ∷ 0 ∷ 0 ∷ []) ≡ false
