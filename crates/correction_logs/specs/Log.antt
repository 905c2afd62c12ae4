-- Req 14, "The scanning room keeps a log: four-byte big-endian length of the rest, version byte 1, then entries of one byte (1 store, 2
-- remove), a four-byte big-endian tile index and, for a store, the tile's bytes". A log is a list of bytes, and no byte more (Req 14,
-- reading 1). t is the number of bytes of a tile, m the number of tiles.
use Rattle.std.specs.Prelude.{ℕ, zero, suc, ◌+◌, List, [], ◌∷◌, Bool, true, false, length, eqb}
use Rattle.wire.specs.Pick.{pick}
use Rattle.wire.specs.Tests.{◌≤?◌, ◌≡?◌, is, passes}
use Rattle.wire.specs.Bytes.{byte_at, part}
use Rattle.wire.specs.Big.{big_at}

-- the length stands at 0, the version at 4, and the entries from 5 on

-- an entry at p: "one byte (1 store, 2 remove)"
unfoldable pub is_store : List ℕ → ℕ → Bool
is_store log p = eqb (byte_at log p) 1

-- "a four-byte big-endian tile index"
unfoldable pub entry_tile : List ℕ → ℕ → ℕ
entry_tile log p = big_at 4 log (p + 1)

-- "and, for a store, the tile's bytes": all elements in order, as Req 03's cells (Req 14, reading 2)
unfoldable pub entry_cells : ℕ → List ℕ → ℕ → List ℕ
entry_cells t log p = part log (p + 5) t

unfoldable pub end_of_entry : ℕ → List ℕ → ℕ → ℕ
end_of_entry t log p = p + 5 + pick (is_store log p) t 0

-- it is a store or a removal, and the log's end does not cut it (Req 14, reading 2)
unfoldable pub entry_whole : ℕ → List ℕ → ℕ → Bool
entry_whole t log p = passes ((1 ≤? byte_at log p) ∷ (byte_at log p ≤? 2) ∷ (end_of_entry t log p ≤? length log) ∷ [])

-- and its index is not "past the tiles"
unfoldable pub entry_right : ℕ → ℕ → List ℕ → ℕ → Bool
entry_right m t log p = passes (is (entry_whole t log p) ∷ (entry_tile log p + 1 ≤? m) ∷ [])

-- the starts of the entries from p on, up to the log's end or to the first that is not right; the first argument only bounds the
-- recursion
unfoldable pub entries_go : ℕ → ℕ → ℕ → List ℕ → ℕ → List ℕ
entries_go zero m t log p = []
entries_go (suc k) m t log p = elim (entry_right m t log p) [ true ↦ p ∷ entries_go k m t log (end_of_entry t log p) | false ↦ [] ]

unfoldable pub entries_from : ℕ → ℕ → List ℕ → ℕ → List ℕ
entries_from m t log p = entries_go (length log) m t log p

-- where entries end that stand one behind the other from p on
unfoldable pub entries_end : ℕ → List ℕ → ℕ → List ℕ → ℕ
entries_end t log p [] = p
entries_end t log p (x ∷ xs) = entries_end t log (end_of_entry t log x) xs

-- what is neither "a malformed log" nor one with "an index past the tiles anywhere in it" (Req 14, readings 1 to 3)
unfoldable pub log_right : ℕ → ℕ → List ℕ → Bool
log_right m t log =
    passes
    ((5 ≤? length log) ∷ (big_at 4 log 0 + 4 ≡? length log) ∷ (byte_at log 4 ≡? 1)
    ∷ (entries_end t log 5 (entries_from m t log 5) ≡? length log) ∷ [])
