-- For private functions of lists.rt; no rule of stage 9 rests on it.
-- The entries of a list, counted by the records that they are of, a window of the file at a time. A window has places, the first
-- at its base, each eight bytes behind the one before it.
use Rattle.std.specs.Prelude.{ℕ, zero, suc, ◌+◌, ◌-◌, ◌/◌, ◌%◌, ◌*◌, List, [], ◌∷◌, Bool, not, leb, length, get_or, set, replicate}
use Rattle.wire.specs.Pick.{pick}
use Rattle.wire.specs.Tests.{◌≤?◌, ◌≡?◌, ◌≢?◌, is, passes}
use Rattle.wire.specs.Bytes.{u64_at}
use Rattle.wire.specs.Lists.{every}
use Rattle.record.specs.Chain.{records_of}
use Rattle.record.specs.Record.{type_at}
use Rattle.check_lists.specs.declared.ListKind.{ListKind}
use Rattle.check_lists.specs.declared.ListKind.TheVariants.{FreeSpace, Metadata}
use Rattle.check_lists.specs.inner.Search.{listed_kind, list_count, list_entry_at, list_entry_of}

-- how many places a window has, and how many bytes they lie over
abbrev pub window_places : ℕ
window_places = 131072

abbrev pub window_bytes : ℕ
window_bytes = 8 * window_places

-- the start of the record that the entry at p names: a free-space entry gives the start, a metadata entry that of the content
unfoldable pub named_by : List ℕ → ListKind → ℕ → ℕ
named_by s FreeSpace p = u64_at s p
named_by s Metadata p = u64_at s p - 8

-- the entry at p is that of the record at x, which is a place of the window at base; the number of the place, or
-- `window_places`, which is none
unfoldable pub entry_in : List ℕ → ListKind → ℕ → ℕ → ℕ → Bool
entry_in s l base p x = passes ((base ≤? x) ∷ (x - base + 1 ≤? window_bytes) ∷ ((x - base) % 8 ≡? 0) ∷ is (list_entry_of s l x p) ∷ [])

unfoldable pub slot_of : List ℕ → ListKind → ℕ → ℕ → ℕ
slot_of s l base p = pick (entry_in s l base p (named_by s l p)) ((named_by s l p - base) / 8) window_places

-- a count goes no further than 2
unfoldable pub one_more : ℕ → ℕ
one_more c = pick (leb 2 c) 2 (c + 1)

unfoldable pub noted : List ℕ → ℕ → List ℕ
noted cs j = set cs j (one_more (get_or cs j 0))

-- the first k entries, added to the counts cs
unfoldable pub tallied : List ℕ → ListKind → ℕ → List ℕ → ℕ → List ℕ
tallied s l base cs zero = cs
tallied s l base cs (suc k) = noted (tallied s l base cs k) (slot_of s l base (list_entry_at s l k))

-- a record in the window whose count is not 1
unfoldable pub count_not_one : ℕ → List ℕ → ℕ → Bool
count_not_one base cs x = passes ((base ≤? x) ∷ ((x - base) / 8 + 1 ≤? length cs) ∷ (get_or cs ((x - base) / 8) 0 ≢? 1) ∷ [])

-- and which is of the list's type
unfoldable pub not_once_in : List ℕ → ListKind → ℕ → List ℕ → ℕ → Bool
not_once_in s l base cs x = passes ((type_at s x ≡? listed_kind l) ∷ is (count_not_one base cs x) ∷ [])

-- the counts of the window at base, whole
unfoldable pub window_counts : List ℕ → ListKind → ℕ → List ℕ
window_counts s l base = tallied s l base (replicate window_places 0) (list_count s l)

-- no record of the list's type is one
unfoldable pub window_right : List ℕ → ListKind → ℕ → Bool
window_right s l base = every (λ x. not (count_not_one base (window_counts s l base) x)) (records_of s (listed_kind l))
