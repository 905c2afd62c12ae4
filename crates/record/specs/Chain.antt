-- The chain of records as a list (document 01, stage 6: records follow the header without a gap up to the last byte).
use Rattle.std.specs.Prelude.{ℕ, zero, suc, ◌+◌, ◌≡◌, List, [], ◌∷◌, ◌++◌, Bool, true, false, not, length, eqb, None, Option, Some}
use Rattle.wire.specs.Pick.{pick}
use Rattle.wire.specs.Lists.{select}
use Rattle.record.specs.Record.{length_at, type_at, record_ok}

-- the starts of the records from `at` on, up to the file's end or to the first bad one; the first argument only bounds the
-- recursion
unfoldable pub starts_go : ℕ → List ℕ → ℕ → List ℕ
starts_go zero s at = []
starts_go (suc k) s at = elim (record_ok s at) [ true ↦ at ∷ starts_go k s (at + length_at s at) | false ↦ [] ]

unfoldable pub starts : List ℕ → ℕ → List ℕ
starts s at = starts_go (length s) s at

-- where records end that stand one behind the other from `at` on
unfoldable pub end_of : List ℕ → ℕ → List ℕ → ℕ
end_of s at [] = at
end_of s at (x ∷ xs) = end_of s (x + length_at s x) xs

-- the header is a record at 16 (G Table 7); the others stand behind it
unfoldable pub header_end : List ℕ → ℕ
header_end s = 16 + length_at s 16

unfoldable pub records : List ℕ → List ℕ
records s = starts s (header_end s)

-- those of a type, in file order (G Table 1)
unfoldable pub records_of : List ℕ → ℕ → List ℕ
records_of s kind = select (λ x. eqb (type_at s x) kind) (records s)

-- where they end: the file's end, or the start of the first bad one
unfoldable pub records_end : List ℕ → ℕ
records_end s = end_of s (header_end s) (records s)

-- the first of a list at which p holds
unfoldable pub find : (ℕ → Bool) → List ℕ → Option ℕ
find p [] = None
find p (x ∷ xs) = pick (p x) (Some x) (find p xs)

-- the first at which it does not
unfoldable pub find_not : (ℕ → Bool) → List ℕ → Option ℕ
find_not p xs = find (λ x. not (p x)) xs

-- the start of the first record from `at` on of which p holds
unfoldable pub first_record : List ℕ → ℕ → (ℕ → Bool) → Option ℕ
first_record s at p = find p (starts s at)

-- the records xs stand one behind the other from `at` on, without a gap, up to `end`
abbrev pub Stand : List ℕ → ℕ → List ℕ → ℕ → Type 0
Stand s at [] end = at ≡ end
Stand s at (x ∷ xs) end = (x ≡ at) × ((record_ok s x ≡ true) × Stand s (x + length_at s x) xs end)

-- up to the file's last byte
abbrev pub Whole : List ℕ → ℕ → List ℕ → Type 0
Whole s at xs = Stand s at xs (length s)

-- records put together, one behind the other, and where each starts, the first at `at`
abbrev pub joined : List (List ℕ) → List ℕ
joined [] = []
joined (r ∷ rs) = r ++ joined rs

abbrev pub starts_of : ℕ → List (List ℕ) → List ℕ
starts_of at [] = []
starts_of at (r ∷ rs) = at ∷ starts_of (at + length r) rs

-- each of them is a record by itself, and no byte more
abbrev pub WellFormed : List (List ℕ) → Type 0
WellFormed [] = Unit {0}
WellFormed (r ∷ rs) = ((record_ok r 0 ≡ true) × (length_at r 0 ≡ length r)) × WellFormed rs
