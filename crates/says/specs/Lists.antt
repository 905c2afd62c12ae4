-- Lists of items of one size, as a caller takes them: from which item on, and as many whole items as the caller's numbers have room for.
use Rattle.std.specs.Prelude.{ℕ, ◌+◌, ◌-◌, Bool, length, drop, leb}
use mathlib.Core.List.{List, [], ◌∷◌, flat_map}
use Rattle.wire.specs.Pick.{pick}
use Rattle.wire.specs.Bytes.{put}
use Rattle.answer.specs.Refusals.{refusal_number, refusal_place, unless_refused}
use Rattle.page_check.specs.Stages.{check}
use Rattle.says.specs.declared.lists.Progress.{Progress}
use Rattle.says.specs.declared.lists.Listed.{Listed}
use Rattle.says.specs.declared.lists.Listed.TheVariants.{Items, Refused}

-- the first of xs, as many as there is room for whole items of a size
unfoldable pub fitting : ℕ → ℕ → List ℕ → List ℕ
fitting size room [] = []
fitting size room (x ∷ xs) = pick (leb size room) (x ∷ fitting size (room - size) xs) []

-- those of xs that are taken from a first one on
unfoldable pub taken : ℕ → ℕ → List ℕ → ℕ → List ℕ
taken size from xs room = fitting size room (drop from xs)

-- how many were taken, and how many there are from that one on; none and none past the end
unfoldable pub items_of : ℕ → ℕ → List ℕ → ℕ → Listed
items_of size from xs room = Items (length (taken size from xs room)) (length (drop from xs))

-- the numbers of those, one item behind the other; `f` gives an item's numbers
unfoldable pub item_numbers : (ℕ → List ℕ) → ℕ → ℕ → List ℕ → ℕ → List ℕ
item_numbers f size from xs room = flat_map f (taken size from xs room)

-- behind the check: its refusal, or the items; where it refuses no number is written
unfoldable pub listed : List ℕ → ℕ → ℕ → List ℕ → ℕ → Listed
listed s size from xs room = unless_refused Refused (check s) (items_of size from xs room)

unfoldable pub listed_numbers : List ℕ → (ℕ → List ℕ) → ℕ → ℕ → List ℕ → ℕ → List ℕ
listed_numbers s f size from xs room = unless_refused (λ r. []) (check s) (item_numbers f size from xs room)

-- as numbers: 0, or the refusal's number; how many were taken, or the refusal's place; how many there are, 0 of a refusal
abbrev pub listed_number : Listed → ℕ
listed_number (Items taken more) = 0
listed_number (Refused r) = refusal_number r

abbrev pub listed_first : Listed → ℕ
listed_first (Items taken more) = taken
listed_first (Refused r) = refusal_place r

abbrev pub listed_more : Listed → ℕ
listed_more (Items taken more) = more
listed_more (Refused r) = 0

-- A list under way. An item is passed over while there are any to pass over, taken where it fits whole, and else left out, as are all
-- behind it.

unfoldable pub passed_over : Progress → Progress
passed_over p = record { skip = p.skip - 1; at = p.at; taken = p.taken; seen = p.seen }

unfoldable pub left_out : Progress → Progress
left_out p = record { skip = p.skip; at = p.at; taken = p.taken; seen = p.seen + 1 }

unfoldable pub took_item : ℕ → Progress → Progress
took_item size p = record { skip = p.skip; at = p.at + size; taken = p.taken + 1; seen = p.seen + 1 }

unfoldable pub offered : ℕ → ℕ → Progress → Progress
offered size room p = pick (leb 1 p.skip) (passed_over p) (pick (leb (p.at + size) room) (took_item size p) (left_out p))

-- what the caller's numbers are then
unfoldable pub offered_to : List ℕ → List ℕ → Progress → List ℕ
offered_to d item p = pick (leb 1 p.skip) d (put d p.at item)

-- the same where the list has the item, else nothing is given to it
unfoldable pub offered_if : Bool → ℕ → ℕ → Progress → Progress
offered_if b size room p = pick b (offered size room p) p

unfoldable pub offered_if_to : Bool → List ℕ → List ℕ → Progress → List ℕ
offered_if_to b d item p = pick b (offered_to d item p) d
