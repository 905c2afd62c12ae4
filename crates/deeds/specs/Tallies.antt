-- How the answer is made: what is counted over cells, a piece of the rectangle after the other. A piece is the part of it that lies in one
-- tile; rows and columns count from the rectangle's first.
use Rattle.std.specs.Prelude.{ℕ, ◌+◌, ◌%◌, min, max, List, Bool, true, leb, eqb, Result, ⊤, Some, None, Option, ℤ, Ok, Err}
use Rattle.std.specs.Int.{w16}
use Rattle.std.proofs.Common.{to_z, of_z}
use Rattle.answer.specs.declared.Refusal.{Refusal}
use Rattle.wire.specs.Pick.{pick}
use Rattle.wire.specs.Tests.{both}
use Rattle.answer.specs.declared.Cell.{Cell}
use Rattle.answer.specs.declared.Held.{Held}
use Rattle.answer.specs.Refusals.{unless_refused}
use Rattle.answer.specs.Answers.{cell_kind, cell_bits}
use Rattle.store.specs.declared.pieces.HeldPiece.{HeldPiece}
use Rattle.store.specs.Face.{numbered_cell}
use Rattle.blocks.specs.Folds.{fold_inside}
use Rattle.blocks.specs.Walks.{fold_passed}
use Rattle.deeds.specs.declared.Rule.{Rule}
use Rattle.deeds.specs.declared.tally.Tally.{Tally}
use Rattle.deeds.specs.declared.tally.Run.{Run}
use Rattle.deeds.specs.Deeds.{is_stored, counts_as_fill, score_of, lesser, score_within, refusal_in, cells_of}

-- n fill cells and no other
abbrev pub fill_tally : ℕ → Tally
fill_tally n = record { fills = n; certain = true; lowest = None }

-- one cell
unfoldable pub cell_tally : Rule → Result Cell Refusal → Tally
cell_tally rule x = record { fills = pick (counts_as_fill x) 1 0; certain = score_within rule (score_of x); lowest = score_of x }

-- two counts together
unfoldable pub join_tally : Tally → Tally → Tally
join_tally a b =
    record {
      fills = a.fills + b.fills;
      certain = both a.certain b.certain;
      lowest = lesser a.lowest b.lowest;
    }

-- the same of a run of cells, in numbers alone. A score's rank is its place in the order of all, from 0 for -32,768 on, by its 16 bits;
-- the bits of a rank are found the same way
unfoldable pub rank_of : ℕ → ℕ
rank_of b = (b % 65536 + 32768) % 65536

-- as the lowest and as the highest; -1 is no score
unfoldable pub low_rank : ℕ → ℕ
low_rank b = pick (eqb b 65535) 65536 (rank_of b)

unfoldable pub high_rank : ℕ → ℕ
high_rank b = pick (eqb b 65535) 0 (rank_of b)

-- no cell
abbrev pub no_cells : Run
no_cells = record { fills = 0; low = 65536; high = 0 }

-- a stored cell more, by its 16 bits
unfoldable pub with_bits : Run → ℕ → Run
with_bits t b = record { fills = t.fills + pick (eqb b 65535) 1 0; low = min t.low (low_rank b); high = max t.high (high_rank b) }

-- a cell more
unfoldable pub with_cell : Run → Result Cell Refusal → Run
with_cell t x =
    pick (is_stored x) (with_bits t (cell_bits x % 65536))
    (record { fills = t.fills + pick (eqb (cell_kind x) 33) 1 0; low = t.low; high = t.high })

-- the score of a rank
unfoldable pub score_at : ℕ → Option ℤ
score_at n = pick (eqb n 65536) None (Some (to_z w16 (rank_of n)))

-- whether scores from one rank to another are from the mark to the scale
unfoldable pub certain_from : Rule → ℕ → ℕ → Bool
certain_from rule low high = both (leb (rank_of (of_z w16 rule.mark)) low) (leb high (rank_of (of_z w16 rule.scale)))

-- what a run has counted
unfoldable pub run_tally : Rule → Run → Tally
run_tally rule t = record { fills = t.fills; certain = certain_from rule t.low t.high; lowest = score_at t.low }

-- all cells of an area
unfoldable pub tally_in : Rule → ℕ → ℕ → ℕ → ℕ → (ℕ → ℕ → Result Cell Refusal) → Tally
tally_in rule top bottom left right f = fold_inside join_tally (fill_tally 0) top bottom left right (λ r c. cell_tally rule (f r c))

-- n cells of a tile by their numbers inside it, from `start` on (`numbered_cell` of `cells`)
unfoldable pub numbered_tally : Rule → List ℕ → ℕ → ℕ → Result Held Refusal → List ℕ → ℕ → ℕ → ℕ → Tally
numbered_tally rule s kind fill x m tile start n = tally_in rule 0 1 0 n (λ r c. numbered_cell s kind fill m tile (start + c) x)

-- what is counted, unless it is refused
unfoldable pub judged_by : Result ⊤ Refusal → Tally → Result Tally Refusal
judged_by v t = unless_refused Err v (Ok t)

-- an area by rows
unfoldable pub judged_in : Rule → ℕ → ℕ → ℕ → ℕ → (ℕ → ℕ → Result Cell Refusal) → Result Tally Refusal
judged_in rule top bottom left right f = judged_by (refusal_in top bottom left right f) (tally_in rule top bottom left right f)

-- the cells that a walk has passed, in a rectangle of n columns
unfoldable pub tally_passed : Rule → ℕ → ℕ → ℕ → ℕ → (ℕ → ℕ → Result Cell Refusal) → Tally
tally_passed rule n top bottom left f = fold_passed join_tally (fill_tally 0) 0 n top bottom left (λ r c. cell_tally rule (f r c))

-- the cells of a rectangle of a page, by their meaning, of which a piece is held
abbrev pub cells_held : HeldPiece → ℕ → ℕ → Result Cell Refusal
cells_held x = cells_of x.file.now x.compressor x.a.e x.a.row x.a.column
