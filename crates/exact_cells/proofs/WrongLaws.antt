-- Wrong readers on the page with compressed tiles: what has the six facts is the meaning, and that is another answer. Assumes nothing.
use Rattle.std.specs.Prelude.{Err, Result}
use Rattle.answer.specs.declared.Refusal.{Refusal}
use Prim.Native.Nat.{ℕ, zero, suc}
use mathlib.Core.Path.{◌≡◌, refl, ap, ◌∙◌}
use mathlib.Core.List.{List, [], ◌∷◌}
use mathlib.Core.Bool.{true}
use native.Mathlib.Omega.{arith}
use lib.Dec.{leb}
use borrow.Author.Tests.{leb-true}
use Rattle.wire.specs.Lists.{every}
use Rattle.wire.specs.Tests.{passes}
use Rattle.wire.specs.Bytes.{Bytes}
use Rattle.wire.proofs.TestLaws.{means}
use Rattle.wire.proofs.ByteLaws.{bytes_none, bytes_cons}
use Rattle.answer.specs.declared.Refusal.TheVariants.{OutsideGrid}
use Rattle.answer.specs.declared.Cell.{Cell}
use Rattle.answer.specs.Answers.{cell_kind, cell_place}
use Rattle.page_check.proofs.AcceptedLaws.{accepted_sound}
use Rattle.cells.specs.CellExactly.{CellIs}
use Rattle.cells.specs.Meaning.{meaning}
use Rattle.exact_cells.specs.PackedPage.{packed_file}
use Rattle.exact_cells.specs.WrongReaders.{WrongReaders}
use Rattle.exact_cells.proofs.ExactLaws.{cell_exactly}
use Rattle.exact_cells.proofs.PackedLaws.{packed_read}

each_small : (l : List ℕ) → every (λ b. leb b 255) l ≡ true → Bytes l
unfolding every
each_small [] e = bytes_none
each_small (b ∷ l) e = let h = means _ e in bytes_cons b (omega (arith, leb-true b 255 h.0)) (each_small l h.1.0)

file_bytes : Bytes packed_file
unfolding every passes
file_bytes = each_small packed_file refl

-- the answers of the table, by their number
abbrev nth : ℕ → List (Result Cell Refusal) → Result Cell Refusal
nth n [] = Err OutsideGrid
nth zero (c ∷ cs) = c
nth (suc n) (c ∷ cs) = nth n cs

other : (ci row column e : ℕ) (c d : Result Cell Refusal) → meaning packed_file ci row column e ≡ d → (c ≡ d → ⊥) → CellIs packed_file ci row column e c → ⊥
other ci row column e c d m f k = f ((cell_exactly packed_file file_bytes (accepted_sound packed_file packed_read.accepted) ci row column e c).1 k ∙ m)

pub wrong_readers : WrongReaders
wrong_readers =
    let a = packed_read.by_meaning in
    record {
      fills = λ v w. other 7 0 1 0 _ _ (ap (nth 0) a) (λ p. omega (arith, ap cell_kind p));
      never_unpacks = λ x. other 7 0 1 0 _ _ (ap (nth 0) a) (λ p. omega (arith, ap cell_kind p));
      ignores_index = λ v at w. other 7 0 5 0 _ _ (ap (nth 5) a) (λ p. omega (arith, ap cell_kind p));
      unpacks_float = λ v at w. other 7 0 1 1 _ _ (ap (nth 4) a) (λ p. omega (arith, ap cell_kind p));
      at_content = other 7 1 9 0 _ _ (ap (nth 9) a) (λ p. omega (arith, ap cell_place p));
    }
