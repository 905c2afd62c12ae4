-- The records that stand behind the front of a file that is laid down are a whole chain. Assumes nothing.
use Prim.Native.Nat.{ℕ, ◌+◌, ◌*◌, ◌≤◌}
use mathlib.Core.Path.{◌≡◌, sym, ap, ◌∙◌}
use mathlib.Core.List.{List, [], ◌∷◌, ◌++◌, append_assoc, append-nil}
use mathlib.Core.Bool.{true}
use native.Mathlib.Omega.{arith}
use lib.ListN.{length, take, drop}
use Rattle.wire.specs.Bytes.{largest_integer}
use Rattle.header.specs.Fields.{checksum_enabled, element_count}
use Rattle.header.specs.Element.{entries_read}
use Rattle.record.specs.Record.{length_at, content_at, record_ok}
use Rattle.record.specs.Chain.{Whole, joined, starts_of, WellFormed}
use Rattle.record.proofs.ChainLaws.{joined_whole}
use Rattle.geometry.specs.Tiles.{tile_count}
use Rattle.geometry.specs.Sizes.{tile_bytes, plain_tile_length}
use Rattle.written_records.specs.Pieces.{record_length, record_of}
use Rattle.written_records.proofs.PieceLaws.{record_well}
use Rattle.written_records.proofs.TileLaws.{tile_well}
use Rattle.lay_down.specs.Page.{tile_records, directory_body, directory_record, directory_start, laid_front, laid_file}
use Rattle.lay_down.proofs.PageLaws.{cells_split, directory_length, front_length}

-- each tile record is one by itself, and no byte more; so they make a whole chain with what comes behind them
module _ (f : List ℕ) (all : entries_read f ≡ element_count f) (fits : plain_tile_length f ≤ largest_integer) where
  tiles_well :
      (ix c : List ℕ) (rest : List (List ℕ)) → length c ≡ length ix * tile_bytes f → WellFormed rest → WellFormed (tile_records f ix c ++ rest)
  unfolding tile_records
  tiles_well [] c rest h w = w
  tiles_well (i ∷ is) c rest h w =
      let p = cells_split (tile_bytes f) (length is) c h in
      (tile_well f all fits i (take (tile_bytes f) c) p.0, tiles_well is (drop (tile_bytes f) c) rest p.1 w)

directory_well :
    (f ix : List ℕ) → record_length (24 + 4 * tile_count f) ≤ largest_integer →
    (record_ok (directory_record f ix) 0 ≡ true) × (length_at (directory_record f ix) 0 ≡ length (directory_record f ix))
unfolding directory_record
directory_well f ix h =
    let a : length (record_of (checksum_enabled f) 5 (directory_body f ix)) ≡ record_length (24 + 4 * tile_count f) = directory_length f ix in
    record_well (checksum_enabled f) 5 (directory_body f ix) (omega arith) (omega arith)

-- the records in their order
abbrev pub laid_records : List ℕ → List ℕ → List ℕ → List (List ℕ)
laid_records f ix c = tile_records f ix c ++ (directory_record f ix ∷ [])

joined_last : (rs : List (List ℕ)) (r : List ℕ) → joined rs ++ r ≡ joined (rs ++ (r ∷ []))
joined_last [] r = sym (append-nil r)
joined_last (x ∷ xs) r = append_assoc x (joined xs) r ∙ ap (λ (l : List ℕ). x ++ l) (joined_last xs r)

pub laid_joined : (f : List ℕ) (t : ℕ) (ix c : List ℕ) → laid_file f t ix c ≡ laid_front f t (content_at (directory_start f ix)) ++ joined (laid_records f ix c)
unfolding laid_file
laid_joined f t ix c =
    let a = laid_front f t (content_at (directory_start f ix)) in
    append_assoc a (joined (tile_records f ix c)) (directory_record f ix) ∙ ap (λ (l : List ℕ). a ++ l) (joined_last (tile_records f ix c) (directory_record f ix))

-- and they are the whole chain from the front's end on
pub laid_whole :
    (f : List ℕ) (t : ℕ) (ix c : List ℕ) → entries_read f ≡ element_count f → plain_tile_length f ≤ largest_integer →
    record_length (24 + 4 * tile_count f) ≤ largest_integer → length c ≡ length ix * tile_bytes f →
    Whole (laid_file f t ix c) (length f) (starts_of (length f) (laid_records f ix c))
laid_whole f t ix c all p q h =
    let a = laid_front f t (content_at (directory_start f ix)) in
    let e : length a ≡ length f = front_length f t (content_at (directory_start f ix)) in
    let w = joined_whole a (laid_records f ix c) (tiles_well f all p ix c (directory_record f ix ∷ []) h (directory_well f ix q, tt)) in
    rw (laid_joined f t ix c, ← e) w
