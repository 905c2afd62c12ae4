-- The records of a file that is laid down: where each stands, and its type. Assumes nothing.
use Prim.Native.Nat.{ℕ, ◌+◌, ◌*◌, ◌≤◌, ◌<◌}
use mathlib.Core.Path.{◌≡◌, sym, ap, ◌∙◌}
use mathlib.Core.List.Memᴰ
use mathlib.Core.List.{List, [], ◌∷◌, ◌++◌, append-nil, Memᴰ}
use mathlib.Core.Logic.{◌⊎◌, inl, inr, ⊎_elim}
use mathlib.Core.Bool.{Bool}
use native.Mathlib.Omega.{arith}
use lib.ListN.{length, get_or}
use lib.Dec.{eqb}
use borrow.Author.Tests.{eq-eqb}
use Rattle.wire.specs.Bytes.{part, largest_integer}
use Rattle.wire.proofs.ByteLaws.{part_length}
use Rattle.wire.proofs.ItemLaws.{item_within}
use Rattle.wire.proofs.PlaceLaws.{Placed, placed_last, placed_before, placed_inner}
use Rattle.header.specs.Fields.{checksum_enabled}
use Rattle.record.specs.Record.{length_at, type_at, content_at}
use Rattle.record.specs.Chain.{Whole, joined, starts_of, records, records_of}
use Rattle.record.proofs.ChainLaws.{whole_starts, starts_append}
use Rattle.geometry.specs.Tiles.{tile_count}
use Rattle.geometry.specs.Sizes.{tile_bytes, plain_tile_length}
use Rattle.record.proofs.FindLaws.{no_type}
use Rattle.wire.proofs.ListLaws.{select_append, select_all, select_none}
use Rattle.wire.specs.Lists.{select}
use Rattle.written_records.specs.Pieces.{record_length}
use Rattle.written_records.specs.Tile.{tile_record}
use Rattle.written_records.proofs.PieceLaws.{placed_kind, placed_stated}
use Rattle.lay_down.specs.Page.{tile_records, directory_body, directory_record, directory_start, file_length, laid_front, laid_file}
use Rattle.lay_down.proofs.PageLaws.{tiles_length, directory_length, front_length, lead_length}
use Rattle.lay_down.proofs.PlaceLaws.{TileStart, tiles_placed, start_tile, tile_start}
use Rattle.lay_down.proofs.ChainLaws.{laid_records, laid_whole}
use Rattle.lay_down.proofs.FrontLaws.{plain_small}
use Rattle.lay_down.proofs.AscendLaws.{ascending_each}
use Rattle.written_rules.proofs.PlainLaws.{TileHere, tile_typed}
use Rattle.read_back.proofs.Setting.{Laying, front_range}
use Rattle.read_back.proofs.FrontLaws.{front_kept}

module _ {f : List ℕ} {t : ℕ} {ix c : List ℕ} (l : Laying f t ix c) where
  pub index_below : (k : ℕ) → k < length ix → get_or ix k 0 < tile_count f
  index_below k h = (ascending_each (tile_count f) 0 ix l.indexes k h).1

  -- the cell bytes of the k-th listed tile are there
  pub cells_inside : (k : ℕ) → k < length ix → k * tile_bytes f + tile_bytes f ≤ length c
  cells_inside k h = omega (arith, item_within (length ix) k (tile_bytes f) h, l.cells)

  -- where the records stand

  tile_placed :
      (k : ℕ) → k < length ix →
      Placed (laid_file f t ix c) (length f + k * plain_tile_length f)
      (tile_record f (get_or ix k 0) (part c (k * tile_bytes f) (tile_bytes f)))
  unfolding laid_file
  tile_placed k h =
      let d = content_at (directory_start f ix) in
      placed_before
      (placed_inner (placed_last (laid_front f t d) (joined (tile_records f ix c)) (front_length f t d)) (tiles_placed f l.front.all ix c l.cells k h))
      (directory_record f ix)

  pub tile_here :
      (k : ℕ) → k < length ix →
      TileHere f (laid_file f t ix c) (part c (k * tile_bytes f) (tile_bytes f)) (get_or ix k 0) (length f + k * plain_tile_length f)
  tile_here k h =
      record { range = front_range l; below = index_below k h; long = part_length c _ _ (cells_inside k h); here = tile_placed k h }

  -- the directory is the last of them

  pub directory_placed : Placed (laid_file f t ix c) (directory_start f ix) (directory_record f ix)
  unfolding laid_file
  directory_placed =
      placed_last (laid_front f t (content_at (directory_start f ix)) ++ joined (tile_records f ix c)) (directory_record f ix)
      (lead_length f t ix c l.front.all l.cells)

  pub directory_short : length (directory_record f ix) ≤ largest_integer
  unfolding file_length
  directory_short = omega (arith, directory_length f ix, l.file)

  pub directory_typed : type_at (laid_file f t ix c) (directory_start f ix) ≡ 5
  unfolding directory_record
  directory_typed = placed_kind (checksum_enabled f) 5 (directory_body f ix) directory_placed

  pub directory_stated : length_at (laid_file f t ix c) (directory_start f ix) ≡ record_length (24 + 4 * tile_count f)
  unfolding directory_record
  directory_stated = placed_stated (checksum_enabled f) 5 (directory_body f ix) directory_placed directory_short ∙ directory_length f ix

  -- the starts of all of them

  pub chain_laid : Whole (laid_file f t ix c) (length f) (starts_of (length f) (laid_records f ix c))
  chain_laid =
      laid_whole f t ix c l.front.all (omega (arith, plain_small f l.front)) (omega (arith, directory_short, directory_length f ix)) l.cells

  starts_laid : starts_of (length f) (laid_records f ix c) ≡ starts_of (length f) (tile_records f ix c) ++ (directory_start f ix ∷ [])
  unfolding directory_start
  starts_laid =
      let e : length f + length (joined (tile_records f ix c)) ≡ length f + length ix * plain_tile_length f = rw (tiles_length f ix c l.front.all l.cells) in
      starts_append (length f) (tile_records f ix c) (directory_record f ix ∷ []) ∙ rw e

  tile_of_lem : {x : ℕ} → Memᴰ x (starts_of (length f) (tile_records f ix c)) → TileStart f ix (length f) x
  tile_of_lem m = start_tile f l.front.all ix c l.cells (length f) m

  pub start_of : {x : ℕ} → Memᴰ x (starts_of (length f) (laid_records f ix c)) → TileStart f ix (length f) x ⊎ (x ≡ directory_start f ix)
  start_of m =
      ⊎_elim (λ a. inl (tile_of_lem a)) (λ b. inr (Memᴰ.eq_of_singleton b))
      (Memᴰ.append_cases (starts_of (length f) (tile_records f ix c)) (rw starts_laid at m))

  records_laid : records (laid_file f t ix c) ≡ starts_of (length f) (laid_records f ix c)
  unfolding records
  records_laid = rw (front_kept l).ends (whole_starts _ _ _ chain_laid)

  -- the records of each type

  tile_type_lem : {x : ℕ} → TileStart f ix (length f) x → type_at (laid_file f t ix c) x ≡ 2
  tile_type_lem p = ap (type_at (laid_file f t ix c)) p.start ∙ tile_typed (tile_here p.number p.among)

  tiles_of_lem : records_of (laid_file f t ix c) 2 ≡ starts_of (length f) (tile_records f ix c)
  unfolding records_of select
  tiles_of_lem =
      let p : ℕ → Bool = λ x. eqb (type_at (laid_file f t ix c) x) 2 in
      let a = starts_of (length f) (tile_records f ix c) in
      let b : select p a ≡ a = select_all p a (λ x m. eq-eqb _ _ (tile_type_lem (tile_of_lem m))) in
      ap (select p) (records_laid ∙ starts_laid) ∙ select_append p a (directory_start f ix ∷ []) ∙ rw (b, directory_typed) (append-nil a)

  pub directories_of : records_of (laid_file f t ix c) 5 ≡ directory_start f ix ∷ []
  unfolding records_of select
  directories_of =
      let p : ℕ → Bool = λ x. eqb (type_at (laid_file f t ix c) x) 5 in
      let a = starts_of (length f) (tile_records f ix c) in
      let b : select p a ≡ [] = select_none p a (λ x m. rw (tile_type_lem (tile_of_lem m))) in
      ap (select p) (records_laid ∙ starts_laid) ∙ select_append p a (directory_start f ix ∷ []) ∙ rw (b, directory_typed)

  pub none_of : (kind : ℕ) → (kind ≡ 2 → ⊥) → (kind ≡ 5 → ⊥) → records_of (laid_file f t ix c) kind ≡ []
  none_of kind p q =
      no_type (laid_file f t ix c) kind
      (λ x m e.
      ⊎_elim (λ y. p (sym e ∙ tile_type_lem y)) (λ z. q (sym e ∙ ap (type_at (laid_file f t ix c)) z ∙ directory_typed))
      (start_of (rw records_laid at m)))

  pub tile_among : (j : ℕ) → j < length ix → Memᴰ (length f + j * plain_tile_length f) (records_of (laid_file f t ix c) 2)
  tile_among j h = rw tiles_of_lem (tile_start f l.front.all ix c l.cells (length f) j h)

  pub among_tiles : {x : ℕ} → Memᴰ x (records_of (laid_file f t ix c) 2) → TileStart f ix (length f) x
  among_tiles m = tile_of_lem (rw tiles_of_lem at m)
