-- A page made of pieces of which those that are not named stand where they stood: what it keeps. Assumes nothing.
use Prim.Native.Nat.{ℕ}
use mathlib.Core.Path.{◌≡◌, sym, ap, ap₂, ◌∙◌}
use mathlib.Core.List.{List, ◌++◌, map}
use mathlib.Core.Bool.{Bool, false}
use lib.ListN.{length}
use Rattle.wire.specs.Bytes.{Same}
use Rattle.record.specs.Chain.{joined, WellFormed}
use Rattle.pieces.specs.Pieces.{pieces}
use Rattle.pieces.specs.Standing.{standing}
use Rattle.alone.specs.Alone.{Front}
use Rattle.writable.specs.Parts.{Parted}
use Rattle.page_laws.specs.Tiles.{tiles_of, standing_of, bytes_in, bytes_standing, metadata_of, of_tile, record_of_tile, bytes_of_tile, SameUnset, Follows, InPlace}
use Rattle.page_laws.proofs.TileMapLaws.{stands_of}

-- the page s, by its front f, and another front g with the pieces qs
pub record KeptBy (s f g : List ℕ) (qs : List (List ℕ)) (named : ℕ → Bool) : Type 0 where
  pub parted : Parted s f (pieces s)
  pub front : Front g
  pub formed : WellFormed qs
  pub header : SameUnset s (g ++ joined qs)
  pub reference : Same s (g ++ joined qs) 64 72
  pub metadata : standing 1 (length f) (pieces s) ≡ standing 1 (length g) qs
  pub directory : standing 4 (length f) (pieces s) ≡ standing 4 (length g) qs
  pub records : (j : ℕ) → named j ≡ false → of_tile j (standing 2 (length g) qs) ≡ of_tile j (standing 2 (length f) (pieces s))

module _ {s f g : List ℕ} {qs : List (List ℕ)} {named : ℕ → Bool} (k : KeptBy s f g qs named) where
  first : (kind : ℕ) → standing_of kind s ≡ standing kind (length f) (pieces s)
  unfolding standing_of
  first kind = ap (λ (n : ℕ). standing kind n (pieces s)) (sym k.parted.ends)

  second : (kind : ℕ) → standing_of kind (g ++ joined qs) ≡ standing kind (length g) qs
  second kind = stands_of g k.front kind qs k.formed

  pub kept_standing_lem : (kind : ℕ) → standing kind (length f) (pieces s) ≡ standing kind (length g) qs → standing_of kind (g ++ joined qs) ≡ standing_of kind s
  kept_standing_lem kind e = second kind ∙ sym e ∙ sym (first kind)

  kept_record : (j : ℕ) → named j ≡ false → record_of_tile (g ++ joined qs) j ≡ record_of_tile s j
  unfolding record_of_tile
  kept_record j n = ap (of_tile j) (second 2) ∙ k.records j n ∙ ap (of_tile j) (sym (first 2))

  pub kept_places : InPlace s (g ++ joined qs) named
  unfolding metadata_of
  kept_places =
      record {
        reference = k.reference;
        metadata = ap₂ (λ (a b : List (ℕ × List ℕ)). a ++ b) (kept_standing_lem 1 k.metadata) (kept_standing_lem 4 k.directory);
        records = kept_record;
      }

  pub kept_follows : {tiles : ℕ → List (List ℕ)} → ((j : ℕ) → tiles_of (g ++ joined qs) j ≡ tiles j) → Follows s (g ++ joined qs) named tiles
  unfolding bytes_standing bytes_of_tile
  kept_follows m =
      record {
        header = k.header;
        metadata = ap (map bytes_in) (kept_standing_lem 1 k.metadata);
        records = λ j n. ap (map bytes_in) (kept_record j n);
        map_of = m;
      }
