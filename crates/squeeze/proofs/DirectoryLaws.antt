-- What is put for a kept record, by its type. Assumes nothing.
use Prim.Native.Nat.{ℕ, ◌+◌, ◌*◌, ◌≤◌}
use mathlib.Core.Path.{◌≡◌, sym, ap₂, ◌∙◌}
use mathlib.Core.List.{List}
use mathlib.Core.Bool.{Bool, true, false}
use native.Mathlib.Omega.{arith}
use borrow.Author.Tests.{eq-eqb, ne_eqb}
use Rattle.wire.specs.Bytes.{u32_at, part}
use Rattle.wire.proofs.ByteLaws.{part_length}
use Rattle.record.specs.Record.{length_at, type_at}
use Rattle.bodies.specs.TileDirectory.{standard_references, listed_rows, listed_columns}
use Rattle.pieces.specs.Pieces.{piece_at}
use Rattle.pieces.specs.Edits.{resealed}
use Rattle.stores.specs.Writes.{one_write, seal_write}
use Rattle.stores.proofs.JoinLaws.{Ran}
use Rattle.squeezed.proofs.PutLaws.{each_length}
use Rattle.squeeze.specs.Fields.{fields_put, unsealed, FieldsFit}
use Rattle.squeeze.specs.Kept.{width_at, count_at, tiles_put, metadata_put, kept_put, TilesFit, MetadataFit, KeptFits}
use Rattle.squeeze.proofs.FillLaws.{fill_seal}

-- the form of the tile directory

pub width_eight : (d : List ℕ) (x : ℕ) {r : ℕ} → r ≡ standard_references d x → r ≡ 1 → 8 ≡ width_at d x
unfolding width_at
width_eight d x e f = rw (eq-eqb (standard_references d x) 1 (sym e ∙ f))

pub width_four : (d : List ℕ) (x : ℕ) {r : ℕ} → r ≡ standard_references d x → (r ≡ 1 → ⊥) → 4 ≡ width_at d x
unfolding width_at
width_four d x e f = rw (ne_eqb (standard_references d x) 1 (λ z. f (e ∙ z)))

pub count_is : (d : List ℕ) (x : ℕ) {a b : ℕ} → a ≡ listed_rows d x → b ≡ listed_columns d x → a * b ≡ count_at d x
unfolding count_at
count_is d x e f = ap₂ ◌*◌ e f

-- a directory with its checksum

fields_sealed :
    {k : ℕ} {d : List ℕ} (to flag : ℕ) (named : ℕ → ℕ) {x n first : ℕ} {strings : Bool} {w count a r : ℕ} {l o : List ℕ} →
    FieldsFit d x n first strings w count → to ≤ x → Ran k (one_write to (unsealed (fields_put named d x n first strings w count) n)) d a l →
    Ran a (seal_write flag to n l) l r o → Ran k (one_write to (resealed flag (fields_put named d x n first strings w count))) d r o
unfolding fields_put
fields_sealed to flag named {x} {n} f h p q =
    fill_seal to flag n _ p q (each_length _ _ _ _ ∙ part_length _ x n f.inside) f.least (omega (arith, f.inside))

module _ {d : List ℕ} {x : ℕ} (f : TilesFit d x) {n w count : ℕ} (e : n ≡ length_at d x) (g : w ≡ width_at d x) (h : count ≡ count_at d x) where
  pub tiles_ready : FieldsFit d x n 32 false w count
  tiles_ready = rw (e, g, h) f

  pub tiles_ran :
      {k : ℕ} (to flag : ℕ) (named : ℕ → ℕ) {a r : ℕ} {l o : List ℕ} → to ≤ x →
      Ran k (one_write to (unsealed (fields_put named d x n 32 false w count) n)) d a l → Ran a (seal_write flag to n l) l r o →
      Ran k (one_write to (tiles_put flag named d x)) d r o
  unfolding tiles_put
  tiles_ran to flag named b p q = rw (← e, ← g, ← h) (fields_sealed to flag named tiles_ready b p q)

module _ {d : List ℕ} {x : ℕ} (f : MetadataFit d x) {n count : ℕ} (e : n ≡ length_at d x) (h : count ≡ u32_at d (x + 8)) where
  pub metadata_ready : FieldsFit d x n 12 true 8 count
  metadata_ready = rw (e, h) f

  pub metadata_ran :
      {k : ℕ} (to flag : ℕ) (named : ℕ → ℕ) {a r : ℕ} {l o : List ℕ} → to ≤ x →
      Ran k (one_write to (unsealed (fields_put named d x n 12 true 8 count) n)) d a l → Ran a (seal_write flag to n l) l r o →
      Ran k (one_write to (metadata_put flag named d x)) d r o
  unfolding metadata_put
  metadata_ran to flag named b p q = rw (← e, ← h) (fields_sealed to flag named metadata_ready b p q)

-- any kept record

pub fits_tiles : {d : List ℕ} {x kind : ℕ} → KeptFits d x → kind ≡ type_at d x → kind ≡ 5 → TilesFit d x
fits_tiles f e z = f.tiles (sym e ∙ z)

pub fits_metadata : {d : List ℕ} {x kind : ℕ} → KeptFits d x → kind ≡ type_at d x → kind ≡ 4 → MetadataFit d x
fits_metadata f e z = f.metadata (sym e ∙ z)

module _ {k : ℕ} {d : List ℕ} (to flag : ℕ) (named : ℕ → ℕ) (x kind : ℕ) {r : ℕ} {o : List ℕ} (e : kind ≡ type_at d x) where
  pub kept_tiles_lem : kind ≡ 5 → Ran k (one_write to (tiles_put flag named d x)) d r o → Ran k (one_write to (kept_put flag named d x)) d r o
  unfolding kept_put
  kept_tiles_lem z q = rw (eq-eqb (type_at d x) 5 (sym e ∙ z)) q

  pub kept_metadata :
      (kind ≡ 5 → ⊥) → kind ≡ 4 → Ran k (one_write to (metadata_put flag named d x)) d r o → Ran k (one_write to (kept_put flag named d x)) d r o
  unfolding kept_put
  kept_metadata y z q = rw (ne_eqb (type_at d x) 5 (λ u. y (e ∙ u)), eq-eqb (type_at d x) 4 (sym e ∙ z)) q

  pub kept_other :
      (kind ≡ 5 → ⊥) → (kind ≡ 4 → ⊥) → {n : ℕ} → n ≡ length_at d x → Ran k (one_write to (part d x n)) d r o → Ran k (one_write to (kept_put flag named d x)) d r o
  unfolding kept_put piece_at
  kept_other y z g q = rw (ne_eqb (type_at d x) 5 (λ u. y (e ∙ u)), ne_eqb (type_at d x) 4 (λ u. z (e ∙ u)), ← g) q
