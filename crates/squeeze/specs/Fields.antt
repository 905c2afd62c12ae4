-- Req 11, reading 7: the references of a directory, read where it stands in a buffer d: its n bytes from x on, of which the first reference
-- stands `first` behind x. A reference has w bytes. `strings` says that each is the beginning of a metadata directory's entry; else they
-- stand one behind the other. `named` gives the new content for an old one.
use Rattle.std.specs.Prelude.{ℕ, ◌+◌, ◌*◌, ◌-◌, ◌≤◌, ◌≡◌, ◌⊎◌, List, Bool, length, eqb}
use Rattle.wire.specs.Pick.{pick}
use Rattle.wire.specs.Bytes.{u32_at, u64_at, part}
use Rattle.wire.specs.Items.{advance}
use Rattle.bodies.specs.ListDirectories.{metadata_entry_size}
use Rattle.pieces.specs.Edits.{reference_bytes}
use Rattle.correct.specs.Renamed.{put_each}

-- G Table 21: the content's position that one at a position gives: eight bytes as they are, a compact one of four times 8
unfoldable pub reference_read : ℕ → List ℕ → ℕ → ℕ
reference_read w d at = pick (eqb w 8) (u64_at d at) (u32_at d at * 8)

-- from one at a position to the next (G Tables 20 and 21)
unfoldable pub field_size : List ℕ → Bool → ℕ → ℕ → ℕ
field_size d strings w at = pick strings (metadata_entry_size d at) w

unfoldable pub field_end : List ℕ → Bool → ℕ → ℕ → ℕ
field_end d strings w at = at + field_size d strings w at

-- where reference number i stands in d, and in the record
unfoldable pub field_at : List ℕ → ℕ → ℕ → ℕ → Bool → ℕ → ℕ → ℕ
field_at d x n first strings w i = advance (field_end d strings w) (x + (n - 4)) i (x + first)

unfoldable pub field_in : List ℕ → ℕ → ℕ → ℕ → Bool → ℕ → ℕ → ℕ
field_in d x n first strings w i = field_at d x n first strings w i - x

-- its bytes then
unfoldable pub field_then : (ℕ → ℕ) → List ℕ → ℕ → ℕ → ℕ → Bool → ℕ → ℕ → List ℕ
field_then named d x n first strings w i = reference_bytes w (named (reference_read w d (field_at d x n first strings w i)))

-- the record with the first `count` of them
unfoldable pub fields_put : (ℕ → ℕ) → List ℕ → ℕ → ℕ → ℕ → Bool → ℕ → ℕ → List ℕ
fields_put named d x n first strings w count =
    put_each (field_in d x n first strings w) (field_then named d x n first strings w) count (part d x n)

-- all of a record of n bytes but its checksum
unfoldable pub unsealed : List ℕ → ℕ → List ℕ
unsealed r n = part r 0 (n - 4)

-- the record lies in d, and all of them lie in it before the checksum
pub record FieldsFit (d : List ℕ) (x n first : ℕ) (strings : Bool) (w count : ℕ) : Type 0 where
  pub inside : x + n ≤ length d
  pub least : 4 ≤ n
  pub width : (w ≡ 8) ⊎ (w ≡ 4)
  pub ends : field_at d x n first strings w count ≤ x + (n - 4)
