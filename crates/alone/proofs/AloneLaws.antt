-- Stages 6, 7 and 8 of a record that stands at two places. Assumes nothing.
use Prim.Native.Nat.{ℕ}
use mathlib.Core.Path.{◌≡◌}
use mathlib.Core.List.{List}
use Rattle.wire.proofs.TestLaws.{iff}
use Rattle.record.specs.Record.{record_ok}
use Rattle.check_records.specs.declared.Rule.{Rule}
use Rattle.check_records.specs.declared.Rule.TheVariants.{Checksum, Body}
use Rattle.check_records.specs.TileBody.{tile_right}
use Rattle.check_records.specs.MetadataBody.{metadata_right}
use Rattle.check_records.specs.Faults.{body_right, right_of}
use Rattle.alone.specs.Alone.{SameRecord, SameHeader, Alone}
use Rattle.alone.proofs.HeaderLaws.{header_sym}
use Rattle.alone.proofs.MovedLaws.{record_sym, type_same, ok_to}
use Rattle.alone.proofs.ChecksumLaws.{checksum_same}
use Rattle.alone.proofs.TileLaws.{tile_to}
use Rattle.alone.proofs.MetadataLaws.{metadata_to}

module _ {s : List ℕ} {x : ℕ} {t : List ℕ} {y : ℕ} (r : SameRecord s x t y) where
  pub ok_same : record_ok s x ≡ record_ok t y
  ok_same = iff _ _ (ok_to r) (ok_to (record_sym r))

  pub tile_right_same : SameHeader s t → tile_right s x ≡ tile_right t y
  tile_right_same h = iff _ _ (tile_to r h) (tile_to (record_sym r) (header_sym h))

  pub metadata_same : metadata_right s x ≡ metadata_right t y
  metadata_same = iff _ _ (metadata_to r) (metadata_to (record_sym r))

  pub body_same : SameHeader s t → body_right s x ≡ body_right t y
  unfolding body_right
  body_same h = rw (type_same r, tile_right_same h, metadata_same)

  pub rule_same : SameHeader s t → (rule : Rule) → right_of s rule x ≡ right_of t rule y
  unfolding right_of
  rule_same h Checksum = checksum_same r h.flag
  rule_same h Body = body_same h

pub rules_alone : Alone
rules_alone s x t y h r = record { stands = ok_same r; rules = rule_same r h }
