-- `check_header::ceilings::within_ceilings` meets its contract. Assumes nothing.
use native.Mathlib.Omega.{arith}
use Rattle.wire.proofs.TestLaws.{no, yes, not_both}
use Rattle.check_header.specs.Ceilings.{within_ceilings}
use Rattle.check_header.proofs.HeaderLaws.{bytes_within, bytes_past}
use Rattle.check_header.proofs.ceilings.within_ceilings.Goals as goal

pub returns-then-length-gt-MOST_FILE_BYTES : goal.returns-then-length-gt-MOST_FILE_BYTES
unfolding within_ceilings
returns-then-length-gt-MOST_FILE_BYTES c = no _ (λ h. omega arith)

pub returns-then-tile_count-gt-MOST_TILES : goal.returns-then-tile_count-gt-MOST_TILES
unfolding within_ceilings
returns-then-tile_count-gt-MOST_TILES c = no _ (λ h. omega arith)

pub returns-then-element_count-gt-MOST_ELEMENTS : goal.returns-then-element_count-gt-MOST_ELEMENTS
unfolding within_ceilings
returns-then-element_count-gt-MOST_ELEMENTS c = no _ (λ h. omega arith)

pub returns-then-tile_bytes-gt-MOST_TILE_BYTES : goal.returns-then-tile_bytes-gt-MOST_TILE_BYTES
unfolding within_ceilings
returns-then-tile_bytes-gt-MOST_TILE_BYTES c = no _ (λ h. omega (arith, bytes_past _ _ c.tile_bytes.ensures (omega arith)))

pub returns-then-sides_within : goal.returns-then-sides_within
unfolding within_ceilings
returns-then-sides_within c = yes _ (omega arith, (cc, (omega arith, (omega arith, (bytes_within _ _ c.tile_bytes.ensures (omega arith), tt)))))

pub returns : goal.returns
unfolding within_ceilings
returns c = no _ (λ h. not_both h.1.0 (cc))
