-- Stages 6 to 8: the rows pass just where the check's rules hold. Assumes nothing.
use Prim.Native.Nat.{ℕ, ◌+◌}
use mathlib.Core.Path.{◌≡◌, refl, sym, ap, ◌∙◌}
use mathlib.Core.List.{List, [], ◌∷◌, ◌++◌}
use mathlib.Core.Bool.{Bool, true, false}
use native.Mathlib.Omega.{arith}
use lib.ListN.{length}
use lib.Dec.{leb, eqb}
use borrow.Author.Tests.{le-leb, lt-leb, leb-false, eqb-true, eqb-false}
use Rattle.wire.specs.Pick.{pick}
use Rattle.wire.specs.Tests.{test, both, passes, all_below}
use Rattle.wire.specs.Bytes.{largest_integer}
use Rattle.wire.proofs.TestLaws.{below_same}
use Rattle.record.specs.Record.{type_at, record_ok}
use Rattle.record.specs.Chain.{records, records_end}
use Rattle.record.specs.Types.{metadata_type, tile_type}
use Rattle.header.specs.Fields.{element_count}
use Rattle.geometry.specs.declared.Packing.TheVariants.{Uncompressed, Compressed, Fault}
use Rattle.geometry.specs.Tiles.{tile_count}
use Rattle.geometry.specs.Sizes.{element_bytes, element_packing, packing_of}
use Rattle.bodies.specs.TileRecord.{section_length, tile_index, tile_end}
use Rattle.bodies.specs.MetadataRecord.{metadata_end}
use Rattle.check_records.specs.Frame.{end_right}
use Rattle.check_records.specs.Checksum.{checksum_right}
use Rattle.check_records.specs.TileBody.{not_fault, section_packing, section_right, index_right, tile_right}
use Rattle.check_records.specs.MetadataBody.{metadata_right}
use Rattle.check_records.specs.Faults.{body_right}
use Rattle.check_records.proofs.RecordLaws.{chain_fault_lem, chain_fault_exactly}
use Rattle.reasons.specs.Rows.{Row, tests, keeps}
use Rattle.reasons.specs.HeadRows.{text_row}
use Rattle.reasons.proofs.ReasonLaws.{both_end, keeps_none, keeps_more, keeps_joined, keeps_below}
use Rattle.record_reasons.specs.RecordRows.{extent_rows, type_rows, record_rows, chain_rows, checksum_rows, ending_rows, section_rows, tile_body_rows, described_rows, metadata_body_rows, body_rows}

pub two_keep : (xs ys : List Row) (a b : Bool) → keeps xs ≡ a → keeps ys ≡ b → keeps (xs ++ ys) ≡ both a b
two_keep xs ys a b p q = keeps_joined xs ys ∙ rw (p, q) refl

pub one_keeps : (x : Row) (ys : List Row) (b : Bool) → keeps ys ≡ b → keeps (x ∷ ys) ≡ both (test x.rule) b
one_keeps x ys b e = keeps_more x ys ∙ ap (both (test x.rule)) e

-- stage 6

record_keeps : (s : List ℕ) (k at : ℕ) → keeps (record_rows s k at) ≡ record_ok s at
unfolding keeps tests passes record_rows extent_rows type_rows record_ok
record_keeps s k at = refl

pub chain_by : (s : List ℕ) (b : Bool) → leb (length s) (records_end s) ≡ b → keeps (chain_rows s) ≡ b
unfolding chain_rows
chain_by s true e = rw e keeps_none
chain_by s false e =
    let l = leb-false _ _ e in
    let h = (chain_fault_exactly s (records_end s)).0 (sym (chain_fault_lem s (records_end s) refl l)) in
    rw e (record_keeps s (length (records s)) (records_end s) ∙ h.bad)

-- stages 7 and 8

pub checksum_keeps : (s : List ℕ) (k x : ℕ) → keeps (checksum_rows s k x) ≡ checksum_right s x
unfolding keeps tests passes checksum_rows checksum_right
checksum_keeps s k x = refl

ending_keeps : (s : List ℕ) (k at end : ℕ) → keeps (ending_rows s k at end) ≡ end_right s at end
unfolding keeps tests passes ending_rows end_right
ending_keeps s k at end = refl

packing_case :
    (l u : ℕ) (a b c : Bool) → eqb l 0 ≡ a → eqb l u ≡ b → leb l u ≡ c → (d e : Bool) → leb 1 l ≡ d → leb l u ≡ e →
    both d (both e true) ≡ not_fault (pick a Fault (pick b Uncompressed (pick c Compressed Fault))) →
    both (leb 1 l) (both (leb l u) true) ≡ not_fault (packing_of l u)
unfolding packing_of
packing_case l u a b c p q r d e f g h = rw (f, p, q, r) (rw (sym g ∙ r) at h)

packing_by : (l u : ℕ) → both (leb 1 l) (both (leb l u) true) ≡ not_fault (packing_of l u)
packing_by l u = go (eqb l 0) refl (eqb l u) refl (leb l u) refl
  where
    go : (a : Bool) → eqb l 0 ≡ a → (b : Bool) → eqb l u ≡ b → (c : Bool) → leb l u ≡ c → both (leb 1 l) (both (leb l u) true) ≡ not_fault (packing_of l u)
    go true p b q c r = packing_case l u true b c p q r false c (let z = eqb-true l 0 p in lt-leb 1 l (omega arith)) r refl
    go false p true q c r =
        let z = eqb-false l 0 p in
        let w = eqb-true l u q in
        packing_case l u false true c p q r true true (le-leb 1 l (omega arith)) (le-leb l u (omega arith)) refl
    go false p false q c r = let z = eqb-false l 0 p in packing_case l u false false c p q r true c (le-leb 1 l (omega arith)) r (last c)
      where
        last : (c : Bool) → both true (both c true) ≡ not_fault (pick c Compressed Fault)
        last true = refl
        last false = refl

section_keeps : (s : List ℕ) (at e : ℕ) → keeps (section_rows s at e) ≡ section_right s at e
unfolding keeps tests passes section_rows section_right section_packing element_packing
section_keeps s at e = packing_by (section_length s at e) (element_bytes s e)

tile_flat : (a b c x : Bool) → both a (both b (both c x)) ≡ both (both a (both b true)) (both c (both x true))
tile_flat false b c x = refl
tile_flat true false c x = refl
tile_flat true true false x = refl
tile_flat true true true x = sym (both_end x)

pub tile_keeps : (s : List ℕ) (k at : ℕ) → keeps (tile_body_rows s k at) ≡ tile_right s at
unfolding tile_body_rows tile_right passes index_right
tile_keeps s k at =
    one_keeps _ _ _
    (one_keeps _ _ _
    (two_keep _ _ _ _ (ending_keeps s k at (tile_end s at))
    (keeps_below (element_count s) (section_rows s at) ∙ below_same (element_count s) _ _ (λ e h. section_keeps s at e))))
    ∙ tile_flat (leb (tile_index s at) largest_integer) (leb (tile_index s at + 1) (tile_count s)) (end_right s at (tile_end s at))
    (all_below (element_count s) (section_right s at))

pub metadata_keeps : (s : List ℕ) (k at : ℕ) → keeps (metadata_body_rows s k at) ≡ metadata_right s at
unfolding metadata_body_rows described_rows metadata_right passes text_row
metadata_keeps s k at =
    one_keeps _ _ _
    (two_keep _ _ _ _ (ending_keeps s k at (metadata_end s at)) (one_keeps _ _ _ (one_keeps _ _ _ (one_keeps _ _ _ keeps_none))))

pub body_keeps : (s : List ℕ) (k x : ℕ) → keeps (body_rows s k x) ≡ body_right s x
unfolding body_rows body_right
body_keeps s k x = go (eqb (type_at s x) tile_type) (eqb (type_at s x) metadata_type)
  where
    go :
        (a b : Bool) →
        keeps (pick a (tile_body_rows s k x) (pick b (metadata_body_rows s k x) [])) ≡ pick a (tile_right s x) (pick b (metadata_right s x) true)
    go true b = tile_keeps s k x
    go false true = metadata_keeps s k x
    go false false = keeps_none
