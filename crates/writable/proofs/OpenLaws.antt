-- A page is open for writing exactly when it is sound, opened, and so on; so it is sound. Assumes nothing.
use Rattle.std.specs.Prelude.{None, Ok, Option, Result, Some, ⊤}
use Prim.Native.Nat.{ℕ}
use mathlib.Core.Path.{◌≡◌, refl, sym}
use mathlib.Core.List.{List, [], ◌∷◌}
use mathlib.Core.Bool.{Bool, true, false}
use native.Mathlib.Omega.{arith}
use lib.ListN.{length}
use lib.Dec.{eqb}
use borrow.Author.Tests.{eqb-true}
use Rattle.wire.specs.Tests.{passes}
use Rattle.wire.specs.Lists.{every}
use Rattle.wire.proofs.TestLaws.{means, yes}
use Rattle.answer.specs.declared.Refusal.{Refusal}
use Rattle.answer.specs.declared.Refusal.TheVariants.{Opened, Chain, Checksum, Body}
use Rattle.answer.specs.Refusals.{refusal_number, verdict_number, gate}
use Rattle.record.specs.Record.{content_at}
use Rattle.record.specs.Chain.{records, records_of}
use Rattle.bodies.specs.TileDirectory.{tile_directory_at, first_row, first_column}
use Rattle.check_header.specs.Stages.{closed, first_two, next_two, stages, check_header}
use Rattle.check_header.specs.Passed.{Headed}
use Rattle.check_records.specs.Faults.{chain_fault, checksum_fault, body_fault}
use Rattle.check_directory.specs.References.{no_other}
use Rattle.check_directory.specs.TileRules.{span_right, rectangle_right, tile_directory_right}
use Rattle.page_check.specs.Stages.{unless, check_records}
use Rattle.page_check.specs.Accepted.{Sound}
use Rattle.page_check.proofs.AcceptedLaws.{sound_of, sound_records, records_are}
use Rattle.pieces.specs.Pieces.{pieces, nothing_to_join}
use Rattle.writable.specs.Writable.{is_opened, records_right, directory_full, no_file_space, directories_open, open_for_writing, OpenBy, Open, OpenExactly}

-- stages 1 to 5

gate_through : (b : Bool) (r : Refusal) (v : Result ⊤ Refusal) → verdict_number (gate b r v) ≡ 5 → (refusal_number r ≡ 5 → ⊥) → (b ≡ true) × (verdict_number v ≡ 5)
unfolding gate
gate_through true r v e z = (refl, e)
gate_through false r v e z = absurd (z e)

gate_shut : (b : Bool) → verdict_number (gate b Opened (Ok tt)) ≡ 5 → b ≡ false
unfolding gate
gate_shut true e = absurd (omega arith)
gate_shut false e = refl

pub opened_header : (s : List ℕ) → is_opened (check_header s (length s)) ≡ true → Headed s (length s) × (closed s ≡ false)
unfolding is_opened check_header stages first_two next_two
opened_header s e =
    let a = gate_through _ _ _ (means _ e).0 (λ z. omega arith) in
    let b = gate_through _ _ _ a.1 (λ z. omega arith) in
    let c = gate_through _ _ _ b.1 (λ z. omega arith) in
    let d = gate_through _ _ _ c.1 (λ z. omega arith) in
    (record { block = a.0; version = b.0; header = c.0; ceilings = d.0 }, gate_shut _ d.1)

pub header_opened : (s : List ℕ) → Headed s (length s) → closed s ≡ false → is_opened (check_header s (length s)) ≡ true
unfolding is_opened check_header stages first_two next_two gate passes
header_opened s h c = rw (h.block, h.version, h.header, h.ceilings, c)

-- stages 6 to 8

pub records_pass : (s : List ℕ) → records_right s ≡ true → check_records s (Ok tt) ≡ Ok tt
unfolding records_right check_records unless
records_pass s e = go (chain_fault s) (checksum_fault s) (body_fault s) (means _ e).0
  where
    go :
        (f g h : Option ℕ) → verdict_number (unless f Chain (unless g Checksum (unless h Body (Ok tt)))) ≡ 0 →
        unless f Chain (unless g Checksum (unless h Body (Ok tt))) ≡ Ok tt
    go (Some x) g h z = absurd (omega arith)
    go None (Some x) h z = absurd (omega arith)
    go None None (Some x) z = absurd (omega arith)
    go None None None z = refl

pub pass_records : (s : List ℕ) → check_records s (Ok tt) ≡ Ok tt → records_right s ≡ true
unfolding records_right passes
pass_records s e = rw e

-- no record is of a type where each has its content at 0

none_listed : (l : List ℕ) → every (λ x. eqb (content_at x) 0) l ≡ true → l ≡ []
unfolding every
none_listed [] e = refl
none_listed (x ∷ xs) e = let z = eqb-true (content_at x) 0 (means _ e).0 in absurd (omega arith)

no_records : (s : List ℕ) (kind : ℕ) → no_other s kind 0 ≡ true → records_of s kind ≡ []
unfolding no_other
no_records s kind e = none_listed (records_of s kind) e

records_none : (s : List ℕ) (kind : ℕ) → records_of s kind ≡ [] → no_other s kind 0 ≡ true
unfolding no_other every
records_none s kind e = rw e

-- all of it

pub open_means : (s : List ℕ) → open_for_writing s ≡ true → Open s
unfolding open_for_writing directories_open no_file_space pieces
open_means s e =
    let a = means _ e in
    let h = opened_header s a.0 in
    let d = means _ a.1.1.0 in
    let n = means _ d.1.1.1.0 in
    record {
      sound = sound_of s h.0 (records_pass s a.1.0) d.0 d.1.1.0;
      opened = h.1;
      full = d.1.0;
      no_reference = n.0;
      no_directory = no_records s 3 n.1.0;
      none_adjoin = a.1.1.1.0;
    }

pub means_open : (s xs : List ℕ) → OpenBy s xs → open_for_writing s ≡ true
unfolding open_for_writing directories_open no_file_space pieces
means_open s xs o =
    let p = o.sound in
    let n : no_file_space s ≡ true = sym (yes _ (o.no_reference, (records_none s 3 o.no_directory, tt))) in
    let d : directories_open s ≡ true = sym (yes _ (p.tile_directory, (o.full, (p.metadata_directory_lem, (n, tt))))) in
    let j : nothing_to_join (pieces s) ≡ true = rw (records_are s xs p) o.none_adjoin in
    sym (yes _ (header_opened s p.headed o.opened, (pass_records s (sound_records s xs p (Ok tt)), (d, (j, tt)))))

pub open_exactly : OpenExactly
open_exactly s = (open_means s, means_open s (records s))

pub open_sound : (s : List ℕ) → open_for_writing s ≡ true → Sound s
open_sound s e = (open_means s e).sound

-- a full directory starts at the first tile

span_first : (start side tiles : ℕ) → span_right start side tiles ≡ true → side ≡ tiles → start ≡ 0
unfolding span_right
span_first start side tiles e f = omega (arith, (means _ e).1.1.0)

pub full_first :
    (s : List ℕ) → tile_directory_right s ≡ true → directory_full s ≡ true → (first_row s (tile_directory_at s) ≡ 0) × (first_column s (tile_directory_at s) ≡ 0)
unfolding tile_directory_right rectangle_right directory_full
full_first s t f =
    let r = means _ (means _ t).1.1.1.0 in
    let n = means _ f in
    (span_first _ _ _ r.0 n.0, span_first _ _ _ r.1.0 n.1.0)
