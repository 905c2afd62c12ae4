-- What stages 1 to 4 give where they pass. Assumes nothing.
use Rattle.std.specs.Prelude.{Ok, Result, ⊤}
use Rattle.answer.specs.declared.Refusal.{Refusal}
use Prim.Native.Nat.{ℕ, min, ◌≤◌}
use mathlib.Core.Path.{◌≡◌}
use mathlib.Core.List.{List}
use mathlib.Core.Bool.{Bool, true}
use native.Mathlib.Omega.{arith}
use Rattle.wire.proofs.TestLaws.{means, below_each}
use Rattle.answer.proofs.VerdictLaws.{gate_passed}
use Rattle.header.specs.Fields.{element_count}
use Rattle.header.specs.Element.{entries_read}
use Rattle.check_header.specs.HeaderRecord.{positive, sides_right, options_right, element_right, elements_right, length_right, frame_right, header_right}
use Rattle.check_header.specs.Ceilings.{sides_within, within_ceilings}
use Rattle.check_header.specs.Stages.{first_two, next_two, stages}
use Rattle.check_header.specs.Passed.{Headed, Sides, InRange}
use Rattle.check_header.proofs.Judged.{header_long}

-- stages 1 to 4, where `header` says whether stage 3 passes, and what comes behind them
pub stages_passed :
    (s : List ℕ) (n : ℕ) (header : Bool) (behind : Result ⊤ Refusal) → stages s n header behind ≡ Ok tt → (header ≡ true → header_right s n ≡ true) →
    Headed s n × ((header ≡ true) × (behind ≡ Ok tt))
unfolding stages first_two next_two
stages_passed s n header behind e f =
    let a = gate_passed _ _ _ e in
    let b = gate_passed _ _ _ a.1 in
    let c = gate_passed _ _ _ b.1 in
    let d = gate_passed _ _ _ c.1 in
    (record { block = a.0; version = b.0; header = f c.0; ceilings = d.0 }, (c.0, d.1))

pub sides_of : (s : List ℕ) → sides_right s ≡ true → sides_within s ≡ true → Sides s
unfolding sides_right positive sides_within
sides_of s f g =
    let a = means _ f in
    let w = means _ g in
    record {
      rows = ((means _ a.0).0, w.0);
      columns = ((means _ a.1.0).0, w.1.0);
      tile_rows_lem = ((means _ a.1.1.0).0, w.1.1.0);
      tile_columns_lem = ((means _ a.1.1.1.0).0, w.1.1.1.0);
    }

pub range_of : (s : List ℕ) (n : ℕ) → Headed s n → InRange s n
unfolding header_right frame_right length_right positive options_right elements_right element_right within_ceilings entries_read
range_of s n r =
    let h = means _ r.header in
    let k = means _ h.0 in
    let l = means _ k.0 in
    let b = means _ h.1.1.0 in
    let e = means _ h.1.1.1.0 in
    let c = means _ r.ceilings in
    let m : element_count s ≤ 16 = c.1.1.1.0 in
    record {
      file = c.0;
      header_least = header_long s n r.header;
      header_inside = l.1.1.0;
      sides = sides_of s h.1.0 c.1.0;
      tiles = c.1.1.0;
      elements = ((means _ e.0).0, m);
      all = omega arith;
      tile_size = c.1.1.1.1.0;
      checksum_flag = b.0;
      kinds = λ i j. (means _ (below_each (min (element_count s) 16) _ e.1.1.0 i (omega arith))).0;
    }
