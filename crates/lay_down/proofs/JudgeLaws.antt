-- How a lay-down is judged. Assumes nothing.
use Rattle.std.specs.Prelude.{Err, Ok, Result, ⊤}
use Prim.Native.Nat.{ℕ, min, ◌+◌, ◌*◌, ◌≤◌, ◌<◌}
use mathlib.Core.Path.{◌≡◌, refl, sym, ap, ◌∙◌}
use mathlib.Core.List.{List}
use mathlib.Core.Bool.{Bool, true, false}
use native.Mathlib.Omega.{arith}
use native.Mathlib.Nat.{mul-le-mul}
use lib.ListN.{length}
use borrow.Author.Tests.{le-leb, lt-leb}
use Rattle.wire.specs.Tests.{passes}
use Rattle.wire.proofs.TestLaws.{not_both, means, yes, no_true}
use Rattle.answer.specs.declared.Refusal.{Refusal}
use Rattle.answer.specs.declared.Refusal.TheVariants.{Ceiling, Input, Room}
use Rattle.answer.specs.Refusals.{gate, unless_refused}
use Rattle.answer.proofs.VerdictLaws.{gate_passed, behind_passed}
use Rattle.geometry.specs.Tiles.{tile_count}
use Rattle.geometry.specs.Sizes.{cap, tile_bytes, plain_tile_length}
use Rattle.check_header.specs.Stages.{check_front}
use Rattle.written_records.specs.Pieces.{record_length}
use Rattle.lay_down.specs.Page.{directory_start, file_length}
use Rattle.lay_down.specs.Answer.{ascending, input_right, length_allowed, fits_in, length_verdict, input_verdict, lay_down_verdict}
use Rattle.lay_down.proofs.FrontLaws.{Front, front_of_lem, tile_exact}
use Rattle.lay_down.proofs.AscendLaws.{ascending_few}

-- refusal 12

module _ (f : List ℕ) (t : ℕ) (ix c : List ℕ) where
  pub input_means : input_right f t ix c ≡ true → (t ≡ 0 → ⊥) × ((ascending (tile_count f) 0 ix ≡ true) × (length c ≡ length ix * tile_bytes f))
  unfolding input_right
  input_means e = let m = means _ e in (m.0, (m.1.0, m.1.1.0))

  pub input_timeless : t ≡ 0 → false ≡ input_right f t ix c
  input_timeless h = no_true _ (λ e. (input_means e).0 h)

  module _ (n : ℕ) (b : Bool) (m : n ≡ tile_count f) (p : b ≡ ascending n 0 ix) where
    pub input_disordered : b ≡ false → false ≡ input_right f t ix c
    input_disordered q = no_true _ (λ e. not_both (input_means e).1.0 (rw (← m) (sym p ∙ q)))

    module _ (q : b ≡ true) (u : ℕ) (w : u ≡ min (tile_bytes f) cap) (front : Front f) where
      pub input_small : length ix * u ≤ 68719476736
      input_small =
          let a : length ix ≤ 65536 = omega (arith, ascending_few n ix (sym p ∙ q), front.tiles) in
          let d : u ≤ 1048576 = omega (arith, front.tile_size) in
          let e : length ix * u ≤ 65536 * 1048576 = mul-le-mul a d in
          omega arith

      pub input_amiss : (length c ≡ length ix * u → ⊥) → false ≡ input_right f t ix c
      input_amiss h = no_true _ (λ e. h ((input_means e).1.1 ∙ ap (λ (x : ℕ). length ix * x) (sym (tile_exact f front u w))))

      pub input_fine : (t ≡ 0 → ⊥) → length c ≡ length ix * u → true ≡ input_right f t ix c
      unfolding input_right
      input_fine h k = yes _ (h, (rw (← m) (sym p ∙ q), (k ∙ ap (λ (x : ℕ). length ix * x) (tile_exact f front u w), tt)))

-- the file's length, as it is counted
pub length_is : (f ix : List ℕ) (n : ℕ) → n ≡ length f + length ix * plain_tile_length f + record_length (24 + 4 * tile_count f) → n ≡ file_length f ix
unfolding file_length directory_start
length_is f ix n e = e

-- and what is judged of it
module _ (f ix : List ℕ) (room n : ℕ) (e : n ≡ file_length f ix) where
  pub judged_ceiling : 16777216 < n → Err Ceiling ≡ length_verdict f ix room
  unfolding length_verdict gate length_allowed passes
  judged_ceiling h = rw (lt-leb (file_length f ix) 16777216 (omega arith))

  pub judged_room : n ≤ 16777216 → room < n → Err Room ≡ length_verdict f ix room
  unfolding length_verdict gate length_allowed fits_in passes
  judged_room h k = rw (le-leb (file_length f ix) 16777216 (omega arith), lt-leb (file_length f ix) room (omega arith))

  pub judged_done : n ≤ 16777216 → n ≤ room → Ok tt ≡ length_verdict f ix room
  unfolding length_verdict gate length_allowed fits_in passes
  judged_done h k = rw (le-leb (file_length f ix) 16777216 (omega arith), le-leb (file_length f ix) room (omega arith))

-- behind the front
module _ (f : List ℕ) (t : ℕ) (ix c : List ℕ) (room : ℕ) (b : Bool) (p : b ≡ input_right f t ix c) where
  pub judged_input : b ≡ false → Err Input ≡ input_verdict f t ix c room
  unfolding input_verdict gate
  judged_input q = rw (← p, q)

  pub judged_length : (v : Result ⊤ Refusal) → b ≡ true → v ≡ length_verdict f ix room → v ≡ input_verdict f t ix c room
  unfolding input_verdict gate
  judged_length v q e = rw (← p, q) e

pub judged_front : (f : List ℕ) (t : ℕ) (ix c : List ℕ) (room : ℕ) (v : Result ⊤ Refusal) (r : Refusal) → v ≡ check_front f → v ≡ Err r → Err r ≡ lay_down_verdict f t ix c room
unfolding lay_down_verdict unless_refused
judged_front f t ix c room v r p e = rw (← p, e)

pub judged_behind :
    (f : List ℕ) (t : ℕ) (ix c : List ℕ) (room : ℕ) (v w : Result ⊤ Refusal) → v ≡ check_front f → v ≡ Ok tt → w ≡ input_verdict f t ix c room →
    w ≡ lay_down_verdict f t ix c room
unfolding lay_down_verdict unless_refused
judged_behind f t ix c room v w p e q = rw (← p, e) q

-- what a lay-down that is not refused was given
pub record Passed (f : List ℕ) (t : ℕ) (ix c : List ℕ) (room : ℕ) : Type 0 where
  pub front : check_front f ≡ Ok tt
  pub indexes : ascending (tile_count f) 0 ix ≡ true
  pub few : length ix ≤ 65536
  pub cells : length c ≡ length ix * tile_bytes f
  pub ceiling : file_length f ix ≤ 16777216
  pub fits : file_length f ix ≤ room
  -- as the length adds up
  pub start : directory_start f ix ≡ length f + length ix * plain_tile_length f
  pub long : file_length f ix ≡ directory_start f ix + record_length (24 + 4 * tile_count f)

pub passed_of : (f : List ℕ) (t : ℕ) (ix c : List ℕ) (room : ℕ) → lay_down_verdict f t ix c room ≡ Ok tt → Passed f t ix c room
unfolding lay_down_verdict input_verdict length_verdict length_allowed fits_in file_length directory_start
passed_of f t ix c room e =
    let a = behind_passed _ _ e in
    let b = gate_passed _ _ _ a.1 in
    let d = gate_passed _ _ _ b.1 in
    let g = gate_passed _ _ _ d.1 in
    let m = input_means f t ix c b.0 in
    record {
      front = a.0;
      indexes = m.1.0;
      few = omega (arith, ascending_few _ _ m.1.0, (front_of_lem f a.0).tiles);
      cells = m.1.1;
      ceiling = (means _ d.0).0;
      fits = (means _ g.0).0;
      start = refl;
      long = refl;
    }
