-- The whole file as it is written, and what is then answered. Assumes nothing.
use Rattle.std.specs.Prelude.{Err, Ok, Result, ⊤}
use Prim.Native.Nat.{ℕ, ◌+◌, ◌*◌, ◌≤◌}
use mathlib.Core.Path.{◌≡◌, sym, ap, ◌∙◌}
use mathlib.Core.List.{List, ◌++◌}
use native.Mathlib.Omega.{arith}
use lib.ListN.{length}
use Rattle.wire.specs.Bytes.{put}
use Rattle.wire.proofs.PutLaws.{put_fits, first, then}
use Rattle.answer.specs.declared.Refusal.{Refusal}
use Rattle.answer.specs.Refusals.{unless_refused}
use Rattle.record.specs.Chain.{joined}
use Rattle.geometry.specs.Tiles.{tile_count}
use Rattle.geometry.specs.Sizes.{tile_bytes, plain_tile_length}
use Rattle.written_records.specs.Pieces.{record_length}
use Rattle.lay_down.specs.Page.{tile_records, directory_record, directory_start, file_length, laid_front, laid_file}
use Rattle.lay_down.specs.Answer.{lay_down_verdict, laid, laid_out}
use Rattle.lay_down.proofs.PageLaws.{tiles_length, directory_length, front_length, laid_length}
use Rattle.lay_down.proofs.FrontLaws.{Front, front_of_lem}
use Rattle.lay_down.proofs.JudgeLaws.{passed_of}

pub page_put :
    (d a b l : List ℕ) (t at : ℕ) (f ix c : List ℕ) → a ≡ put d 0 (laid_front f t (at + 8)) → b ≡ put a (length f) (joined (tile_records f ix c)) →
    l ≡ put b at (directory_record f ix) → at ≡ length f + length ix * plain_tile_length f → Front f → length c ≡ length ix * tile_bytes f →
    file_length f ix ≤ length d → l ≡ put d 0 (laid_file f t ix c)
unfolding laid_file file_length directory_start
page_put d a b l t at f ix c p q r e front h k =
    let x = joined (tile_records f ix c) in
    let lf = front_length f t (at + 8) in
    let lx = tiles_length f ix c front.all h in
    let ld = directory_length f ix in
    let w1 = first p lf in
    let w2 = then w1 x (length ix * plain_tile_length f) (length f) q lx (omega arith) (omega arith) in
    let w3 = then w2 (directory_record f ix) (record_length (24 + 4 * tile_count f)) at r ld (omega arith) (omega arith) in
    w3.is ∙ ap (λ (z : ℕ). put d 0 (laid_front f t (z + 8) ++ x ++ directory_record f ix)) e

-- what a lay-down answers, and what the buffer holds
module _ (f : List ℕ) (t : ℕ) (ix c d : List ℕ) (v : Result ⊤ Refusal) (p : v ≡ lay_down_verdict f t ix c (length d)) where
  pub laid_refused : (r : Refusal) → v ≡ Err r → (Err r ≡ laid f t ix c (length d)) × (d ≡ laid_out f t ix c d)
  unfolding laid laid_out unless_refused
  laid_refused r e = (rw (← p, e), rw (← p, e))

  pub laid_done :
      (n : ℕ) (l : List ℕ) → v ≡ Ok tt → n ≡ file_length f ix → l ≡ put d 0 (laid_file f t ix c) →
      (Ok n ≡ laid f t ix c (length d)) × (l ≡ laid_out f t ix c d)
  unfolding laid laid_out unless_refused
  laid_done n l e g q =
      let w = passed_of f t ix c (length d) (sym p ∙ e) in
      let ll : length (laid_file f t ix c) ≡ file_length f ix = laid_length f t ix c (front_of_lem f w.front).all w.cells in
      let z : 0 + length (laid_file f t ix c) ≤ length d = omega (arith, w.fits) in
      let o : 0 + length (laid_file f t ix c) ≡ file_length f ix = omega arith in
      (rw (← p, e, g), q ∙ put_fits d 0 (laid_file f t ix c) z ∙ rw (← p, e, o))
