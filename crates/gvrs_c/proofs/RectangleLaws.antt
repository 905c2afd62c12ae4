-- The cells of a rectangle, as they are handed back. Assumes nothing.
use Rattle.answer.specs.declared.Refusal.{Refusal}
use Rattle.std.specs.Prelude.{Result}
use Prim.Native.Nat.{ℕ}
use mathlib.Core.Path.{◌≡◌, ap, ◌∙◌}
use mathlib.Core.List.{List, [], ◌∷◌}
use lib.ListN.{set}
use Rattle.wire.specs.Bytes.{put}
use Rattle.rectangles.specs.Rectangles.{given_number, given_count}
use Rattle.gvrs_c.specs.Report.{reported}
use Rattle.gvrs_c.proofs.ReportLaws.{one_told}

-- `v` and `w` are what is written of an answer into the two lists
pub given_told :
    (v w : Result ℕ Refusal → List ℕ) (o p k k' b b' : List ℕ) (x y : Result ℕ Refusal) (n a : ℕ) → x ≡ y → k' ≡ put k 0 (v x) → b' ≡ put b 0 (w x) → a ≡ given_count x → p ≡ set o 0 a →
    n ≡ given_number x → (n ≡ given_number y) × ((p ≡ reported (given_count y ∷ []) o) × ((k' ≡ put k 0 (v y)) × (b' ≡ put b 0 (w y))))
given_told v w o p k k' b b' x y n a e f g h i j =
    let t = one_told given_number given_count o p x y n a e h i j in
    (t.0, (t.1, (f ∙ ap (λ (z : Result ℕ Refusal). put k 0 (v z)) e, g ∙ ap (λ (z : Result ℕ Refusal). put b 0 (w z)) e)))
