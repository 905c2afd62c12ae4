-- Two pages compared, as the answer is handed back. Assumes nothing.
use Prim.Native.Nat.{ℕ}
use mathlib.Core.Path.{◌≡◌, ap, ◌∙◌}
use mathlib.Core.List.{List}
use Rattle.wire.specs.Bytes.{put}
use Rattle.comparisons.specs.declared.Comparison.{Comparison}
use Rattle.comparisons.specs.Comparisons.{comparison_number}
use Rattle.gvrs_c.specs.Report.{reported, comparison_numbers}
use Rattle.gvrs_c.proofs.DescriptionLaws.{list_told}

-- `w` is what is written of an answer into the list
pub compared_told :
    (w : Comparison → List ℕ) (o p l d d' : List ℕ) (x y : Comparison) (n : ℕ) → x ≡ y → d' ≡ put d 0 (w x) → l ≡ comparison_numbers x → p ≡ reported l o →
    n ≡ comparison_number x → (n ≡ comparison_number y) × ((p ≡ reported (comparison_numbers y) o) × (d' ≡ put d 0 (w y)))
compared_told w o p l d d' x y n e f g h i =
    let t = list_told comparison_number comparison_numbers o p l x y n e g h i in
    (t.0, (t.1, f ∙ ap (λ (z : Comparison). put d 0 (w z)) e))
