-- Numbers written at the front of a list, any number of them, and those of a page and of an element. Assumes nothing.
use Rattle.std.specs.Prelude.{Ok, Err, Result}
use Prim.Native.Nat.{ℕ, zero, suc, ◌+◌, ◌≤◌, ◌<◌}
use mathlib.Core.Path.{◌≡◌, refl, ap, ◌∙◌}
use mathlib.Core.List.{List, [], ◌∷◌}
use native.Mathlib.Omega.{arith}
use lib.ListN.{length, get_or, set, take}
use lib.Seq.{take_all}
use Rattle.answer.specs.declared.Refusal.{Refusal}
use Rattle.answer.specs.Refusals.{refusal_place}
use Rattle.store.specs.declared.description.PageNumbers.{PageNumbers}
use Rattle.store.specs.declared.description.ElementNumbers.{ElementNumbers}
use Rattle.says.specs.declared.further.PageSaid.{PageSaid}
use Rattle.says.specs.declared.further.ElementSaid.{ElementSaid}
use Rattle.gvrs_c.specs.Report.{reported}
use Rattle.gvrs_c.specs.Description.{numbers_in_order, page_numbers, numbers_said, page_numbers_said, element_numbers, further_in_order, element_numbers_said}

-- the loop: the first k of the numbers are written

reported_none : (vs o : List ℕ) → o ≡ reported (take 0 vs) o
unfolding reported
reported_none [] o = refl
reported_none (v ∷ vs) o = refl

reported_suc : (vs o : List ℕ) (k : ℕ) → k < length vs → set (reported (take k vs) o) k (get_or vs k 0) ≡ reported (take (suc k) vs) o
unfolding reported
reported_suc [] o k h = absurd (omega arith)
reported_suc (v ∷ vs) [] zero h = refl
reported_suc (v ∷ vs) [] (suc k) h = refl
reported_suc (v ∷ vs) (x ∷ xs) zero h = ap (λ l. v ∷ l) (reported_none vs xs)
reported_suc (v ∷ vs) (x ∷ xs) (suc k) h = ap (λ l. v ∷ l) (reported_suc vs xs k (omega arith))

reported_length : (vs o : List ℕ) → length (reported vs o) ≡ length o
unfolding reported
reported_length [] o = refl
reported_length (v ∷ vs) [] = refl
reported_length (v ∷ vs) (x ∷ xs) = ap suc (reported_length vs xs)

module _ (vs o : List ℕ) where
  pub record Written (k : ℕ) (p : List ℕ) : Type 0 where
    pub inside : k ≤ length vs
    pub holds : p ≡ reported (take k vs) o

  pub written_none : Written 0 o
  written_none = record { inside = omega arith; holds = reported_none vs o }

  pub written_more : (k : ℕ) (p q : List ℕ) → Written k p → k < length vs → q ≡ set p k (get_or vs k 0) → Written (k + 1) q
  written_more k p q w h e =
      let z : k + 1 ≡ suc k = omega arith in
      record { inside = omega arith; holds = e ∙ rw (w.holds, z) (reported_suc vs o k h) }

  pub written_length : (k : ℕ) (p : List ℕ) → Written k p → length p ≡ length o
  written_length k p w = rw w.holds (reported_length (take k vs) o)

  pub written_all : (k : ℕ) (p : List ℕ) → Written k p → length vs ≤ k → p ≡ reported vs o
  written_all k p w h = w.holds ∙ rw (take_all k vs h)

-- a page's numbers, or the place of a refusal

module _ (x : Result PageNumbers Refusal) where
  pub page_told : (p : PageNumbers) (l : List ℕ) → x ≡ Ok p → l ≡ numbers_in_order p → l ≡ page_numbers x
  page_told p l e f = f ∙ rw e

  pub page_refused : (r : Refusal) (a : ℕ) → x ≡ Err r → a ≡ refusal_place r → a ∷ 0 ∷ 0 ∷ 0 ∷ 0 ∷ 0 ∷ 0 ∷ 0 ∷ 0 ∷ 0 ∷ 0 ∷ 0 ∷ 0 ∷ [] ≡ page_numbers x
  page_refused r a e f = rw (e, f)

-- with the further ones
module _ (y : PageSaid) (x : Result PageNumbers Refusal) where
  pub page_all_told :
      (p : PageNumbers) (z : PageSaid) (l : List ℕ) → x ≡ Ok p → z ≡ y → l ≡ numbers_said p z → l ≡ page_numbers_said y x
  page_all_told p z l e g f = f ∙ rw (g, e)

  pub page_all_refused :
      (r : Refusal) (a : ℕ) → x ≡ Err r → a ≡ refusal_place r →
      a ∷ 0 ∷ 0 ∷ 0 ∷ 0 ∷ 0 ∷ 0 ∷ 0 ∷ 0 ∷ 0 ∷ 0 ∷ 0 ∷ 0 ∷ 0 ∷ 0 ∷ 0 ∷ 0 ∷ 0 ∷ 0 ∷ 0 ∷ 0 ∷ [] ≡ page_numbers_said y x
  page_all_refused r a e f = rw (e, f)

-- the same of an element
module _ (x : Result ElementNumbers Refusal) where
  pub element_told_lem :
      (n : ElementNumbers) → x ≡ Ok n → n.kind ∷ n.fill ∷ n.name ∷ n.name_length ∷ n.unit ∷ n.unit_length ∷ [] ≡ element_numbers x
  element_told_lem n e = rw e

  pub element_refused : (r : Refusal) (a : ℕ) → x ≡ Err r → a ≡ refusal_place r → a ∷ 0 ∷ 0 ∷ 0 ∷ 0 ∷ 0 ∷ [] ≡ element_numbers x
  element_refused r a e f = rw (e, f)

module _ (y : ElementSaid) (x : Result ElementNumbers Refusal) where
  pub element_all_told :
      (n : ElementNumbers) (z : ElementSaid) → x ≡ Ok n → z ≡ y → n.kind ∷ n.fill ∷ n.name ∷ n.name_length ∷ n.unit ∷ n.unit_length ∷ further_in_order z ≡ element_numbers_said y x
  element_all_told n z e f = rw (e, f)

  pub element_all_refused :
      (r : Refusal) (a : ℕ) → x ≡ Err r → a ≡ refusal_place r →
      a ∷ 0 ∷ 0 ∷ 0 ∷ 0 ∷ 0 ∷ 0 ∷ 0 ∷ 0 ∷ 0 ∷ 0 ∷ 0 ∷ 0 ∷ 0 ∷ 0 ∷ 0 ∷ 0 ∷ 0 ∷ [] ≡ element_numbers_said y x
  element_all_refused r a e f = rw (e, f)

-- the number of an answer x, and its numbers in `out`
pub list_told :
    {A : Type 0} (kind : A → ℕ) (numbers : A → List ℕ) (o p l : List ℕ) (x y : A) (n : ℕ) → x ≡ y → l ≡ numbers x → p ≡ reported l o → n ≡ kind x →
    (n ≡ kind y) × (p ≡ reported (numbers y) o)
list_told kind numbers o p l x y n e f g h = (h ∙ ap kind e, g ∙ rw (f, e))
