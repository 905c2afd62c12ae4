-- What an answer tells of the cells it was counted from. Assumes nothing.
use Rattle.std.specs.Prelude.{Err, Ok, Result, ⊤, Some, None, Option}
use Prim.Native.Nat.{ℕ, suc, ◌+◌, ◌-◌, ◌*◌, ◌%◌, ◌≤◌, ◌<◌}
use mathlib.Core.Path.{◌≡◌, refl, sym, ap, ◌∙◌}
use mathlib.Core.List.{List, [], ◌∷◌}
use mathlib.Core.Bool.{Bool, true, false, not}
use mathlib.Core.Logic.{◌⊎◌, inl, inr, ⊎_elim, by_cases}
use native.Mathlib.Decide.{dec_le}
use native.Mathlib.Omega.{arith}
use native.Mathlib.Nat.{mul-le-mul}
use lib.Dec.{eqb}
use lib.IntN.{ℤ, pos, negsuc}
use lib.Signed.{le_z}
use mir.Syntax.{w16}
use mir.Val.{to_z}
use mir.Facts.{to_z_pos, to_z-neg}
use borrow.Author.Tests.{leb-true, le-leb, eqb-true}
use Rattle.wire.specs.Pick.{pick}
use Rattle.wire.specs.Tests.{◌≤?◌, ◌≡?◌, is, both, passes}
use Rattle.wire.proofs.TestLaws.{means, yes, no, not_both}
use Rattle.answer.specs.declared.Refusal.{Refusal}
use Rattle.answer.specs.declared.Refusal.TheVariants.{Input}
use Rattle.answer.specs.declared.Cell.{Cell}
use Rattle.answer.specs.Refusals.{unless_refused}
use Rattle.answer.specs.Answers.{cell_kind, cell_bits, cell_verdict}
use Rattle.answer.proofs.VerdictLaws.{behind_passed, cell_kinds}
use Rattle.store.specs.Face.{grid_rows, grid_columns, element_count, check, meaning, element, short_kind, rectangle_inside}
use Rattle.store.proofs.ManyLaws.{means_inside, not_inside}
use Rattle.store.proofs.PieceLaws.{bits_short}
use Rattle.score_rule.specs.declared.Said.{Said}
use Rattle.score_rule.specs.declared.Said.TheVariants.{First, Second, Wrong}
use Rattle.score_rule.specs.Rules.{page_says}
use Rattle.blocks.specs.Tables.{Inside}
use Rattle.blocks.specs.Folds.{fold_inside}
use Rattle.blocks.proofs.FoldLaws.{sums}
use Rattle.blocks.proofs.InsideLaws.{inside_each, inside_found, inside_none, inside_both, inside_absorbs, inside_ones, inside_some, inside_first_at}
use Rattle.deeds.specs.declared.Rule.{Rule}
use Rattle.deeds.specs.declared.Grade.{Grade}
use Rattle.deeds.specs.declared.Grade.TheVariants.{Certain, Unread}
use Rattle.deeds.specs.declared.Deed.{Deed}
use Rattle.deeds.specs.Deeds.{is_fill, is_stored, minus_one, counts_as_fill, is_scored, score_of, fills_in, lesser, lowest_in, score_within, certain_by, grade_from, grade_by, graded, refusal_in, from_to, first_rule, second_rule, deed_by, cells_of, rectangle_scored, deed_said, deed_in, deed, has_lowest, Graded}
use Rattle.deeds.specs.Sound.{scored_in, Sound, GradedSound, DeedSound, RuleOfPage, CertainCell, CertainExactly, InOrder, RefusedInOrder}
use Rattle.deeds.proofs.ScoreLaws.{le_either, scores, lesser_comm, truths}
use Rattle.deeds.proofs.PieceLaws.{verdicts, stays}
use Rattle.deeds.proofs.DeedLaws.{not_scored, all_scored, grade_unread, grade_certain, grade_doubtful, deed_wrong, deed_input, deed_scored, deed_refused, deed_outside, deed_inside}

-- two together are nothing where each is

sum_parts : (x y : ℕ) → x + y ≡ 0 → (x ≡ 0) × (y ≡ 0)
sum_parts x y e = (omega arith, omega arith)

both_parts : (x y : Bool) → both x y ≡ true → (x ≡ true) × (y ≡ true)
both_parts true y e = (refl, e)
both_parts false y e = not_both e refl

lower_some : (a b : ℤ) (x : Bool) → pick x (Some a) (Some b) ≡ None → ⊥
lower_some a b true e = let z : ◌≡◌ {A = ℕ} 0 1 = cc in omega arith
lower_some a b false e = let z : ◌≡◌ {A = ℕ} 0 1 = cc in omega arith

lesser_parts : (x y : Option ℤ) → lesser x y ≡ None → (x ≡ None) × (y ≡ None)
unfolding lesser
lesser_parts None y e = (refl, e)
lesser_parts (Some a) None e = let z : ◌≡◌ {A = ℕ} 0 1 = cc in absurd (omega arith)
lesser_parts (Some a) (Some b) e = absurd (lower_some a b (le_z a b) e)

-- one of two scores is the lower

lower_either : (a b : ℤ) (x : Bool) → (pick x (Some a) (Some b) ≡ Some a) ⊎ (pick x (Some a) (Some b) ≡ Some b)
lower_either a b true = inl refl
lower_either a b false = inr refl

lesser_either : (x y : Option ℤ) → (lesser x y ≡ x) ⊎ (lesser x y ≡ y)
unfolding lesser
lesser_either None y = inr refl
lesser_either (Some a) None = inl refl
lesser_either (Some a) (Some b) = lower_either a b (le_z a b)

lower_self : (a : ℤ) (x : Bool) → pick x (Some a) (Some a) ≡ Some a
lower_self a true = refl
lower_self a false = refl

lesser_self : (x : Option ℤ) → lesser x x ≡ x
unfolding lesser
lesser_self None = refl
lesser_self (Some a) = lower_self a (le_z a a)

-- a cell that is not refused counts as a fill, which has no score, or has one

pub record OneKind (x : Result Cell Refusal) : Type 0 where
  pub one : pick (counts_as_fill x) 1 0 + pick (is_scored x) 1 0 ≡ 1
  pub no_score : score_of x ≡ None → ◌≡◌ {A = ℕ} (pick (is_scored x) 1 0) 0
  pub fill_none : ◌≡◌ {A = ℕ} (pick (is_scored x) 1 0) 0 → score_of x ≡ None

score_some : (z : ℤ) → Some z ≡ None → ⊥
score_some z e = let z : ◌≡◌ {A = ℕ} 0 1 = cc in omega arith

scored_none : (b : Bool) (z : ℤ) → pick b (Some z) None ≡ None → ◌≡◌ {A = ℕ} (pick b 1 0) 0
scored_none true z e = absurd (score_some z e)
scored_none false z e = refl

none_scored : (b : Bool) (z : ℤ) → ◌≡◌ {A = ℕ} (pick b 1 0) 0 → pick b (Some z) None ≡ None
none_scored true z e = absurd (omega arith)
none_scored false z e = refl

one_of_two : (b : Bool) → pick b 1 0 + pick (not b) 1 0 ≡ 1
one_of_two true = refl
one_of_two false = refl

first_kind : (x : Result Cell Refusal) → cell_kind x ≡ 32 → pick (counts_as_fill x) 1 0 + pick (is_scored x) 1 0 ≡ 1
unfolding counts_as_fill is_scored is_stored
first_kind x h = rw h (one_of_two (minus_one x))

second_kind : (x : Result Cell Refusal) → cell_kind x ≡ 34 → pick (counts_as_fill x) 1 0 + pick (is_scored x) 1 0 ≡ 1
unfolding counts_as_fill is_scored is_stored
second_kind x h = rw h (one_of_two (minus_one x))

fill_kind : (x : Result Cell Refusal) → cell_kind x ≡ 33 → pick (counts_as_fill x) 1 0 + pick (is_scored x) 1 0 ≡ 1
unfolding counts_as_fill is_scored is_stored is_fill passes
fill_kind x h = rw h

pub one_kind : (x : Result Cell Refusal) → cell_verdict x ≡ Ok tt → OneKind x
unfolding score_of
one_kind x e = record { one = ⊎_elim (first_kind x) (⊎_elim (fill_kind x) (second_kind x)) (cell_kinds x e); no_score = scored_none (is_scored x) _; fill_none = none_scored (is_scored x) _ }

-- what counts is one
fill_counts : (x : Result Cell Refusal) → counts_as_fill x ≡ true → ◌≡◌ {A = ℕ} (pick (counts_as_fill x) 1 0) 1
fill_counts x e = rw e

counts_fill : (x : Result Cell Refusal) → 1 ≤ pick (counts_as_fill x) 1 0 → counts_as_fill x ≡ true
counts_fill x h = go (counts_as_fill x) h
  where
    go : (b : Bool) → 1 ≤ pick b 1 0 → b ≡ true
    go true h = refl
    go false h = absurd (omega arith)

-- no score is below the lowest
lower_least : (a z : ℤ) → lesser (Some a) (Some z) ≡ Some a → le_z a z ≡ true
unfolding lesser
lower_least a z e = go (le_z a z) refl e
  where
    go : (b : Bool) → le_z a z ≡ b → pick b (Some a) (Some z) ≡ Some a → le_z a z ≡ true
    go true f e = f
    go false f e = let q : z ≡ a = cc in rw q (le_either a a (rw q at f))

one_true : (b : Bool) → ◌≡◌ {A = ℕ} (pick b 1 0) 1 → b ≡ true
one_true true e = refl
one_true false e = absurd (omega arith)

-- the grade says what was counted

grade_is : (n : ℕ) (b : Bool) → n ≡ 0 → (grade_from n b ≡ Unread → ⊥) × (grade_from n b ≡ Certain → b ≡ true)
grade_is n true h =
    (λ e. let q = grade_certain n true h refl ∙ e in let z : ◌≡◌ {A = ℕ} 0 1 = cc in omega arith, λ e. refl)
grade_is n false h = (
  λ e. let q = grade_doubtful n false h refl ∙ e in let z : ◌≡◌ {A = ℕ} 0 1 = cc in omega arith,
  λ e. let q = grade_doubtful n false h refl ∙ e in let z : ◌≡◌ {A = ℕ} 0 1 = cc in absurd (omega arith),
)

some_lowest : (x : Option ℤ) → (x ≡ None → ⊥) → has_lowest x ≡ 1
some_lowest None h = absurd (h refl)
some_lowest (Some z) h = refl

lowest_some : (x : Option ℤ) → has_lowest x ≡ 1 → x ≡ None → ⊥
lowest_some x h e = let z : has_lowest x ≡ 0 = ap has_lowest e in omega arith

-- cells of which none is refused

module _ (rule : Rule) (m n : ℕ) (f : ℕ → ℕ → Result Cell Refusal) (a : refusal_in 0 m 0 n f ≡ Ok tt) where
  abbrev fill : ℕ → ℕ → ℕ
  fill r c = pick (counts_as_fill (f r c)) 1 0

  abbrev stored : ℕ → ℕ → ℕ
  stored r c = pick (is_scored (f r c)) 1 0

  none_refused_there : (r c : ℕ) → Inside 0 m 0 n r c → cell_verdict (f r c) ≡ Ok tt
  unfolding refusal_in
  none_refused_there r c h = inside_each (unless_refused Err) (Ok tt) behind_passed 0 m 0 n _ a r c h

  each_kind : (r c : ℕ) → Inside 0 m 0 n r c → OneKind (f r c)
  each_kind r c h = one_kind (f r c) (none_refused_there r c h)

  all_cells : fills_in 0 m 0 n f + scored_in m n f ≡ m * n
  unfolding fills_in scored_in
  all_cells =
      let p = inside_both ◌+◌ 0 sums (λ x y. omega arith) 0 m 0 n fill stored in
      let q = inside_ones 0 m 0 n (λ r c. fill r c + stored r c) (λ r c h. (each_kind r c h).one) in
      let u : m - 0 ≡ m = omega arith in
      let v : n - 0 ≡ n = omega arith in
      sym p ∙ q ∙ rw (u, v)

  fill_there : (r c : ℕ) → Inside 0 m 0 n r c → counts_as_fill (f r c) ≡ true → 1 ≤ fills_in 0 m 0 n f
  unfolding fills_in
  fill_there r c h e =
      by_cases (dec_le 1 (fold_inside ◌+◌ 0 0 m 0 n fill)) (λ k. k)
      (λ k. absurd (omega (arith, inside_each ◌+◌ 0 sum_parts 0 m 0 n fill (omega arith) r c h, fill_counts (f r c) e)))

  some_fill : 1 ≤ fills_in 0 m 0 n f → (r : ℕ) × (c : ℕ) × ((r < m) × (c < n)) × (counts_as_fill (f r c) ≡ true)
  unfolding fills_in
  some_fill h = let y = inside_some 0 m 0 n fill h in (y.0, y.1, (omega arith, omega arith), counts_fill (f y.0 y.1) y.3)

  no_fill_there : fills_in 0 m 0 n f ≡ 0 → (r c : ℕ) → Inside 0 m 0 n r c → is_scored (f r c) ≡ true
  unfolding fills_in
  no_fill_there e r c h =
      let z : fill r c ≡ 0 = inside_each ◌+◌ 0 sum_parts 0 m 0 n fill e r c h in
      one_true (is_scored (f r c)) (omega (arith, (each_kind r c h).one))

  no_score_there : lowest_in 0 m 0 n f ≡ None → scored_in m n f ≡ 0
  unfolding lowest_in scored_in
  no_score_there e = inside_none ◌+◌ 0 sums 0 m 0 n stored (λ r c h. (each_kind r c h).no_score (inside_each lesser None lesser_parts 0 m 0 n _ e r c h))

  none_stored : scored_in m n f ≡ 0 → lowest_in 0 m 0 n f ≡ None
  unfolding lowest_in scored_in
  none_stored e = inside_none lesser None scores 0 m 0 n _ (λ r c h. (each_kind r c h).fill_none (inside_each ◌+◌ 0 sum_parts 0 m 0 n stored e r c h))

  all_stored : ((r c : ℕ) → r < m → c < n → is_scored (f r c) ≡ true) → fills_in 0 m 0 n f ≡ 0
  unfolding fills_in
  all_stored e =
      inside_none ◌+◌ 0 sums 0 m 0 n fill
      (λ r c h. let z : stored r c ≡ 1 = ap {B = ℕ} (λ (b : Bool). pick b 1 0) (e r c (omega arith) (omega arith)) in omega (arith, (each_kind r c h).one))

  all_within : ((r c : ℕ) → r < m → c < n → score_within rule (score_of (f r c)) ≡ true) → certain_by rule 0 m 0 n f ≡ true
  unfolding certain_by
  all_within e = inside_none both true truths 0 m 0 n _ (λ r c h. e r c (omega arith) (omega arith))

  each_within : certain_by rule 0 m 0 n f ≡ true → (r c : ℕ) → Inside 0 m 0 n r c → score_within rule (score_of (f r c)) ≡ true
  unfolding certain_by
  each_within e r c h = inside_each both true both_parts 0 m 0 n _ e r c h

  lowest_least : (r c : ℕ) → Inside 0 m 0 n r c → lesser (lowest_in 0 m 0 n f) (score_of (f r c)) ≡ lowest_in 0 m 0 n f
  unfolding lowest_in
  lowest_least r c h = inside_absorbs lesser None scores lesser_comm 0 m 0 n (λ r c. score_of (f r c)) lesser_self r c h

  lowest_found : (lowest_in 0 m 0 n f ≡ None → ⊥) → (r : ℕ) × (c : ℕ) × ((r < m) × (c < n)) × (score_of (f r c) ≡ lowest_in 0 m 0 n f)
  unfolding lowest_in
  lowest_found h = let y = inside_found lesser None lesser_either 0 m 0 n (λ r c. score_of (f r c)) h in (y.0, y.1, (omega arith, omega arith), y.3)

  any_fill_unread : 1 ≤ fills_in 0 m 0 n f → grade_by rule 0 m 0 n f ≡ Unread
  unfolding grade_by
  any_fill_unread h = sym (grade_unread _ _ h)

  unread_any_fill : grade_by rule 0 m 0 n f ≡ Unread → 1 ≤ fills_in 0 m 0 n f
  unfolding grade_by
  unread_any_fill e = by_cases (dec_le 1 (fills_in 0 m 0 n f)) (λ h. h) (λ h. absurd ((grade_is (fills_in 0 m 0 n f) _ (omega arith)).0 e))

  read_no_fill : (grade_by rule 0 m 0 n f ≡ Unread → ⊥) → fills_in 0 m 0 n f ≡ 0
  read_no_fill h = by_cases (dec_le 1 (fills_in 0 m 0 n f)) (λ k. absurd (h (any_fill_unread k))) (λ k. omega arith)

  certain_no_fill : grade_by rule 0 m 0 n f ≡ Certain → (fills_in 0 m 0 n f ≡ 0) × (certain_by rule 0 m 0 n f ≡ true)
  unfolding grade_by
  certain_no_fill e =
      let z : fills_in 0 m 0 n f ≡ 0 = read_no_fill (λ u. let q = sym e ∙ u in let z : ◌≡◌ {A = ℕ} 0 1 = cc in omega arith) in
      (z, (grade_is (fills_in 0 m 0 n f) _ z).1 e)

  all_certain :
      ((r c : ℕ) → r < m → c < n → (is_scored (f r c) ≡ true) × (score_within rule (score_of (f r c)) ≡ true)) → grade_by rule 0 m 0 n f ≡ Certain
  unfolding grade_by
  all_certain e = sym (grade_certain _ _ (all_stored (λ r c h k. (e r c h k).0)) (all_within (λ r c h k. (e r c h k).1)))

  some_cell : 1 ≤ m → 1 ≤ n → 1 ≤ m * n
  some_cell h k = let z : 1 * 1 ≤ m * n = mul-le-mul h k in omega arith

  sound : 1 ≤ m → 1 ≤ n → Sound rule m n f (grade_by rule 0 m 0 n f) (fills_in 0 m 0 n f) (lowest_in 0 m 0 n f)
  sound h k =
      record {
        none_refused = λ r c l w. none_refused_there r c (omega arith);
        counted = all_cells;
        fill_unread = λ r c l w e. any_fill_unread (fill_there r c (omega arith) e);
        unread_fill = λ e. some_fill (unread_any_fill e);
        any_fill = any_fill_unread;
        no_fill = read_no_fill;
        has_lowest_lem = λ e. some_lowest (lowest_in 0 m 0 n f) (λ (u : lowest_in 0 m 0 n f ≡ None). omega (arith, all_cells, read_no_fill e, no_score_there u, some_cell h k));
        least = λ r c l w b z d e. lower_least b z (rw (d, e) at (lowest_least r c (omega arith)));
        found = λ e. lowest_found (lowest_some _ e);
        no_score = λ e. omega (arith, all_cells, no_score_there e);
        all_fill = λ e. none_stored (omega (arith, all_cells));
        certain = λ e r c l w.
            let z = certain_no_fill e in
            (no_fill_there z.0 r c (omega arith), each_within z.1 r c (omega arith));
        each_certain = all_certain;
      }

-- an answer that is graded

graded_by : (v : Result ⊤ Refusal) (x : Result Deed Refusal) (rule : Rule) (grade : Grade) (fills : ℕ) (lowest : Option ℤ) → unless_refused Err v x ≡ Graded rule grade fills lowest → (v ≡ Ok tt) × (x ≡ Graded rule grade fills lowest)
unfolding unless_refused
graded_by (Ok accepted) x u g k l e = (refl, e)
graded_by (Err r) x u g k l e = let z : ◌≡◌ {A = ℕ} 0 1 = cc in absurd (omega arith)

graded_parts : (u u2 : Rule) (g g2 : Grade) (k k2 : ℕ) (l l2 : Option ℤ) → Graded u g k l ≡ Graded u2 g2 k2 l2 → (u ≡ u2) × ((g ≡ g2) × ((k ≡ k2) × (l ≡ l2)))
graded_parts u u2 g g2 k k2 l l2 e =
    let f : ◌≡◌ {A = Deed} (record { rule = u; grade = g; fills = k; lowest = l }) (record { rule = u2; grade = g2; fills = k2; lowest = l2 }) = cc in
    (ap (λ (z : Deed). z.rule) f, (ap (λ (z : Deed). z.grade) f, (ap (λ (z : Deed). z.fills) f, ap (λ (z : Deed). z.lowest) f)))

pub graded_sound : GradedSound
unfolding deed_by graded
graded_sound rule by m n f g k l h w e =
    let y = graded_by _ _ by g k l e in
    let z = graded_parts _ by _ g _ k _ l y.1 in
    (sym z.0, rw (z.1.0, z.1.1.0, z.1.1.1) at (sound rule m n f y.0 h w))

-- and what it says of a page

picked :
    (b : Bool) (x : Result Deed Refusal) (r : Refusal) (rule : Rule) (grade : Grade) (fills : ℕ) (lowest : Option ℤ) → pick b x (Err r) ≡ Graded rule grade fills lowest →
    (b ≡ true) × (x ≡ Graded rule grade fills lowest)
picked true x r u g k l e = (refl, e)
picked false x r u g k l e = let z : ◌≡◌ {A = ℕ} 0 1 = cc in absurd (omega arith)

-- the tests that it has passed
pub record Passed (s : List ℕ) (ci e row column rows columns : ℕ) (rule : Rule) (grade : Grade) (fills : ℕ) (lowest : Option ℤ) : Type 0 where
  pub accepted : check s ≡ Ok tt
  pub inside : rectangle_inside s e row column rows columns ≡ true
  pub some : (1 ≤ rows) × (1 ≤ columns)
  pub short : (element s e).kind ≡ short_kind
  pub is : deed_said (page_says s) rows columns (cells_of s ci e row column) ≡ Graded rule grade fills lowest

passed :
    (s : List ℕ) (ci e row column rows columns : ℕ) (rule : Rule) (grade : Grade) (fills : ℕ) (lowest : Option ℤ) →
    deed s ci e row column rows columns ≡ Graded rule grade fills lowest → Passed s ci e row column rows columns rule grade fills lowest
unfolding deed deed_in rectangle_scored
passed s ci e row column rows columns u g k l q =
    let a = graded_by _ _ u g k l q in
    let b = picked _ _ _ u g k l a.1 in
    let c = picked _ _ _ u g k l b.1 in
    let t = means ((1 ≤? rows) ∷ (1 ≤? columns) ∷ ((element s e).kind ≡? short_kind) ∷ []) c.0 in
    record { accepted = a.0; inside = b.0; some = (t.0, t.1.0); short = t.1.1.0; is = c.1 }

-- by the rule that a page says, or that is none

pub record Ruled (x : Said) (m n : ℕ) (f : ℕ → ℕ → Result Cell Refusal) (rule : Rule) (grade : Grade) (fills : ℕ) (lowest : Option ℤ) : Type 0 where
  pub which : ((x ≡ First) × (rule ≡ first_rule)) ⊎ ((x ≡ Second) × (rule ≡ second_rule))
  pub sound : Sound rule m n f grade fills lowest

module _ (m n : ℕ) (f : ℕ → ℕ → Result Cell Refusal) (rule : Rule) (grade : Grade) (fills : ℕ) (lowest : Option ℤ) (h : 1 ≤ m) (k : 1 ≤ n) where
  ruled_by : (by : Rule) → deed_by by m n f ≡ Graded rule grade fills lowest → (rule ≡ by) × Sound rule m n f grade fills lowest
  ruled_by by e = let y = graded_sound by rule m n f grade fills lowest h k e in (y.0, rw y.0 y.1)

  ruled : (x : Said) → deed_said x m n f ≡ Graded rule grade fills lowest → Ruled x m n f rule grade fills lowest
  unfolding deed_said
  ruled First e = let y = ruled_by first_rule e in record { which = inl (refl, y.0); sound = y.1 }
  ruled Second e = let y = ruled_by second_rule e in record { which = inr (refl, y.0); sound = y.1 }
  ruled Wrong e = let z : ◌≡◌ {A = ℕ} 0 1 = cc in absurd (omega arith)

deed_ruled :
    (s : List ℕ) (ci e row column rows columns : ℕ) (rule : Rule) (grade : Grade) (fills : ℕ) (lowest : Option ℤ) →
    deed s ci e row column rows columns ≡ Graded rule grade fills lowest → Ruled (page_says s) rows columns (cells_of s ci e row column) rule grade fills lowest
deed_ruled s ci e row column rows columns u g k l q =
    let p = passed s ci e row column rows columns u g k l q in
    ruled rows columns (cells_of s ci e row column) u g k l p.some.0 p.some.1 (page_says s) p.is

pub deed_sound : DeedSound
deed_sound s ci e row column rows columns u g k l q = (deed_ruled s ci e row column rows columns u g k l q).sound

pub rule_of_page : RuleOfPage
rule_of_page s ci e row column rows columns u g k l q = (deed_ruled s ci e row column rows columns u g k l q).which

-- a score from a mark to a scale is one by its bits

scored_stored : (x : Result Cell Refusal) → is_scored x ≡ true → is_stored x ≡ true
unfolding is_scored
scored_stored x e = go (is_stored x) e
  where
    go : (b : Bool) → pick b (not (minus_one x)) false ≡ true → b ≡ true
    go true e = refl
    go false e = e

stored_kind : (x : Result Cell Refusal) → is_scored x ≡ true → (cell_kind x ≡ 32) ⊎ (cell_kind x ≡ 34)
unfolding is_stored
stored_kind x e = go (cell_kind x) (scored_stored x e) (eqb (cell_kind x) 32) refl
  where
    go : (n : ℕ) → pick (eqb n 32) true (eqb n 34) ≡ true → (b : Bool) → eqb n 32 ≡ b → (n ≡ 32) ⊎ (n ≡ 34)
    go n e true f = inl (eqb-true n 32 f)
    go n e false f = inr (eqb-true n 34 (rw f at e))

kind_stored : (x : Result Cell Refusal) → (cell_kind x ≡ 32) ⊎ (cell_kind x ≡ 34) → is_stored x ≡ true
unfolding is_stored
kind_stored x e = ⊎_elim (λ h. rw h) (λ h. rw h) e

module _ (mark scale : ℕ) where
  certain_bits : (n : ℕ) → n < 65536 → score_within (from_to mark scale) (Some (to_z w16 (n % 65536))) ≡ true → (mark ≤ n) × (n ≤ scale)
  unfolding score_within
  certain_bits n h e =
      let z : n % 65536 ≡ n = omega arith in
      let y = means (is (le_z (pos mark) (to_z w16 (n % 65536))) ∷ is (le_z (to_z w16 (n % 65536)) (pos scale)) ∷ []) e in
      by_cases (dec_le 32768 n)
      (λ k.
      let back : 65536 - suc (65535 - n) ≡ n = omega arith in
      let low : to_z w16 n ≡ negsuc (65535 - n) = rw back at (to_z-neg w16 (65535 - n) (omega arith)) in
      not_both (rw (z, low) at y.0) refl)
      (λ k.
      let l : n < 32768 = omega arith in
      let u : le_z (pos mark) (pos n) ≡ true = rw (z, to_z_pos w16 l) at y.0 in
      let v : le_z (pos n) (pos scale) ≡ true = rw (z, to_z_pos w16 l) at y.1.0 in
      (leb-true mark n u, leb-true n scale v))

  certain_cell : (x : Result Cell Refusal) → cell_bits x < 65536 → (is_scored x ≡ true) × (score_within (from_to mark scale) (score_of x) ≡ true) → CertainCell mark scale x
  unfolding score_of
  certain_cell x h e =
      let w : score_within (from_to mark scale) (Some (to_z w16 (cell_bits x % 65536))) ≡ true = rw e.0 at e.1 in
      let b = certain_bits (cell_bits x) h w in
      record { stored = stored_kind x e.0; from_mark = b.0; to_scale = b.1 }

  module _ (small : scale < 32768) where
    bits_certain : (n : ℕ) → mark ≤ n → n ≤ scale → score_within (from_to mark scale) (Some (to_z w16 (n % 65536))) ≡ true
    unfolding score_within
    bits_certain n h k =
        let z : n % 65536 ≡ n = omega arith in
        let l : n < 32768 = omega arith in
        rw (z, to_z_pos w16 l) (sym (yes (is (le_z (pos mark) (pos n)) ∷ is (le_z (pos n) (pos scale)) ∷ []) (le-leb mark n h, (le-leb n scale k, tt))))

    kind_scored : (x : Result Cell Refusal) → (cell_kind x ≡ 32) ⊎ (cell_kind x ≡ 34) → cell_bits x ≤ scale → is_scored x ≡ true
    unfolding is_scored minus_one
    kind_scored x e k = rw (kind_stored x e, ← no ((cell_bits x % 65536 ≡? 65535) ∷ []) (λ h. absurd (omega (arith, h.0))))

    cell_certain : (x : Result Cell Refusal) → CertainCell mark scale x → (is_scored x ≡ true) × (score_within (from_to mark scale) (score_of x) ≡ true)
    unfolding score_of
    cell_certain x c = let s = kind_scored x c.stored c.to_scale in (s, rw s (bits_certain (cell_bits x) c.from_mark c.to_scale))

  -- either rule's scale is the score of a Short
  scale_small : (x : Said) → ((x ≡ First) × (from_to mark scale ≡ first_rule)) ⊎ ((x ≡ Second) × (from_to mark scale ≡ second_rule)) → scale < 32768
  unfolding first_rule second_rule
  scale_small x e =
      ⊎_elim (λ h. let q : pos scale ≡ pos 1000 = ap (λ (r : Rule). r.scale) h.1 in let z : scale ≡ 1000 = cc in omega arith)
      (λ h. let q : pos scale ≡ pos 10000 = ap (λ (r : Rule). r.scale) h.1 in let z : scale ≡ 10000 = cc in omega arith) e

pub certain_exactly : CertainExactly
unfolding cells_of
certain_exactly s ci e row column rows columns mark scale g k l q =
    let p = passed s ci e row column rows columns _ g k l q in
    let d = deed_ruled s ci e row column rows columns _ g k l q in
    let w = scale_small mark scale (page_says s) d.which in
    record {
      each = λ f r c h i. certain_cell mark scale _ (bits_short s ci (row + r) (column + c) e p.short) (d.sound.certain f r c h i);
      all = λ f. d.sound.each_certain (λ r c h i. cell_certain mark scale w _ (f r c h i));
    }

-- the refusals

module _ (s : List ℕ) (ci e row column rows columns : ℕ) where
  abbrev verdict_at : ℕ → ℕ → Result ⊤ Refusal
  verdict_at r c = cell_verdict (meaning s ci (row + r) (column + c) e)

  refusal_first :
      (r c : ℕ) → r < rows → c < columns → (x : Refusal) → verdict_at r c ≡ Err x → ((i k : ℕ) → i < r → k < columns → verdict_at i k ≡ Ok tt) →
      ((k : ℕ) → k < c → verdict_at r k ≡ Ok tt) → refusal_in 0 rows 0 columns (cells_of s ci e row column) ≡ Err x
  unfolding refusal_in cells_of
  refusal_first r c i j x q above before =
      inside_first_at (unless_refused Err) (Ok tt) verdicts 0 rows 0 columns _ r c (Err x) q
      (λ i k g. above i k (omega arith) (omega arith)) (λ k l w. before k w) (stays x) (omega arith)

  said_first : (x : Refusal) (y : Said) → refusal_in 0 rows 0 columns (cells_of s ci e row column) ≡ Err x → (y ≡ Wrong → ⊥) → Err x ≡ deed_said y rows columns (cells_of s ci e row column)
  unfolding deed_said deed_by unless_refused
  said_first x First q h = rw q
  said_first x Second q h = rw q
  said_first x Wrong q h = absurd (h refl)

  -- of a rectangle in the grid of an accepted file
  inside_order :
      check s ≡ Ok tt → e < element_count s → row + rows ≤ grid_rows s → column + columns ≤ grid_columns s → (x : Result Deed Refusal) →
      x ≡ deed_in s ci e row column rows columns → deed s ci e row column rows columns ≡ x
  inside_order a h k l x q = sym (deed_inside s ci e row column rows columns (check s) refl _ refl a x (sym (means_inside s e row column rows columns h k l)) q)

  either_input : (b : Bool) → b ≡ rectangle_scored s e rows columns → page_says s ≡ Wrong → Err Input ≡ deed_in s ci e row column rows columns
  either_input true p w = deed_scored s ci e row column rows columns true p (Err Input) refl (deed_wrong rows columns _ (page_says s) _ refl w)
  either_input false p w = deed_input s ci e row column rows columns false p refl

  refused_order : InOrder s ci e row column rows columns
  refused_order =
      record {
        checked = λ x q. sym (deed_refused s ci e row column rows columns (check s) refl x q);
        outside = λ a h. sym (deed_outside s ci e row column rows columns (check s) refl _ refl a (sym (not_inside s e row column rows columns h)));
        input = λ a h k l f. inside_order a h k l (Err Input) (deed_input s ci e row column rows columns false (not_scored s e rows columns f) refl);
        rule_wrong = λ a h k l w. inside_order a h k l (Err Input) (either_input _ refl w);
        cell = λ a h k l t w r c i j x q above before.
            inside_order a h k l (Err x)
            (deed_scored s ci e row column rows columns true (all_scored s e rows columns (omega arith) (omega arith) t) (Err x) refl
            (said_first x (page_says s) (refusal_first r c i j x q above before) w));
      }

pub refused_in_order : RefusedInOrder
refused_in_order s ci e row column rows columns = refused_order s ci e row column rows columns
