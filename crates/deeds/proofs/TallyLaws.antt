-- What is counted over cells, an area beside or under another. Assumes nothing.
use Rattle.std.specs.Prelude.{Result, None, Option, ℤ}
use Rattle.answer.specs.declared.Refusal.{Refusal}
use Prim.Native.Nat.{ℕ, ◌+◌, ◌-◌, ◌*◌, ◌≤◌, ◌<◌}
use mathlib.Core.Path.{◌≡◌, refl, sym, ap, ◌∙◌}
use mathlib.Core.Bool.{Bool, true, false}
use native.Mathlib.Omega.{arith}
use native.Mathlib.Nat.{mul-le-mul}
use Rattle.wire.specs.Pick.{pick}
use Rattle.wire.specs.Tests.{both}
use Rattle.answer.specs.declared.Cell.{Cell}
use Rattle.answer.specs.Answers.{cell_kind}
use Rattle.store.specs.Face.{most_grid_side}
use Rattle.blocks.specs.Tables.{Inside}
use Rattle.blocks.specs.Folds.{Joins}
use Rattle.blocks.specs.Walks.{Begins, Follows, fold_passed}
use Rattle.blocks.proofs.FoldLaws.{sums}
use Rattle.blocks.proofs.InsideLaws.{inside_one, inside_none, inside_under, inside_beside, inside_both, inside_part, inside_ones}
use Rattle.blocks.proofs.WalkLaws.{passed_none, passed_more, passed_all}
use Rattle.deeds.specs.declared.Rule.{Rule}
use Rattle.deeds.specs.declared.tally.Tally.{Tally}
use Rattle.deeds.specs.Deeds.{counts_as_fill, fills_in, lesser, lowest_in, score_within, certain_by}
use Rattle.deeds.specs.Tallies.{fill_tally, cell_tally, join_tally, tally_in, tally_passed}
use Rattle.deeds.proofs.ScoreLaws.{scores, lesser_comm, truths, both_comm, kind_fill, fill_no_score}

pub tally_same : (a b : Tally) → a.fills ≡ b.fills → a.certain ≡ b.certain → a.lowest ≡ b.lowest → a ≡ b
tally_same a b p q r =
    ap (λ (n : ℕ). record { fills = n; certain = a.certain; lowest = a.lowest }) p
    ∙ ap (λ (n : Bool). record { fills = b.fills; certain = n; lowest = a.lowest }) q
    ∙ ap (λ (n : Option ℤ). record { fills = b.fills; certain = b.certain; lowest = n }) r

pub tallies : Joins join_tally (fill_tally 0)
unfolding join_tally
tallies =
    record {
      unit_left = λ x. tally_same _ _ (omega arith) (truths.unit_left x.certain) (scores.unit_left x.lowest);
      unit_right = λ x. tally_same _ _ (omega arith) (truths.unit_right x.certain) (scores.unit_right x.lowest);
      assoc = λ x y z. tally_same _ _ (omega arith) (truths.assoc x.certain y.certain z.certain) (scores.assoc x.lowest y.lowest z.lowest);
    }

pub tally_comm : (x y : Tally) → join_tally x y ≡ join_tally y x
unfolding join_tally
tally_comm x y = tally_same _ _ (omega arith) (both_comm x.certain y.certain) (lesser_comm x.lowest y.lowest)

-- its parts are those of the definition

module _ (rule : Rule) (top bottom left right : ℕ) (f : ℕ → ℕ → Result Cell Refusal) where
  pub tally_fills : (tally_in rule top bottom left right f).fills ≡ fills_in top bottom left right f
  unfolding tally_in fills_in join_tally cell_tally
  tally_fills = inside_part join_tally (fill_tally 0) ◌+◌ 0 (λ (t : Tally). t.fills) refl (λ x y. refl) top bottom left right _

  pub tally_certain : (tally_in rule top bottom left right f).certain ≡ certain_by rule top bottom left right f
  unfolding tally_in certain_by join_tally cell_tally
  tally_certain = inside_part join_tally (fill_tally 0) both true (λ (t : Tally). t.certain) refl (λ x y. refl) top bottom left right _

  pub tally_lowest : (tally_in rule top bottom left right f).lowest ≡ lowest_in top bottom left right f
  unfolding tally_in lowest_in join_tally cell_tally
  tally_lowest = inside_part join_tally (fill_tally 0) lesser None (λ (t : Tally). t.lowest) refl (λ x y. refl) top bottom left right _

-- no more fills than cells

module _ (top bottom left right : ℕ) (f : ℕ → ℕ → Result Cell Refusal) where
  one_of : (b : Bool) → pick b 1 0 + pick b 0 1 ≡ 1
  one_of true = refl
  one_of false = refl

  pub fills_few : fills_in top bottom left right f ≤ (bottom - top) * (right - left)
  unfolding fills_in
  fills_few =
      let p = inside_both ◌+◌ 0 sums (λ x y. omega arith) top bottom left right (λ r c. pick (counts_as_fill (f r c)) 1 0) (λ r c. pick (counts_as_fill (f r c)) 0 1) in
      let q = inside_ones top bottom left right (λ r c. pick (counts_as_fill (f r c)) 1 0 + pick (counts_as_fill (f r c)) 0 1) (λ r c h. one_of (counts_as_fill (f r c))) in
      omega arith

pub tally_few :
    (rule : Rule) (top bottom left right : ℕ) (f : ℕ → ℕ → Result Cell Refusal) (t : Tally) → t ≡ tally_in rule top bottom left right f → bottom ≤ most_grid_side → right ≤ most_grid_side →
    t.fills ≤ most_grid_side * most_grid_side
tally_few rule top bottom left right f t e h k =
    let p : bottom - top ≤ most_grid_side = omega arith in
    let q : right - left ≤ most_grid_side = omega arith in
    let m : (bottom - top) * (right - left) ≤ most_grid_side * most_grid_side = mul-le-mul p q in
    rw e (omega (arith, tally_fills rule top bottom left right f, fills_few top bottom left right f))

-- two areas can be counted together
pub tally_fits :
    (rule : Rule) (f : ℕ → ℕ → Result Cell Refusal) (top bottom left right top2 bottom2 left2 right2 : ℕ) (t u : Tally) → t ≡ tally_in rule top bottom left right f →
    u ≡ tally_in rule top2 bottom2 left2 right2 f → bottom ≤ most_grid_side → right ≤ most_grid_side → bottom2 ≤ most_grid_side → right2 ≤ most_grid_side →
    t.fills + u.fills < 18446744073709551616
tally_fits rule f top bottom left right top2 bottom2 left2 right2 t u e d h k l m =
    omega (arith, tally_few rule top bottom left right f t e h k, tally_few rule top2 bottom2 left2 right2 f u d l m)

-- none, one cell, one area under another and beside it

module _ (rule : Rule) (f : ℕ → ℕ → Result Cell Refusal) where
  pub tally_none : (top bottom left right : ℕ) (t : Tally) → t ≡ fill_tally 0 → ((r c : ℕ) → Inside top bottom left right r c → ⊥) → t ≡ tally_in rule top bottom left right f
  unfolding tally_in
  tally_none top bottom left right t e h = e ∙ sym (inside_none join_tally (fill_tally 0) tallies top bottom left right _ (λ r c k. absurd (h r c k)))

  pub tally_cell : (r c : ℕ) (x : Result Cell Refusal) (t : Tally) → t ≡ cell_tally rule x → x ≡ f r c → t ≡ tally_in rule r (r + 1) c (c + 1) f
  unfolding tally_in
  tally_cell r c x t e h = e ∙ ap (cell_tally rule) h ∙ sym (inside_one join_tally (fill_tally 0) tallies r c _)

  -- where a loop ends
  pub tally_ends :
      (top bottom left right r c : ℕ) (t : Tally) → t ≡ tally_in rule top r left c f → r ≡ bottom → c ≡ right → t ≡ tally_in rule top bottom left right f
  tally_ends top bottom left right r c t e p q = rw (← p, ← q) e

  module _ (top bottom left right mid : ℕ) (t u v : Tally) where
    pub tally_under :
        t ≡ tally_in rule top mid left right f → u ≡ tally_in rule mid bottom left right f → v ≡ join_tally t u → top ≤ mid → mid ≤ bottom →
        v ≡ tally_in rule top bottom left right f
    unfolding tally_in
    tally_under d e h k l = h ∙ rw (d, e) (sym (inside_under join_tally (fill_tally 0) tallies top mid bottom left right (λ r c. cell_tally rule (f r c)) k l))

    pub tally_beside :
        t ≡ tally_in rule top bottom left mid f → u ≡ tally_in rule top bottom mid right f → v ≡ join_tally t u → left ≤ mid → mid ≤ right →
        v ≡ tally_in rule top bottom left right f
    unfolding tally_in
    tally_beside d e h k l = h ∙ rw (d, e) (sym (inside_beside join_tally (fill_tally 0) tallies tally_comm top bottom left mid right (λ r c. cell_tally rule (f r c)) k l))

-- what a walk has counted: nothing, a piece more, all; and it fits

module _ (rule : Rule) (f : ℕ → ℕ → Result Cell Refusal) (n : ℕ) where
  pub tally_begins : {top left : ℕ} (bottom : ℕ) (t : Tally) → t ≡ fill_tally 0 → Begins 0 n top left → t ≡ tally_passed rule n top bottom left f
  unfolding tally_passed
  tally_begins bottom t e b = e ∙ sym (passed_none join_tally (fill_tally 0) tallies 0 n _ _ bottom _ b)

  module _ (top bottom left : ℕ) (t : Tally) (e : t ≡ tally_passed rule n top bottom left f) where
    pub tally_walks :
        {right top2 bottom2 left2 : ℕ} (u v : Tally) → Follows n top bottom left right top2 bottom2 left2 → u ≡ tally_in rule top bottom left right f → v ≡ join_tally t u →
        v ≡ tally_passed rule n top2 bottom2 left2 f
    unfolding tally_passed tally_in
    tally_walks u v w d h = h ∙ rw (e, d) (passed_more join_tally (fill_tally 0) tallies 0 n _ top bottom left tally_comm _ _ _ _ w (omega arith))

    pub tally_all : (rows : ℕ) → top ≡ rows → left ≡ 0 → t ≡ tally_in rule 0 rows 0 n f
    unfolding tally_passed tally_in
    tally_all rows h z = e ∙ passed_all join_tally (fill_tally 0) tallies 0 n _ top bottom left rows h z

    pub tally_room :
        (right : ℕ) (u : Tally) → u ≡ tally_in rule top bottom left right f → bottom ≤ most_grid_side → n ≤ most_grid_side → top ≤ bottom → left ≤ right → right ≤ n →
        t.fills + u.fills < 18446744073709551616
    unfolding tally_passed fold_passed join_tally tally_in
    tally_room right u d h k l m b =
        let x = tally_few rule 0 top 0 n f _ refl (omega arith) k in
        let y = tally_few rule top bottom 0 left f _ refl h (omega arith) in
        omega (arith, ap (λ (z : Tally). z.fills) e, x, y, tally_few rule top bottom left right f u d h (omega arith))

-- an area of fills
pub tally_all_fill :
    (rule : Rule) (f : ℕ → ℕ → Result Cell Refusal) (top bottom left right : ℕ) (t : Tally) → t ≡ fill_tally ((bottom - top) * (right - left)) →
    ((r c : ℕ) → Inside top bottom left right r c → cell_kind (f r c) ≡ 33) → t ≡ tally_in rule top bottom left right f
unfolding fills_in certain_by lowest_in score_within
tally_all_fill rule f top bottom left right t e h =
    e
    ∙ tally_same _ _
    (sym (tally_fills rule top bottom left right f ∙ inside_ones top bottom left right _ (λ r c k. rw (← kind_fill (f r c) (h r c k)))))
    (sym (tally_certain rule top bottom left right f ∙ inside_none both true truths top bottom left right _ (λ r c k. rw (fill_no_score (f r c) (h r c k)))))
    (sym (tally_lowest rule top bottom left right f ∙ inside_none lesser None scores top bottom left right _ (λ r c k. fill_no_score (f r c) (h r c k))))

-- two counts together, as the function gives them
pub tally_joined :
    (a b : Tally) (c : Bool) (y : Option ℤ) → c ≡ both a.certain b.certain → y ≡ lesser a.lowest b.lowest →
    ◌≡◌ {A = Tally} (record { fills = a.fills + b.fills; certain = c; lowest = y }) (join_tally a b)
unfolding join_tally
tally_joined a b c y e f = tally_same _ _ refl e f
