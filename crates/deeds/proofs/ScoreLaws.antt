-- Scores: their order, the lower of two, and what kinds of cells have one. Assumes nothing.
use Rattle.std.specs.Prelude.{Result, Some, None, Option, Ok}
use Rattle.answer.specs.declared.Refusal.{Refusal}
use Prim.Native.Nat.{ℕ, ◌^◌, ◌<◌}
use mathlib.Core.Path.{◌≡◌, refl, ap, ◌∙◌}
use mathlib.Core.Bool.{Bool, true, false}
use native.Mathlib.Omega.{arith}
use lib.IntN.{ℤ, pos, negsuc}
use lib.Dec.{eqb}
use lib.Signed.{le_z, mag}
use mir.Syntax.{w16}
use mir.Val.{to_z, of_z, hbits}
use mir.Facts.{to_z-of_z}
use borrow.Author.Tests.{leb-true, leb-false, le-leb, ne_eqb}
use Rattle.wire.specs.Pick.{pick}
use Rattle.wire.specs.Tests.{both, passes}
use Rattle.wire.proofs.TestLaws.{not_both}
use Rattle.answer.specs.declared.Cell.{Cell}
use Rattle.answer.specs.Answers.{cell_kind}
use Rattle.blocks.specs.Folds.{Joins}
use Rattle.deeds.specs.declared.Rule.{Rule}
use Rattle.deeds.specs.declared.Grade.{Grade}
use Rattle.deeds.specs.declared.Deed.{Deed}
use Rattle.deeds.specs.Deeds.{is_fill, is_stored, counts_as_fill, is_scored, score_of, lesser, lowest_bits, deed_scale, Graded}

-- the order of signed numbers

pub le_either : (a b : ℤ) → le_z a b ≡ false → le_z b a ≡ true
le_either (pos a) (pos b) e = le-leb b a (omega (arith, leb-false a b e))
le_either (pos a) (negsuc b) e = refl
le_either (negsuc a) (pos b) e = not_both refl e
le_either (negsuc a) (negsuc b) e = le-leb a b (omega (arith, leb-false b a e))

le_then : (a b c : ℤ) → le_z a b ≡ true → le_z b c ≡ true → le_z a c ≡ true
le_then (pos a) (pos b) (pos c) e f = le-leb a c (omega (arith, leb-true a b e, leb-true b c f))
le_then (pos a) (pos b) (negsuc c) e f = not_both f refl
le_then (pos a) (negsuc b) c e f = not_both e refl
le_then (negsuc a) (pos b) (pos c) e f = refl
le_then (negsuc a) (pos b) (negsuc c) e f = not_both f refl
le_then (negsuc a) (negsuc b) (pos c) e f = refl
le_then (negsuc a) (negsuc b) (negsuc c) e f = le-leb c a (omega (arith, leb-true b a e, leb-true c b f))

le_same : (a b : ℤ) → le_z a b ≡ true → le_z b a ≡ true → a ≡ b
le_same (pos a) (pos b) e f = ap pos (omega (arith, leb-true a b e, leb-true b a f))
le_same (pos a) (negsuc b) e f = not_both e refl
le_same (negsuc a) (pos b) e f = not_both f refl
le_same (negsuc a) (negsuc b) e f = ap negsuc (omega (arith, leb-true b a e, leb-true a b f))

-- the lower of two scores

lower_comm : (a b : ℤ) → pick (le_z a b) (Some a) (Some b) ≡ pick (le_z b a) (Some b) (Some a)
lower_comm a b = go (le_z a b) refl (le_z b a) refl
  where
    go : (x : Bool) → le_z a b ≡ x → (y : Bool) → le_z b a ≡ y → pick x (Some a) (Some b) ≡ pick y (Some b) (Some a)
    go true p true q = ap Some (le_same a b p q)
    go true p false q = refl
    go false p true q = refl
    go false p false q = not_both (le_either a b p) q

pub lesser_comm : (x y : Option ℤ) → lesser x y ≡ lesser y x
unfolding lesser
lesser_comm None None = refl
lesser_comm None (Some b) = refl
lesser_comm (Some a) None = refl
lesser_comm (Some a) (Some b) = lower_comm a b

three : (a b c : ℤ) → lesser (pick (le_z a b) (Some a) (Some b)) (Some c) ≡ lesser (Some a) (pick (le_z b c) (Some b) (Some c))
unfolding lesser
three a b c = go (le_z a b) refl (le_z b c) refl (le_z a c) refl
  where
    go :
        (x : Bool) → le_z a b ≡ x → (y : Bool) → le_z b c ≡ y → (z : Bool) → le_z a c ≡ z →
        lesser (pick (le_z a b) (Some a) (Some b)) (Some c) ≡ lesser (Some a) (pick (le_z b c) (Some b) (Some c))
    go true p true q z r = rw (p, q, p, le_then a b c p q)
    go true p false q z r = rw (p, q)
    go false p true q z r = rw (p, q, p)
    go false p false q true r = not_both (le_then a c b r (le_either b c q)) p
    go false p false q false r = rw (p, q, r)

pub scores : Joins lesser None
unfolding lesser
scores = record { unit_left = λ x. refl; unit_right = right; assoc = assoc }
  where
    right : (x : Option ℤ) → lesser x None ≡ x
    right None = refl
    right (Some a) = refl

    assoc : (x y z : Option ℤ) → lesser (lesser x y) z ≡ lesser x (lesser y z)
    assoc None y z = refl
    assoc (Some a) None z = refl
    assoc (Some a) (Some b) None = right _
    assoc (Some a) (Some b) (Some c) = three a b c

-- truth values

pub both_comm : (a b : Bool) → both a b ≡ both b a
both_comm true true = refl
both_comm true false = refl
both_comm false true = refl
both_comm false false = refl

pub truths : Joins both true
truths = record { unit_left = λ x. refl; unit_right = right; assoc = assoc }
  where
    right : (x : Bool) → both x true ≡ x
    right true = refl
    right false = refl

    assoc : (x y z : Bool) → both (both x y) z ≡ both x (both y z)
    assoc true y z = refl
    assoc false y z = refl

-- kinds of cells

pub kind_fill : (x : Result Cell Refusal) → cell_kind x ≡ 33 → true ≡ counts_as_fill x
unfolding counts_as_fill is_stored is_fill passes
kind_fill x e = rw e

pub fill_no_score : (x : Result Cell Refusal) → cell_kind x ≡ 33 → score_of x ≡ None
unfolding score_of is_scored is_stored
fill_no_score x e = rw e

module _ (x : Result Cell Refusal) (k : ℕ) (e : k ≡ cell_kind x) where
  pub stored_first : k ≡ 32 → true ≡ is_stored x
  unfolding is_stored
  stored_first h = rw (← e, h)

  pub stored_second : (k ≡ 32 → ⊥) → eqb k 34 ≡ is_stored x
  unfolding is_stored
  stored_second h = rw (← e, ne_eqb k 32 h)

-- scores in the machine

pub kept : (z : ℤ) → mag z < 2 ^ hbits w16 → to_z w16 (of_z w16 z) ≡ z
kept z h = to_z-of_z {w = w16} (record { sfits = h })

pub bits_of : (x : Option ℤ) (z : ℤ) (r : ℕ) → x ≡ Some z → mag z < 2 ^ hbits w16 → r ≡ of_z w16 (to_z w16 (of_z w16 z)) → r ≡ lowest_bits x
bits_of x z r e h q = q ∙ rw e (ap (of_z w16) (kept z h))

pub scale_of :
    (x : Result Deed Refusal) (d : Deed) (r : ℕ) → x ≡ Ok d → mag d.rule.scale < 2 ^ hbits w16 → r ≡ of_z w16 (to_z w16 (of_z w16 d.rule.scale)) →
    r ≡ deed_scale x
scale_of x d r e h q = q ∙ rw e (ap (of_z w16) (kept d.rule.scale h))

module _ (a b : Option ℤ) where
  pub lesser_first : a ≡ None → b ≡ lesser a b
  unfolding lesser
  lesser_first e = rw e

  module _ (x : ℤ) (e : a ≡ Some x) where
    pub lesser_alone : b ≡ None → Some x ≡ lesser a b
    unfolding lesser
    lesser_alone f = rw (e, f)

    pub lesser_both :
        (y r : ℤ) → b ≡ Some y → mag x < 2 ^ hbits w16 → mag y < 2 ^ hbits w16 →
        r ≡ pick (le_z (to_z w16 (of_z w16 x)) (to_z w16 (of_z w16 y))) (to_z w16 (of_z w16 x)) (to_z w16 (of_z w16 y)) → Some (to_z w16 (of_z w16 r)) ≡ lesser a b
    unfolding lesser
    lesser_both y r f h k q = rw (e, f, q, kept x h, kept y k) (go (le_z x y))
      where
        go : (u : Bool) → Some (to_z w16 (of_z w16 (pick u x y))) ≡ pick u (Some x) (Some y)
        go true = ap Some (kept x h)
        go false = ap Some (kept y k)

module _ (x y : ℤ) (h : mag x < 2 ^ hbits w16) (k : mag y < 2 ^ hbits w16) where
  pub least_first : le_z (to_z w16 (of_z w16 x)) (to_z w16 (of_z w16 y)) ≡ true → to_z w16 (of_z w16 x) ≡ pick (le_z x y) x y
  least_first q = let p : le_z x y ≡ true = rw (kept x h, kept y k) at q in kept x h ∙ rw p

  pub least_second : le_z (to_z w16 (of_z w16 x)) (to_z w16 (of_z w16 y)) ≡ false → to_z w16 (of_z w16 y) ≡ pick (le_z x y) x y
  least_second q = let p : le_z x y ≡ false = rw (kept x h, kept y k) at q in kept y k ∙ rw p
