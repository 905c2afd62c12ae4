-- What no record, one, or several with different IDs say as a rule. Assumes nothing.
use Rattle.std.specs.Prelude.{Ok}
use Prim.Native.Nat.{ℕ, ◌<◌}
use mathlib.Core.Path.{◌≡◌, refl, sym, ap, ◌∙◌}
use mathlib.Core.List.{List, [], ◌∷◌}
use mathlib.Core.Bool.{Bool, true, false, not, ◌||◌, ◌&&◌}
use native.Mathlib.Omega.{arith}
use lib.ListN.{length, get_or}
use lib.Dec.{eqb}
use borrow.Author.Tests.{eqb-true, ne_eqb}
use Rattle.wire.specs.Pick.{pick}
use Rattle.wire.specs.Lists.{some}
use Rattle.store.specs.Face.{check}
use Rattle.store.specs.Named.{ids_named, as_named, name_said}
use Rattle.store.specs.declared.named.NamedIds.{NamedIds}
use Rattle.store.specs.declared.named.NamedIds.TheVariants.{Absent, One, Several}
use Rattle.store.proofs.NamedLaws.{ids_differ}
use Rattle.score_rule.specs.declared.Said.{Said}
use Rattle.score_rule.specs.declared.Said.TheVariants.{First, Second, Wrong}
use Rattle.score_rule.specs.Rules.{other_id, rule_said, score_rule, page_says, said_by, RuleSaid}

-- the function's answers

pub said_none : (x : NamedIds) → x ≡ Absent → First ≡ said_by x
unfolding said_by
said_none x e = rw e

pub said_several : (x : NamedIds) → x ≡ Several → Wrong ≡ said_by x
unfolding said_by
said_several x e = rw e

module _ (x : NamedIds) (i : ℕ) (e : x ≡ One i) where
  pub said_first : i ≡ 1 → First ≡ said_by x
  unfolding said_by
  said_first h = rw (e, h)

  pub said_second : i ≡ 2 → Second ≡ said_by x
  unfolding said_by
  said_second h = rw (e, h)

  pub said_wrong : (i ≡ 1 → ⊥) → (i ≡ 2 → ⊥) → Wrong ≡ said_by x
  unfolding said_by
  said_wrong f g = rw (e, ne_eqb i 1 f, ne_eqb i 2 g)

-- the words, of one ID

one_not_two : (i : ℕ) → eqb i 1 ≡ true → eqb i 2 ≡ true → ⊥
one_not_two i p q = let y = eqb-true i 1 p in let z = eqb-true i 2 q in omega arith

said_one : (i : ℕ) → said_by (One i) ≡ rule_said (i ∷ [])
unfolding said_by rule_said some other_id
said_one i = go (eqb i 1) refl (eqb i 2) refl
  where
    go : (a : Bool) → eqb i 1 ≡ a → (b : Bool) → eqb i 2 ≡ b → said_by (One i) ≡ rule_said (i ∷ [])
    go true h true k = absurd (one_not_two i h k)
    go true h false k = rw (h, k)
    go false h true k = rw (h, k)
    go false h false k = rw (h, k)

-- of several of which the first two differ: one of them is another, or they are both

or_true : (a : Bool) → a || true ≡ true
or_true true = refl
or_true false = refl

two_wrong :
    (a b c d x y z : Bool) → (a ≡ true → b ≡ true → ⊥) → (c ≡ true → d ≡ true → ⊥) → (a ≡ true → c ≡ true → ⊥) → (b ≡ true → d ≡ true → ⊥) →
    pick ((not (a || b) || (not (c || d) || z)) || ((a || (c || x)) && (b || (d || y)))) Wrong (pick (b || (d || y)) Second First) ≡ Wrong
two_wrong false false c d x y z f g h k = refl
two_wrong true true c d x y z f g h k = absurd (f refl refl)
two_wrong true false false false x y z f g h k = refl
two_wrong true false false true x y z f g h k = rw (or_true z)
two_wrong true false true d x y z f g h k = absurd (h refl refl)
two_wrong false true false false x y z f g h k = refl
two_wrong false true true false x y z f g h k = rw (or_true z)
two_wrong false true c true x y z f g h k = absurd (k refl refl)

said_two : (i j : ℕ) (l : List ℕ) → (i ≡ j → ⊥) → rule_said (i ∷ j ∷ l) ≡ Wrong
unfolding rule_said some other_id
said_two i j l f =
    two_wrong (eqb i 1) (eqb i 2) (eqb j 1) (eqb j 2) (some (λ n. eqb n 1) l) (some (λ n. eqb n 2) l) (some other_id l) (one_not_two i) (one_not_two j)
    (λ p q. f (eqb-true i 1 p ∙ sym (eqb-true j 1 q))) (λ p q. f (eqb-true i 2 p ∙ sym (eqb-true j 2 q)))

said_by_words : (ids : List ℕ) → (1 < length ids → get_or ids 0 0 ≡ get_or ids 1 0 → ⊥) → said_by (as_named ids) ≡ rule_said ids
unfolding said_by rule_said some
said_by_words [] f = refl
said_by_words (i ∷ []) f = said_one i
said_by_words (i ∷ j ∷ l) f = sym (said_two i j l (f (omega arith)))

pub rule_said_lem : RuleSaid
unfolding name_said
rule_said_lem s name a = said_by_words (ids_named s name) (λ h. ids_differ s name a 0 1 (omega arith) h)

-- a page's

pub page_said :
    (s name : List ℕ) (x : NamedIds) (r : Said) → name ≡ score_rule → x ≡ name_said s name → r ≡ said_by x →
    (r ≡ said_by (name_said s score_rule)) × (check s ≡ Ok tt → r ≡ page_says s)
unfolding page_says
page_said s name x r n e f =
    let q : r ≡ said_by (name_said s score_rule) = f ∙ ap said_by (e ∙ rw n) in
    (q, λ a. q ∙ rule_said_lem s score_rule a)
