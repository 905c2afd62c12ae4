-- The first row that fails: none just where all pass, and named. Rows joined, and rows below a number. Assumes nothing.
use Prim.Native.Nat.{ℕ, zero, suc, ◌+◌, ◌≤◌, ◌<◌}
use mathlib.Core.Path.{◌≡◌, refl, sym, ap, ◌∙◌}
use mathlib.Core.List.{List, [], ◌∷◌, ◌++◌}
use mathlib.Core.Bool.{Bool, true, false}
use native.Mathlib.Omega.{arith}
use native.Mathlib.Numerals.{add-one}
use lib.Dec.{eqb}
use borrow.Author.Tests.{eqb-true, eqb-false}
use Rattle.wire.specs.Tests.{test, both, passes, all_below}
use Rattle.wire.proofs.TestLaws.{not_both}
use Rattle.reasons.specs.declared.Fault.{Fault}
use Rattle.reasons.specs.Rows.{Row, tests, keeps, judged, or_else, first_failing, rows_below, NamedIn, KeptExactly, FirstNamed, Reason}
use Rattle.std.specs.Prelude.{Ok, Err}

-- both, as a sum of tests

pub both_assoc : (a b c : Bool) → both (both a b) c ≡ both a (both b c)
both_assoc true b c = refl
both_assoc false b c = refl

pub both_end : (a : Bool) → both a true ≡ a
both_end true = refl
both_end false = refl

pub keeps_none : keeps [] ≡ true
unfolding keeps tests passes
keeps_none = refl

pub keeps_more : (x : Row) (xs : List Row) → keeps (x ∷ xs) ≡ both (test x.rule) (keeps xs)
unfolding keeps tests passes
keeps_more x xs = refl

pub keeps_joined : (xs ys : List Row) → keeps (xs ++ ys) ≡ both (keeps xs) (keeps ys)
keeps_joined [] ys = rw keeps_none refl
keeps_joined (x ∷ xs) ys =
    keeps_more x (xs ++ ys) ∙ ap (both (test x.rule)) (keeps_joined xs ys) ∙ sym (both_assoc (test x.rule) (keeps xs) (keeps ys))
    ∙ ap (λ (b : Bool). both b (keeps ys)) (sym (keeps_more x xs))

pub keeps_below : (n : ℕ) (f : ℕ → List Row) → keeps (rows_below n f) ≡ all_below n (λ i. keeps (f i))
unfolding rows_below all_below passes
keeps_below zero f = keeps_none
keeps_below (suc n) f =
    keeps_joined (rows_below n f) (f n)
    ∙ ap (λ (b : Bool). both b (keeps (f n))) (keeps_below n f)
    ∙ ap (both (all_below n (λ i. keeps (f i)))) (sym (both_end (keeps (f n))))

-- the first that fails, of rows joined

pub first_none : first_failing [] ≡ Ok tt
unfolding first_failing
first_none = refl

pub first_more : (x : Row) (xs : List Row) → first_failing (x ∷ xs) ≡ or_else (judged x) (first_failing xs)
unfolding first_failing
first_more x xs = refl

pub or_assoc : (a b c : Reason) → or_else (or_else a b) c ≡ or_else a (or_else b c)
unfolding or_else
or_assoc (Ok kept) b c = refl
or_assoc (Err x) b c = refl

pub or_kept : (a b : Reason) → a ≡ Ok tt → or_else a b ≡ b
unfolding or_else
or_kept a b e = rw e refl

pub or_broken : (a b : Reason) (x : Fault) → a ≡ Err x → or_else a b ≡ Err x
unfolding or_else
or_broken a b x e = rw e refl

pub first_joined : (xs ys : List Row) → first_failing (xs ++ ys) ≡ or_else (first_failing xs) (first_failing ys)
first_joined [] ys = sym (or_kept _ _ first_none)
first_joined (x ∷ xs) ys =
    first_more x (xs ++ ys) ∙ ap (or_else (judged x)) (first_joined xs ys)
    ∙ sym (or_assoc (judged x) (first_failing xs) (first_failing ys))
    ∙ ap (λ (r : Reason). or_else r (first_failing ys)) (sym (first_more x xs))

-- one row

pub row_kept : (x : Row) → test x.rule ≡ true → judged x ≡ Ok tt
unfolding judged
row_kept x e = rw e refl

pub row_broken : (x : Row) → test x.rule ≡ false → judged x ≡ Err x.fault
unfolding judged
row_broken x e = rw e refl

pub kept_is : (x : Row) → test x.rule ≡ true → Ok tt ≡ judged x
kept_is x e = sym (row_kept x e)

pub broken_is : (x : Row) → test x.rule ≡ false → Err x.fault ≡ judged x
broken_is x e = sym (row_broken x e)

pub or_end : (a : Reason) → or_else a (Ok tt) ≡ a
unfolding or_else
or_end (Ok kept) = refl
or_end (Err x) = refl

-- what a chain of rules answers
pub ruleset chain = (first_none, first_more, first_joined, or_kept, or_broken, or_end)

-- none just where all pass, and else the first is named

split : (x : Row) (xs : List Row) (b : Bool) → test x.rule ≡ b → keeps (x ∷ xs) ≡ both b (keeps xs)
split x xs b e = keeps_more x xs ∙ ap (λ (a : Bool). both a (keeps xs)) e

judged_by_lem : (x : Row) (xs : List Row) → test x.rule ≡ true → first_failing (x ∷ xs) ≡ first_failing xs
judged_by_lem x xs e = first_more x xs ∙ or_kept _ _ (row_kept x e)

stopped_by_lem : (x : Row) (xs : List Row) → test x.rule ≡ false → first_failing (x ∷ xs) ≡ Err x.fault
stopped_by_lem x xs e = first_more x xs ∙ or_broken _ _ _ (row_broken x e)

abbrev pub is_kept : Reason → Bool
is_kept (Ok kept) = true
is_kept (Err x) = false

-- as one equation
pub kept_same : (l : List Row) → is_kept (first_failing l) ≡ keeps l
kept_same [] = ap is_kept first_none ∙ sym keeps_none
kept_same (x ∷ xs) = go (test x.rule) refl (kept_same xs)
  where
    go : (b : Bool) → test x.rule ≡ b → is_kept (first_failing xs) ≡ keeps xs → is_kept (first_failing (x ∷ xs)) ≡ keeps (x ∷ xs)
    go true p r = ap is_kept (judged_by_lem x xs p) ∙ r ∙ sym (split x xs true p)
    go false p r = ap is_kept (stopped_by_lem x xs p) ∙ sym (split x xs false p)

kept_of : (r : Reason) → is_kept r ≡ true → r ≡ Ok tt
kept_of (Ok kept) e = refl
kept_of (Err x) e = not_both e refl

pub keeps_by : (l : List Row) → first_failing l ≡ Ok tt → keeps l ≡ true
keeps_by l e = sym (kept_same l) ∙ ap is_kept e

pub keeps_not : (l : List Row) (x : Fault) → first_failing l ≡ Err x → keeps l ≡ false
keeps_not l x e = sym (kept_same l) ∙ ap is_kept e

pub kept_by : (l : List Row) → keeps l ≡ true → first_failing l ≡ Ok tt
kept_by l e = kept_of _ (kept_same l ∙ e)

pub kept_exactly : KeptExactly
kept_exactly l = (keeps_by l, kept_by l)

abbrev fault_of_lem : Reason → Fault → Fault
fault_of_lem (Ok kept) y = y
fault_of_lem (Err x) y = x

same_fault : (x y : Fault) → ◌≡◌ {A = Reason} (Err x) (Err y) → x ≡ y
same_fault x y e = ap (λ (r : Reason). fault_of_lem r x) e

not_kept : {C : Type 0} (x : Fault) → ◌≡◌ {A = Reason} (Ok tt) (Err x) → C
not_kept x e = not_both refl (ap is_kept e)

behind : (y : Row) (l : List Row) (x : Fault) → test y.rule ≡ true → NamedIn l x → NamedIn (y ∷ l) x
behind y l x e n =
    record {
      before = y ∷ n.before;
      row = n.row;
      after = n.after;
      whole = ap (λ (m : List Row). y ∷ m) n.whole;
      kept = split y n.before true e ∙ n.kept;
      broken = n.broken;
      says = n.says;
    }

pub named_first : (l : List Row) (x : Fault) → first_failing l ≡ Err x → NamedIn l x
named_first [] x e = not_kept x (sym first_none ∙ e)
named_first (y ∷ ys) x e = go (test y.rule) refl (named_first ys x)
  where
    go : (b : Bool) → test y.rule ≡ b → (first_failing ys ≡ Err x → NamedIn ys x) → NamedIn (y ∷ ys) x
    go true p r = behind y ys x p (r (sym (judged_by_lem y ys p) ∙ e))
    go false p r =
        record {
          before = [];
          row = y;
          after = ys;
          whole = refl;
          kept = keeps_none;
          broken = p;
          says = same_fault _ _ (sym (stopped_by_lem y ys p) ∙ e);
        }

pub first_named : FirstNamed
first_named l x = (
  named_first l x,
  λ n. ap first_failing n.whole ∙ first_joined n.before (n.row ∷ n.after) ∙ or_kept _ _ (kept_by n.before n.kept)
      ∙ stopped_by_lem n.row n.after n.broken ∙ ap Err n.says,
)

-- a loop over the rows of each number below n

pub below_begin : (f : ℕ → List Row) → first_failing (rows_below 0 f) ≡ Ok tt
unfolding rows_below
below_begin f = first_none

below_next : (i : ℕ) (f : ℕ → List Row) → first_failing (rows_below (i + 1) f) ≡ or_else (first_failing (rows_below i f)) (first_failing (f i))
unfolding rows_below
below_next i f = rw add-one (first_joined (rows_below i f) (f i))

module _ (i : ℕ) (f : ℕ → List Row) (a : Reason) (q : a ≡ first_failing (f i)) where
  pub below_pass : a ≡ Ok tt → first_failing (rows_below i f) ≡ Ok tt → first_failing (rows_below (i + 1) f) ≡ Ok tt
  below_pass e h = below_next i f ∙ or_kept _ _ h ∙ sym q ∙ e

  pub below_stop : (n : ℕ) (x : Fault) → a ≡ Err x → first_failing (rows_below i f) ≡ Ok tt → i < n → Err x ≡ first_failing (rows_below n f)
  below_stop n x e h k = sym (go n k)
    where
      go : (m : ℕ) → i < m → first_failing (rows_below m f) ≡ Err x
      go zero j = absurd (omega arith)
      go (suc m) j = at (eqb i m) refl (go m)
        where
          at : (b : Bool) → eqb i m ≡ b → (i < m → first_failing (rows_below m f) ≡ Err x) → first_failing (rows_below (suc m) f) ≡ Err x
          at true d r =
              rw (← add-one m) (below_next m f ∙ rw (← eqb-true i m d) (or_kept _ _ h ∙ sym q ∙ e))
          at false d r =
              let z = eqb-false i m d in
              rw (← add-one m) (below_next m f ∙ or_broken _ _ _ (r (omega arith)))
