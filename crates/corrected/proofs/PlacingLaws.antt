-- Req 03, reading 12: where a new record goes. Assumes nothing.
use Prim.Native.Nat.{ℕ, ◌+◌, ◌≤◌}
use native.Mathlib.Omega.{arith}
use mathlib.Core.Path.{◌≡◌, refl, ap, ◌∙◌}
use mathlib.Core.Logic.{◌⊎◌, inl, inr, ⊎_elim}
use mathlib.Core.List.{List, [], ◌∷◌, ◌++◌}
use mathlib.Core.Bool.{Bool, true, false, ◌||◌}
use lib.ListN.{length, length-append}
use lib.Dec.{leb, eqb}
use borrow.Author.Tests.{leb-true, eqb-true}
use Rattle.wire.proofs.TestLaws.{not_both}
use Rattle.record.specs.Chain.{joined}
use Rattle.pieces.specs.Pieces.{is_free}
use Rattle.pieces.specs.Edits.{takes, place_for, placed}
use Rattle.pieces.specs.Standing.{AllOf}
use Rattle.pieces.proofs.FreeingLaws.{and_both}
use Rattle.page_laws.proofs.MoreLaws.{joined_append}
use Rattle.corrected.specs.Placing.{LowestTaken, NoneTaken, LowestFit}

-- a record that takes so many bytes has as many
pub takes_long : (n : ℕ) (r : List ℕ) → takes n r ≡ true → n ≤ length r
unfolding takes
takes_long n r e = go (eqb (length r) n) refl (leb (n + 16) (length r)) refl (and_both (is_free r) (eqb (length r) n || leb (n + 16) (length r)) e).1
  where
    go : (a : Bool) → eqb (length r) n ≡ a → (b : Bool) → leb (n + 16) (length r) ≡ b → (a || b) ≡ true → n ≤ length r
    go true i b j k = let z = eqb-true (length r) n i in omega arith
    go false i true j k = let z = leb-true (n + 16) (length r) j in omega arith
    go false i false j k = not_both k refl

-- the first of some records takes it

module _ (at n : ℕ) (r : List ℕ) (rs : List (List ℕ)) where
  first_takes : takes n r ≡ true → LowestTaken at n (r ∷ rs)
  unfolding place_for placed
  first_takes e =
      record {
        before = [];
        taken = r;
        behind = rs;
        whole = refl;
        fits = e;
        none_lower = _;
        place = rw e (omega arith);
        puts = λ flag v l. rw (l, e);
      }

  -- it does not: what is said of the others is said of all

  lower : takes n r ≡ false → LowestTaken (at + length r) n rs → LowestTaken at n (r ∷ rs)
  unfolding place_for placed
  lower e w =
      let l = length-append r (joined w.before) in
      let p : place_for (at + length r) n rs ≡ at + length (r ++ joined w.before) = w.place ∙ omega arith in
      record {
        before = r ∷ w.before;
        taken = w.taken;
        behind = w.behind;
        whole = ap (λ (l : List (List ℕ)). r ∷ l) w.whole;
        fits = w.fits;
        none_lower = (e, w.none_lower);
        place = rw e p;
        puts = λ flag v l. rw (l, e) (ap (λ (l : List (List ℕ)). r ∷ l) (w.puts flag v l));
      }

  beyond : takes n r ≡ false → NoneTaken (at + length r) n rs → NoneTaken at n (r ∷ rs)
  unfolding place_for placed
  beyond e w =
      let l = length-append r (joined rs) in
      let p : place_for (at + length r) n rs ≡ at + length (r ++ joined rs) = w.place ∙ omega arith in
      record { none = (e, w.none); place = rw e p; puts = λ flag v l. rw (l, e) (ap (λ (l : List (List ℕ)). r ∷ l) (w.puts flag v l)) }

none_there : (at n : ℕ) → NoneTaken at n []
unfolding place_for placed
none_there at n = record { none = _; place = omega arith; puts = λ flag v l. refl }

-- where none takes it
pub none_takes_last : (at n : ℕ) (rs : List (List ℕ)) → AllOf (λ r. takes n r ≡ false) rs → NoneTaken at n rs
none_takes_last at n [] a = none_there at n
none_takes_last at n (r ∷ rs) a = beyond at n r rs a.0 (none_takes_last (at + length r) n rs a.1)

pub lowest_fit : LowestFit
lowest_fit at n [] = inr (none_there at n)
lowest_fit at n (r ∷ rs) = go (takes n r) refl (lowest_fit (at + length r) n rs)
  where
    go : (b : Bool) → takes n r ≡ b → LowestTaken (at + length r) n rs ⊎ NoneTaken (at + length r) n rs → LowestTaken at n (r ∷ rs) ⊎ NoneTaken at n (r ∷ rs)
    go true e w = inl (first_takes at n r rs e)
    go false e w = ⊎_elim (λ a. inl (lower at n r rs e a)) (λ a. inr (beyond at n r rs e a)) w

-- what is put into one of them ends before they do
pub lowest_inside : {at n : ℕ} {rs : List (List ℕ)} → LowestTaken at n rs → place_for at n rs + n ≤ at + length (joined rs)
lowest_inside {at} {n} {rs} w =
    let a : length (joined rs) ≡ length (joined w.before) + length (joined (w.taken ∷ w.behind)) =
    ap (λ (l : List (List ℕ)). length (joined l)) w.whole ∙ ap length (joined_append w.before (w.taken ∷ w.behind))
    ∙ length-append (joined w.before) (joined (w.taken ∷ w.behind)) in
    let b = length-append w.taken (joined w.behind) in
    omega (arith, w.place, takes_long n w.taken w.fits)
