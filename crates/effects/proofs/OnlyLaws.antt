-- The only piece of a page of which a test holds, changed where it stands. Assumes nothing.
use Rattle.std.specs.Prelude.{Some}
use Prim.Native.Nat.{ℕ, ◌+◌, ◌≤◌}
use mathlib.Core.Path.{◌≡◌, refl, sym, ap, ap₂, ◌∙◌}
use mathlib.Core.List.{List, [], ◌∷◌, ◌++◌, map, map-append, append_assoc, Memᴰ}
use mathlib.Core.Bool.{Bool, true, false}
use native.Mathlib.Omega.{arith}
use lib.ListN.{length, length-append}
use lib.Dec.{eqb}
use Rattle.wire.specs.Bytes.{put}
use Rattle.wire.proofs.TestLaws.{no_true}
use Rattle.wire.proofs.PlaceLaws.{Placed, put_there}
use Rattle.record.specs.Record.{length_at, type_at}
use Rattle.record.specs.Chain.{joined, find, Whole}
use Rattle.record.proofs.ChainLaws.{ok_means, whole_extent}
use Rattle.record.proofs.FindLaws.{found_not}
use Rattle.pieces.specs.Pieces.{piece_at, pieces_of}
use Rattle.pieces.specs.Standing.{AllOf, standing}
use Rattle.pieces.proofs.SplitLaws.{piece_long}
use Rattle.page_laws.proofs.MoreLaws.{joined_append}

-- of the pieces rs, the first at `at`, q holds of r alone, which starts at x
pub record Only (q : List ℕ → Bool) (at : ℕ) (rs : List (List ℕ)) (x : ℕ) (r : List ℕ) : Type 0 where
  pub before : List (List ℕ)
  pub behind : List (List ℕ)
  pub whole : rs ≡ before ++ (r ∷ behind)
  pub place : at + length (joined before) ≡ x
  pub holds : q r ≡ true
  pub none_before : AllOf (λ p. q p ≡ false) before
  pub none_behind : AllOf (λ p. q p ≡ false) behind

module _ (q : List ℕ → Bool) where
  only_here : (at : ℕ) (r : List ℕ) (rs : List (List ℕ)) → q r ≡ true → AllOf (λ p. q p ≡ false) rs → Only q at (r ∷ rs) at r
  only_here at r rs h a =
      record { before = []; behind = rs; whole = refl; place = omega arith; holds = h; none_before = _; none_behind = a }

  only_further : (at : ℕ) (p : List ℕ) (rs : List (List ℕ)) {x : ℕ} {r : List ℕ} → q p ≡ false → Only q (at + length p) rs x r → Only q at (p ∷ rs) x r
  only_further at p rs h o =
      record {
        before = p ∷ o.before;
        behind = o.behind;
        whole = ap (λ (l : List (List ℕ)). p ∷ l) o.whole;
        place = omega (arith, length-append p (joined o.before), o.place);
        holds = o.holds;
        none_before = (h, o.none_before);
        none_behind = o.none_behind;
      }

  -- what changes it changes the page there, and nowhere else
  module _ (f z : List ℕ) {rs : List (List ℕ)} {x : ℕ} {r : List ℕ} (o : Only q (length f) rs x r) where
    pub only_placed : Placed (f ++ joined rs ++ z) x r
    only_placed =
        record {
          before = f ++ joined o.before;
          behind = joined o.behind ++ z;
          whole = ap (λ (l : List (List ℕ)). f ++ joined l ++ z) o.whole ∙ rw (joined_append o.before (r ∷ o.behind)) (simp append_assoc);
          start = length-append f (joined o.before) ∙ o.place;
        }

    pub only_put :
        (g : List ℕ → List ℕ) → ((p : List ℕ) → q p ≡ false → g p ≡ p) → length (g r) ≡ length r →
        put (f ++ joined rs ++ z) x (g r) ≡ f ++ joined (map g rs) ++ z
    unfolding only_placed
    only_put g same l =
        let e : map g rs ≡ o.before ++ (g r ∷ o.behind) =
        ap (map g) o.whole ∙ map-append g o.before (r ∷ o.behind)
        ∙ ap₂ (λ (a b : List (List ℕ)). a ++ (g r ∷ b)) (kept o.before o.none_before) (kept o.behind o.none_behind) in
        put_there only_placed (g r) (sym l) ∙ sym (rw (e, joined_append o.before (g r ∷ o.behind)) (simp append_assoc))
      where
        kept : (l : List (List ℕ)) → AllOf (λ p. q p ≡ false) l → map g l ≡ l
        kept [] a = refl
        kept (p ∷ l) a = ap₂ (λ (x : List ℕ) (y : List (List ℕ)). x ∷ y) (same p a.0) (kept l a.1)

-- by what stands where: the only record of a type

standing_nothing : (kind at : ℕ) (rs : List (List ℕ)) → standing kind at rs ≡ [] → AllOf (λ p. eqb (type_at p 0) kind ≡ false) rs
unfolding standing
standing_nothing kind at [] e = _
standing_nothing kind at (r ∷ rs) e = go (eqb (type_at r 0) kind) refl (standing_nothing kind (at + length r) rs)
  where
    full : {C : Type 0} (a : ℕ × List ℕ) (l : List (ℕ × List ℕ)) → a ∷ l ≡ [] → C
    full a l i = let y : ◌≡◌ {A = ℕ} 0 1 = cc in absurd (omega arith)

    go :
        (b : Bool) → eqb (type_at r 0) kind ≡ b →
        (standing kind (at + length r) rs ≡ [] → AllOf (λ p. eqb (type_at p 0) kind ≡ false) rs) → AllOf (λ p. eqb (type_at p 0) kind ≡ false) (r ∷ rs)
    go true i n = full _ _ (rw i at e)
    go false i n = (i, n (rw i at e))

pub standing_only : (kind at : ℕ) (rs : List (List ℕ)) {x : ℕ} {r : List ℕ} → standing kind at rs ≡ (x, r) ∷ [] → Only (λ p. eqb (type_at p 0) kind) at rs x r
unfolding standing
standing_only kind at [] {x} {r} e = let y : ◌≡◌ {A = ℕ} 0 1 = cc in absurd (omega arith)
standing_only kind at (p ∷ rs) {x} {r} e = go (eqb (type_at p 0) kind) refl (standing_only kind (at + length p) rs)
  where
    here : eqb (type_at p 0) kind ≡ true → (at, p) ∷ standing kind (at + length p) rs ≡ (x, r) ∷ [] → Only (λ p. eqb (type_at p 0) kind) at (p ∷ rs) x r
    here i j =
        let h : ◌≡◌ {A = ℕ × List ℕ} (at, p) (x, r) = cc in
        let t : standing kind (at + length p) rs ≡ [] = cc in
        let a : at ≡ x = ap (λ (y : ℕ × List ℕ). y.0) h in
        let b : p ≡ r = ap (λ (y : ℕ × List ℕ). y.1) h in
        rw (← a, ← b) (only_here (λ p. eqb (type_at p 0) kind) at p rs i (standing_nothing kind (at + length p) rs t))

    go :
        (b : Bool) → eqb (type_at p 0) kind ≡ b →
        (standing kind (at + length p) rs ≡ (x, r) ∷ [] → Only (λ p. eqb (type_at p 0) kind) (at + length p) rs x r) →
        Only (λ p. eqb (type_at p 0) kind) at (p ∷ rs) x r
    go true i n = here i (rw i at e)
    go false i n = only_further (λ p. eqb (type_at p 0) kind) at p rs i (n (rw i at e))

-- by the records of a page: the one that is found, where there is no other

module _ (s : List ℕ) (p : ℕ → Bool) (q : List ℕ → Bool) where
  none_of : (xs : List ℕ) → ((y : ℕ) → Memᴰ y xs → q (piece_at s y) ≡ false) → AllOf (λ r. q r ≡ false) (pieces_of s xs)
  unfolding pieces_of
  none_of [] h = _
  none_of (y ∷ ys) h = (h y (Memᴰ.head refl), none_of ys (λ z m. h z (Memᴰ.tail m)))

  pub found_only :
      (at : ℕ) (xs : List ℕ) → Whole s at xs → ((y : ℕ) → Memᴰ y xs → p y ≡ q (piece_at s y)) → {x : ℕ} → find p xs ≡ Some x →
      ((y : ℕ) → Memᴰ y xs → p y ≡ true → y ≡ x) → Only q at (pieces_of s xs) x (piece_at s x)
  unfolding pieces_of find
  found_only at [] w h e one = found_not (sym e) refl
  found_only at (y ∷ ys) w h {x} e one =
      go (p y) refl
      (λ f. found_only (y + length_at s y) ys w.1.1 (λ z m. h z (Memᴰ.tail m)) f (λ z m. one z (Memᴰ.tail m)))
    where
      a : y ≡ at
      a = w.0

      same : p y ≡ q (piece_at s y)
      same = h y (Memᴰ.head refl)

      later : p y ≡ true → (z : ℕ) → Memᴰ z ys → q (piece_at s z) ≡ false
      later i z m =
          let o = ok_means s y w.1.0 in
          let b : y + length_at s y ≤ z = (whole_extent s (y + length_at s y) ys w.1.1 m).behind in
          let c : y ≡ x = one y (Memᴰ.head refl) i in
          sym (no_true (q (piece_at s z)) (λ j. let d : z ≡ x = one z (Memᴰ.tail m) (h z (Memᴰ.tail m) ∙ j) in absurd (omega (arith, o.long))))

      go :
          (b : Bool) → p y ≡ b → (find p ys ≡ Some x → Only q (y + length_at s y) (pieces_of s ys) x (piece_at s x)) →
          Only q at (piece_at s y ∷ pieces_of s ys) x (piece_at s x)
      go true i n =
          let c : y ≡ x = one y (Memᴰ.head refl) i in
          rw (← a, ← c) (only_here q y (piece_at s y) (pieces_of s ys) (sym same ∙ i) (none_of ys (later i)))
      go false i n =
          let l : y + length_at s y ≡ at + length (piece_at s y) = omega (arith, piece_long s y w.1.0) in
          only_further q at (piece_at s y) (pieces_of s ys) (sym same ∙ i) (rw l at (n (rw i at e)))
