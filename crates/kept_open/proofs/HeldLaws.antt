-- What each tile holds where tile records are changed that keep their indexes. Assumes nothing.
use Prim.Native.Nat.{ℕ}
use mathlib.Core.Path.{◌≡◌, refl, sym, ap, ◌∙◌}
use mathlib.Core.List.Memᴰ
use mathlib.Core.List.{List, [], ◌∷◌, Memᴰ, map}
use mathlib.Core.Logic.{◌⊎◌, inl, inr}
use mathlib.Core.Bool.{Bool, true, false}
use lib.Dec.{eqb}
use borrow.Author.Tests.{eqb-true, eqb-false, eq-eqb, ne_eqb}
use Rattle.wire.specs.Pick.{pick}
use Rattle.bodies.specs.TileRecord.{tile_index}
use Rattle.alone.specs.Edited.{touched}
use Rattle.page_laws.specs.Tiles.{of_tile}
use Rattle.page_laws.specs.TileMap.{contents_alone, held_in}
use Rattle.page_laws.proofs.MapLaws.{held_same}

-- tile j, a record at a time

module _ (n j : ℕ) where
  held_other : (q : ℕ × List ℕ) (l : List (ℕ × List ℕ)) → (tile_index q.1 0 ≡ j → ⊥) → held_in n j (q ∷ l) ≡ held_in n j l
  unfolding held_in
  held_other q l z = rw (ne_eqb (tile_index q.1 0) j z)

  held_here : (q : ℕ × List ℕ) (l : List (ℕ × List ℕ)) → tile_index q.1 0 ≡ j → held_in n j (q ∷ l) ≡ contents_alone n q.1
  unfolding held_in
  held_here q l e = rw (eq-eqb (tile_index q.1 0) j e)

-- g changes the record of tile i alone, and then that holds k
pub record Turned (n i : ℕ) (k : List (List ℕ)) (g : List ℕ → List ℕ) (r : List ℕ) : Type 0 where
  pub index : tile_index (g r) 0 ≡ tile_index r 0
  pub other : (tile_index r 0 ≡ i → ⊥) → g r ≡ r
  pub own : tile_index r 0 ≡ i → contents_alone n (g r) ≡ k

module _ (n i : ℕ) (k : List (List ℕ)) (g : List ℕ → List ℕ) where
  pub of_others :
      (l : List (ℕ × List ℕ)) → ((q : ℕ × List ℕ) → Memᴰ q l → Turned n i k g q.1) → (j : ℕ) → (j ≡ i → ⊥) →
      of_tile j (map (touched g) l) ≡ of_tile j l
  unfolding of_tile
  of_others [] h j z = refl
  of_others (q ∷ l) h j z = go (eqb (tile_index q.1 0) j) refl (of_others l (λ x m. h x (Memᴰ.tail m)) j z)
    where
      here : Turned n i k g q.1
      here = h q (Memᴰ.head refl)

      go :
          (b : Bool) → eqb (tile_index q.1 0) j ≡ b → of_tile j (map (touched g) l) ≡ of_tile j l →
          of_tile j (touched g q ∷ map (touched g) l) ≡ of_tile j (q ∷ l)
      go true e x =
          let y : tile_index q.1 0 ≡ j = eqb-true _ _ e in
          rw (here.other (λ w. z (sym y ∙ w)), e) (ap (λ (m : List (ℕ × List ℕ)). q ∷ m) x)
      go false e x = rw (here.index, e) x

  held_turned :
      (l : List (ℕ × List ℕ)) → ((q : ℕ × List ℕ) → Memᴰ q l → Turned n i k g q.1) → {x : ℕ × List ℕ} → Memᴰ x l → tile_index x.1 0 ≡ i →
      held_in n i (map (touched g) l) ≡ k
  held_turned [] h m e = absurd (Memᴰ.not-nil m)
  held_turned (q ∷ l) h {x} m e = go (eqb (tile_index q.1 0) i) refl (Memᴰ.cases_cons m) (λ w. held_turned l (λ y d. h y (Memᴰ.tail d)) w e)
    where
      here : Turned n i k g q.1
      here = h q (Memᴰ.head refl)

      go :
          (b : Bool) → eqb (tile_index q.1 0) i ≡ b → (x ≡ q) ⊎ Memᴰ x l → (Memᴰ x l → held_in n i (map (touched g) l) ≡ k) →
          held_in n i (touched g q ∷ map (touched g) l) ≡ k
      go true f o w = let y : tile_index q.1 0 ≡ i = eqb-true _ _ f in held_here n i (touched g q) (map (touched g) l) (here.index ∙ y) ∙ here.own y
      go false f (inl d) w = absurd (eqb-false _ _ f (sym (ap (λ (y : ℕ × List ℕ). tile_index y.1 0) d) ∙ e))
      go false f (inr d) w =
          let y = eqb-false _ _ f in
          held_other n i (touched g q) (map (touched g) l) (λ v. y (sym here.index ∙ v)) ∙ w d

  pub held_over :
      (l : List (ℕ × List ℕ)) → ((q : ℕ × List ℕ) → Memᴰ q l → Turned n i k g q.1) → {x : ℕ × List ℕ} → Memᴰ x l → tile_index x.1 0 ≡ i →
      (j : ℕ) → held_in n j (map (touched g) l) ≡ pick (eqb j i) k (held_in n j l)
  held_over l h m e j = go (eqb j i) refl
    where
      go : (b : Bool) → eqb j i ≡ b → held_in n j (map (touched g) l) ≡ pick (eqb j i) k (held_in n j l)
      go true f = let y : j ≡ i = eqb-true _ _ f in rw f (ap (λ (w : ℕ). held_in n w (map (touched g) l)) y ∙ held_turned l h m e)
      go false f = rw f (held_same n j (map (touched g) l) l (of_others l h j (eqb-false _ _ f)))
