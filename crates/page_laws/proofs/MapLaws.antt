-- The map of tiles where the records of one index go, and where one more stands. Assumes nothing.
use Prim.Native.Nat.{ℕ, ◌+◌}
use mathlib.Core.Path.{◌≡◌, refl, sym, ap, ◌∙◌}
use mathlib.Core.List.{List, [], ◌∷◌, ◌++◌}
use mathlib.Core.Bool.{Bool, true, false}
use lib.ListN.{length}
use lib.Dec.{eqb}
use borrow.Author.Tests.{eqb-true, eqb-false, eq-eqb, ne_eqb}
use Rattle.wire.specs.Pick.{pick}
use Rattle.wire.specs.Tests.{both, passes}
use Rattle.wire.proofs.TestLaws.{means}
use Rattle.record.specs.Record.{type_at}
use Rattle.bodies.specs.TileRecord.{tile_index}
use Rattle.tile_routes.specs.Ways.{carries}
use Rattle.pieces.specs.Standing.{standing, without, Inserted}
use Rattle.page_laws.specs.Tiles.{of_tile}
use Rattle.page_laws.specs.TileMap.{contents_alone, held_in, NoneWith}

-- a tile record carries its index
pub held_carries : (r : List ℕ) (i : ℕ) → type_at r 0 ≡ 2 → carries r i 0 ≡ eqb (tile_index r 0) i
unfolding carries passes
held_carries r i k = rw k (go (eqb (tile_index r 0) i))
  where
    go : (b : Bool) → both b true ≡ b
    go true = refl
    go false = refl

carries_index : (r : List ℕ) (i : ℕ) → carries r i 0 ≡ true → tile_index r 0 ≡ i
unfolding carries
carries_index r i e = (means _ e).1.0

-- those with index i go

module _ (n i j : ℕ) where
  one_gone :
      (r : List ℕ) (at : ℕ) (l m : List (ℕ × List ℕ)) → held_in n j m ≡ pick (eqb j i) [] (held_in n j l) →
      held_in n j (pick (eqb (tile_index r 0) i) m ((at, r) ∷ m)) ≡ pick (eqb j i) [] (held_in n j ((at, r) ∷ l))
  unfolding held_in
  one_gone r at l m h = go (eqb (tile_index r 0) i) refl (eqb (tile_index r 0) j) refl (eqb j i) refl
    where
      go :
          (a : Bool) → eqb (tile_index r 0) i ≡ a → (b : Bool) → eqb (tile_index r 0) j ≡ b → (c : Bool) → eqb j i ≡ c →
          held_in n j (pick (eqb (tile_index r 0) i) m ((at, r) ∷ m)) ≡ pick (eqb j i) [] (pick (eqb (tile_index r 0) j) (contents_alone n r) (held_in n j l))
      go true x true y true z = rw (x, z) (rw z at h)
      go true x true y false z = let p : tile_index r 0 ≡ j = eqb-true _ _ y in absurd (eqb-false j i z (sym p ∙ eqb-true (tile_index r 0) i x))
      go true x false y c z = rw (x, y) h
      go false x true y c z = rw (x, y, ne_eqb j i (λ e. eqb-false (tile_index r 0) i x (eqb-true (tile_index r 0) j y ∙ e)))
      go false x false y c z = rw (x, y) h

  pub held_without :
      (at : ℕ) (rs : List (List ℕ)) → held_in n j (without (λ r. carries r i 0) (standing 2 at rs)) ≡ pick (eqb j i) [] (held_in n j (standing 2 at rs))
  unfolding standing without held_in
  held_without at [] = go (eqb j i)
    where
      go : (b : Bool) → ◌≡◌ {A = List (List ℕ)} [] (pick b [] [])
      go true = refl
      go false = refl
  held_without at (r ∷ rs) = go (eqb (type_at r 0) 2) refl (held_without (at + length r) rs)
    where
      go :
          (b : Bool) → eqb (type_at r 0) 2 ≡ b →
          held_in n j (without (λ q. carries q i 0) (standing 2 (at + length r) rs)) ≡ pick (eqb j i) [] (held_in n j (standing 2 (at + length r) rs)) →
          held_in n j (without (λ q. carries q i 0) (pick b ((at, r) ∷ standing 2 (at + length r) rs) (standing 2 (at + length r) rs)))
          ≡ pick (eqb j i) [] (held_in n j (pick b ((at, r) ∷ standing 2 (at + length r) rs) (standing 2 (at + length r) rs)))
      go true x h =
          rw (held_carries r i (eqb-true _ _ x))
          (one_gone r at (standing 2 (at + length r) rs) (without (λ q. carries q i 0) (standing 2 (at + length r) rs)) h)
      go false x h = h

pub none_without : (i at : ℕ) (rs : List (List ℕ)) → NoneWith i (without (λ r. carries r i 0) (standing 2 at rs))
unfolding standing without
none_without i at [] = _
none_without i at (r ∷ rs) = go (eqb (type_at r 0) 2) refl (none_without i (at + length r) rs)
  where
    one : (a : Bool) → eqb (tile_index r 0) i ≡ a → (m : List (ℕ × List ℕ)) → NoneWith i m → NoneWith i (pick a m ((at, r) ∷ m))
    one true x m h = h
    one false x m h = (eqb-false _ _ x, h)

    go :
        (b : Bool) → eqb (type_at r 0) 2 ≡ b → NoneWith i (without (λ q. carries q i 0) (standing 2 (at + length r) rs)) →
        NoneWith i (without (λ q. carries q i 0) (pick b ((at, r) ∷ standing 2 (at + length r) rs) (standing 2 (at + length r) rs)))
    go true x h =
        rw (held_carries r i (eqb-true _ _ x)) (one (eqb (tile_index r 0) i) refl (without (λ q. carries q i 0) (standing 2 (at + length r) rs)) h)
    go false x h = h

-- what is held is in the first of the tile's records
abbrev held_first : ℕ → List (ℕ × List ℕ) → List (List ℕ)
held_first n [] = []
held_first n (p ∷ ps) = contents_alone n p.1

held_first_lem : (n j : ℕ) (l : List (ℕ × List ℕ)) → held_in n j l ≡ held_first n (of_tile j l)
unfolding held_in of_tile
held_first_lem n j [] = refl
held_first_lem n j (p ∷ l) = go (eqb (tile_index p.1 0) j) (held_first_lem n j l)
  where
    go : (b : Bool) → held_in n j l ≡ held_first n (of_tile j l) → pick b (contents_alone n p.1) (held_in n j l) ≡ held_first n (pick b (p ∷ of_tile j l) (of_tile j l))
    go true h = refl
    go false h = h

pub held_same : (n j : ℕ) (l m : List (ℕ × List ℕ)) → of_tile j l ≡ of_tile j m → held_in n j l ≡ held_in n j m
held_same n j l m e = held_first_lem n j l ∙ ap (held_first n) e ∙ sym (held_first_lem n j m)

-- the records of another tile stay where those with index i go, and where one with index i stands more

of_append : (j : ℕ) (a b : List (ℕ × List ℕ)) → of_tile j (a ++ b) ≡ of_tile j a ++ of_tile j b
unfolding of_tile
of_append j [] b = refl
of_append j (p ∷ a) b = go (eqb (tile_index p.1 0) j) (of_append j a b)
  where
    go :
        (c : Bool) → of_tile j (a ++ b) ≡ of_tile j a ++ of_tile j b →
        pick c (p ∷ of_tile j (a ++ b)) (of_tile j (a ++ b)) ≡ pick c (p ∷ of_tile j a) (of_tile j a) ++ of_tile j b
    go true h = ap (λ (l : List (ℕ × List ℕ)). p ∷ l) h
    go false h = h

of_other : (j : ℕ) (p : ℕ × List ℕ) (ps : List (ℕ × List ℕ)) → (tile_index p.1 0 ≡ j → ⊥) → of_tile j (p ∷ ps) ≡ of_tile j ps
unfolding of_tile
of_other j p ps h = rw (ne_eqb (tile_index p.1 0) j h)

pub of_without : (i j : ℕ) → (j ≡ i → ⊥) → (l : List (ℕ × List ℕ)) → of_tile j (without (λ r. carries r i 0) l) ≡ of_tile j l
unfolding without of_tile
of_without i j h [] = refl
of_without i j h (p ∷ ps) = go (carries p.1 i 0) refl (of_without i j h ps)
  where
    go :
        (c : Bool) → carries p.1 i 0 ≡ c → of_tile j (without (λ r. carries r i 0) ps) ≡ of_tile j ps →
        of_tile j (pick c (without (λ r. carries r i 0) ps) (p ∷ without (λ r. carries r i 0) ps)) ≡ of_tile j (p ∷ ps)
    go true e k = k ∙ sym (of_other j p ps (λ z. h (sym z ∙ carries_index p.1 i e)))
    go false e k = ap (λ (l : List (ℕ × List ℕ)). pick (eqb (tile_index p.1 0) j) (p ∷ l) l) k

pub of_inserted : (j : ℕ) {l m : List (ℕ × List ℕ)} {q : ℕ × List ℕ} → Inserted l q m → (tile_index q.1 0 ≡ j → ⊥) → of_tile j m ≡ of_tile j l
of_inserted j {l} {m} {q} k h =
    ap (of_tile j) k.second
    ∙ of_append j k.before (q ∷ k.behind)
    ∙ ap (λ (a : List (ℕ × List ℕ)). of_tile j k.before ++ a) (of_other j q k.behind h)
    ∙ sym (of_append j k.before k.behind)
    ∙ ap (of_tile j) (sym k.first)

-- one more stands

module _ (n j : ℕ) (q : ℕ × List ℕ) where
  held_among :
      (before behind : List (ℕ × List ℕ)) → NoneWith (tile_index q.1 0) (before ++ behind) →
      held_in n j (before ++ (q ∷ behind)) ≡ pick (eqb j (tile_index q.1 0)) (contents_alone n q.1) (held_in n j (before ++ behind))
  unfolding held_in
  held_among [] behind h = ap (λ (b : Bool). pick b (contents_alone n q.1) (held_in n j behind)) (turned (tile_index q.1 0) j)
    where
      turned : (a b : ℕ) → eqb a b ≡ eqb b a
      turned a b = go (eqb b a) refl
        where
          go : (c : Bool) → eqb b a ≡ c → eqb a b ≡ c
          go true e = eq-eqb a b (sym (eqb-true _ _ e))
          go false e = ne_eqb a b (λ x. eqb-false _ _ e (sym x))
  held_among (p ∷ before) behind h = go (eqb (tile_index p.1 0) j) refl (held_among before behind h.1)
    where
      go :
          (a : Bool) → eqb (tile_index p.1 0) j ≡ a →
          held_in n j (before ++ (q ∷ behind)) ≡ pick (eqb j (tile_index q.1 0)) (contents_alone n q.1) (held_in n j (before ++ behind)) →
          pick (eqb (tile_index p.1 0) j) (contents_alone n p.1) (held_in n j (before ++ (q ∷ behind)))
          ≡ pick (eqb j (tile_index q.1 0)) (contents_alone n q.1) (pick (eqb (tile_index p.1 0) j) (contents_alone n p.1) (held_in n j (before ++ behind)))
      go true x i = rw (x, ne_eqb j (tile_index q.1 0) (λ e. h.0 (eqb-true (tile_index p.1 0) j x ∙ e)))
      go false x i = rw x i

  pub held_inserted :
      {l m : List (ℕ × List ℕ)} → Inserted l q m → NoneWith (tile_index q.1 0) l →
      held_in n j m ≡ pick (eqb j (tile_index q.1 0)) (contents_alone n q.1) (held_in n j l)
  held_inserted {l} {m} i h =
      ap (held_in n j) i.second
      ∙ held_among i.before i.behind (rw i.first at h)
      ∙ ap (λ (k : List (ℕ × List ℕ)). pick (eqb j (tile_index q.1 0)) (contents_alone n q.1) (held_in n j k)) (sym i.first)
