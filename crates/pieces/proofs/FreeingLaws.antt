-- Records freed and joined: what stands where then, and what holds of all of them. Assumes nothing.
use Prim.Native.Nat.{ℕ, ◌+◌, ◌≤◌, ◌%◌}
use mathlib.Core.Path.{◌≡◌, refl, sym, ap, ap₂, ◌∙◌}
use mathlib.Core.List.{List, [], ◌∷◌, ◌++◌, map}
use mathlib.Core.Bool.{Bool, true, false, ◌&&◌}
use native.Mathlib.Omega.{arith}
use lib.ListN.{length, length-append}
use lib.Dec.{eqb}
use borrow.Author.Tests.{eqb-true, ne_eqb}
use Rattle.wire.specs.Pick.{pick}
use Rattle.wire.specs.Bytes.{largest_integer}
use Rattle.record.specs.Record.{length_at, type_at, record_ok}
use Rattle.record.specs.Chain.{joined, WellFormed}
use Rattle.record.proofs.ChainLaws.{ok_means}
use Rattle.pieces.specs.Pieces.{free_record, is_free, attach, join_free, nothing_to_join, cleared, freeing}
use Rattle.pieces.specs.Standing.{AllOf, standing, without}
use Rattle.pieces.proofs.FreeLaws.{free_length, free_stated, free_type_lem, free_ok, free_is, join_length, join_well, join_none}

-- the length of a piece
pub record Long (r : List ℕ) : Type 0 where
  pub least : 16 ≤ length r
  pub most : length r ≤ largest_integer
  pub eights : length r % 8 ≡ 0

pub long_of : (r : List ℕ) → record_ok r 0 ≡ true → length_at r 0 ≡ length r → Long r
long_of r o e = let i = ok_means r 0 o in record { least = rw (← e) i.long; most = rw (← e) i.plain; eights = rw (← e) i.eights }

pub free_well : (flag : ℕ) (n : ℕ) → 16 ≤ n → n ≤ largest_integer → n % 8 ≡ 0 → (record_ok (free_record flag n) 0 ≡ true) × (length_at (free_record flag n) 0 ≡ length (free_record flag n))
free_well flag n h k e = (free_ok flag n h k e, free_stated flag n h k ∙ sym (free_length flag n h))

-- one piece of another type, or of the type

pub standing_other : (kind at : ℕ) (r : List ℕ) (rs : List (List ℕ)) → (type_at r 0 ≡ kind → ⊥) → standing kind at (r ∷ rs) ≡ standing kind (at + length r) rs
unfolding standing
standing_other kind at r rs h = rw (ne_eqb (type_at r 0) kind h)

pub standing_free :
    (flag : ℕ) (n kind at : ℕ) (rs : List (List ℕ)) → 16 ≤ n → (kind ≡ 0 → ⊥) → standing kind at (free_record flag n ∷ rs) ≡ standing kind (at + n) rs
standing_free flag n kind at rs h z =
    let t = free_type_lem flag n h in
    standing_other kind at (free_record flag n) rs (λ e. z (sym e ∙ t)) ∙ ap (λ (l : ℕ). standing kind (at + l) rs) (free_length flag n h)

-- what follows stands the same
pub standing_tail :
    (kind at : ℕ) (r : List ℕ) (rs qs : List (List ℕ)) → standing kind (at + length r) rs ≡ standing kind (at + length r) qs →
    standing kind at (r ∷ rs) ≡ standing kind at (r ∷ qs)
unfolding standing
standing_tail kind at r rs qs e = rw e

pub is_free_lem : (r : List ℕ) → is_free r ≡ true → type_at r 0 ≡ 0
unfolding is_free
is_free_lem r e = eqb-true _ _ e

pub and_both : (a b : Bool) → (a && b) ≡ true → (a ≡ true) × (b ≡ true)
and_both true b e = (refl, e)
and_both false b e = let z : ◌≡◌ {A = ℕ} 0 1 = cc in absurd (omega arith)

-- joining

module _ (flag : ℕ) (r q : List ℕ) (qs : List (List ℕ)) where
  pub attach_both : is_free r ≡ true → is_free q ≡ true → attach flag r (q ∷ qs) ≡ free_record flag (length r + length q) ∷ qs
  unfolding attach
  attach_both i j = rw (i, j)

  pub attach_used : is_free q ≡ false → attach flag r (q ∷ qs) ≡ r ∷ q ∷ qs
  unfolding attach
  attach_used j = go (is_free r) refl
    where
      go : (c : Bool) → is_free r ≡ c → attach flag r (q ∷ qs) ≡ r ∷ q ∷ qs
      go true i = rw (i, j)
      go false i = rw i

-- two free records in a row, attached one behind the other, are attached as one
pub attach_twice :
    (flag : ℕ) (a b : List ℕ) (qs : List (List ℕ)) → is_free a ≡ true → is_free b ≡ true → 16 ≤ length b →
    attach flag a (attach flag b qs) ≡ attach flag (free_record flag (length a + length b)) qs
unfolding attach
attach_twice flag a b [] i j h = rw (i, j)
attach_twice flag a b (q ∷ qs) i j h = go (is_free q) refl
  where
    go : (c : Bool) → is_free q ≡ c → attach flag a (attach flag b (q ∷ qs)) ≡ attach flag (free_record flag (length a + length b)) (q ∷ qs)
    go true k =
        let x = free_record flag (length b + length q) in
        let y = free_record flag (length a + length b) in
        let e : length a + length x ≡ length y + length q = omega (arith, free_length flag (length b + length q) (omega arith), free_length flag (length a + length b) (omega arith)) in
        ap (attach flag a) (attach_both flag b q qs j k) ∙ attach_both flag a x qs i (free_is flag (length b + length q) (omega arith))
        ∙ ap (λ (n : ℕ). free_record flag n ∷ qs) e
        ∙ sym (attach_both flag y q qs (free_is flag (length a + length b) (omega arith)) k)
    go false k =
        ap (attach flag a) (attach_used flag b q qs k) ∙ attach_both flag a b (q ∷ qs) i j
        ∙ sym (attach_used flag (free_record flag (length a + length b)) q qs k)

module _ (flag : ℕ) (kind : ℕ) (z : kind ≡ 0 → ⊥) where
  attach_standing : (at : ℕ) (r : List ℕ) (qs : List (List ℕ)) → 16 ≤ length r → standing kind at (attach flag r qs) ≡ standing kind at (r ∷ qs)
  unfolding attach
  attach_standing at r [] h = refl
  attach_standing at r (q ∷ qs) h = go (is_free r && is_free q) refl
    where
      go : (b : Bool) → (is_free r && is_free q) ≡ b → standing kind at (pick b (free_record flag (length r + length q) ∷ qs) (r ∷ q ∷ qs)) ≡ standing kind at (r ∷ q ∷ qs)
      go true e =
          let a = and_both _ _ e in
          let m : at + (length r + length q) ≡ at + length r + length q = omega arith in
          standing_free flag (length r + length q) kind at qs (omega arith) z
          ∙ ap (λ (l : ℕ). standing kind l qs) m
          ∙ sym (standing_other kind (at + length r) q qs (λ i. z (sym i ∙ is_free_lem q a.1)))
          ∙ sym (standing_other kind at r (q ∷ qs) (λ i. z (sym i ∙ is_free_lem r a.0)))
      go false e = refl

  pub join_standing : (at : ℕ) (rs : List (List ℕ)) → WellFormed rs → standing kind at (join_free flag rs) ≡ standing kind at rs
  unfolding join_free
  join_standing at [] w = refl
  join_standing at (r ∷ rs) w =
      let l = long_of r w.0.0 w.0.1 in
      attach_standing at r (join_free flag rs) l.least ∙ standing_tail kind at r (join_free flag rs) rs (join_standing (at + length r) rs w.1)

-- what holds of every piece and of free records holds of every piece then
module _ (P : List ℕ → Type 0) (flag : ℕ) (keep : (n : ℕ) → 16 ≤ n → n ≤ largest_integer → P (free_record flag n)) where
  attach_all :
      (r : List ℕ) (qs : List (List ℕ)) → WellFormed (r ∷ qs) → length (joined (r ∷ qs)) ≤ largest_integer → AllOf P (r ∷ qs) →
      AllOf P (attach flag r qs)
  unfolding attach
  attach_all r [] w h a = a
  attach_all r (q ∷ qs) w h a = go (is_free r && is_free q)
    where
      go : (b : Bool) → AllOf P (pick b (free_record flag (length r + length q) ∷ qs) (r ∷ q ∷ qs))
      go true =
          let l = long_of r w.0.0 w.0.1 in
          let c = length-append r (q ++ joined qs) in
          let d = length-append q (joined qs) in
          (keep (length r + length q) (omega (arith, l.least)) (omega arith), a.1.1)
      go false = a

  pub join_all : (rs : List (List ℕ)) → WellFormed rs → length (joined rs) ≤ largest_integer → AllOf P rs → AllOf P (join_free flag rs)
  unfolding join_free
  join_all [] w h a = _
  join_all (r ∷ rs) w h a =
      let c = length-append r (joined rs) in
      let d = join_length flag rs w.1 in
      let e = length-append r (joined (join_free flag rs)) in
      attach_all r (join_free flag rs) (w.0, join_well flag rs w.1 (omega arith)) (omega arith) (a.0, join_all rs w.1 (omega arith) a.1)

  cleared_one : (p : List ℕ → Bool) (r : List ℕ) → Long r → P r → P (cleared flag p r)
  unfolding cleared
  cleared_one p r l a = go (p r)
    where
      go : (b : Bool) → P (pick b (free_record flag (length r)) r)
      go true = keep (length r) l.least l.most
      go false = a

  pub cleared_all : (p : List ℕ → Bool) (rs : List (List ℕ)) → WellFormed rs → AllOf P rs → AllOf P (map (cleared flag p) rs)
  cleared_all p [] w a = _
  cleared_all p (r ∷ rs) w a = (cleared_one p r (long_of r w.0.0 w.0.1) a.0, cleared_all p rs w.1 a.1)

-- clearing

module _ (flag : ℕ) (p : List ℕ → Bool) where
  cleared_length : (r : List ℕ) → 16 ≤ length r → length (cleared flag p r) ≡ length r
  unfolding cleared
  cleared_length r h = go (p r)
    where
      go : (b : Bool) → length (pick b (free_record flag (length r)) r) ≡ length r
      go true = free_length flag (length r) h
      go false = refl

  one_well : (r : List ℕ) → record_ok r 0 ≡ true → length_at r 0 ≡ length r → (record_ok (cleared flag p r) 0 ≡ true) × (length_at (cleared flag p r) 0 ≡ length (cleared flag p r))
  unfolding cleared
  one_well r o e = go (p r)
    where
      go : (b : Bool) → (record_ok (pick b (free_record flag (length r)) r) 0 ≡ true) × (length_at (pick b (free_record flag (length r)) r) 0 ≡ length (pick b (free_record flag (length r)) r))
      go true = let l = long_of r o e in free_well flag (length r) l.least l.most l.eights
      go false = (o, e)

  pub cleared_well : (rs : List (List ℕ)) → WellFormed rs → WellFormed (map (cleared flag p) rs)
  cleared_well [] w = _
  cleared_well (r ∷ rs) w = (one_well r w.0.0 w.0.1, cleared_well rs w.1)

  pub cleared_joined : (rs : List (List ℕ)) → WellFormed rs → length (joined (map (cleared flag p) rs)) ≡ length (joined rs)
  cleared_joined [] w = refl
  cleared_joined (r ∷ rs) w =
      let l = long_of r w.0.0 w.0.1 in
      length-append (cleared flag p r) (joined (map (cleared flag p) rs))
      ∙ ap₂ (λ (a b : ℕ). a + b) (cleared_length r l.least) (cleared_joined rs w.1)
      ∙ sym (length-append r (joined rs))

  -- of a type that is not free space, those of which p holds go and the others stay
  pub cleared_standing :
      (kind : ℕ) → (kind ≡ 0 → ⊥) → (at : ℕ) (rs : List (List ℕ)) → WellFormed rs → standing kind at (map (cleared flag p) rs) ≡ without p (standing kind at rs)
  unfolding standing cleared without
  cleared_standing kind z at [] w = refl
  cleared_standing kind z at (r ∷ rs) w = go (p r) refl (eqb (type_at r 0) kind) refl (cleared_standing kind z (at + length r) rs w.1)
    where
      go :
          (b : Bool) → p r ≡ b → (c : Bool) → eqb (type_at r 0) kind ≡ c →
          standing kind (at + length r) (map (cleared flag p) rs) ≡ without p (standing kind (at + length r) rs) →
          standing kind at (pick (p r) (free_record flag (length r)) r ∷ map (cleared flag p) rs)
          ≡ without p (pick (eqb (type_at r 0) kind) ((at, r) ∷ standing kind (at + length r) rs) (standing kind (at + length r) rs))
      go true i true j e = rw (i, j) (rw i (standing_free flag (length r) kind at (map (cleared flag p) rs) (long_of r w.0.0 w.0.1).least z ∙ e))
      go true i false j e = rw (i, j) (standing_free flag (length r) kind at (map (cleared flag p) rs) (long_of r w.0.0 w.0.1).least z ∙ e)
      go false i true j e = rw (i, j) (rw i (ap (λ (l : List (ℕ × List ℕ)). (at, r) ∷ l) e))
      go false i false j e = rw (i, j) e

-- freeing

module _ (flag : ℕ) (p : List ℕ → Bool) (rs : List (List ℕ)) (w : WellFormed rs) where
  pub freeing_length : length (joined (freeing flag p rs)) ≡ length (joined rs)
  unfolding freeing
  freeing_length = join_length flag (map (cleared flag p) rs) (cleared_well flag p rs w) ∙ cleared_joined flag p rs w

  pub freeing_well : length (joined rs) ≤ largest_integer → WellFormed (freeing flag p rs)
  unfolding freeing
  freeing_well h = join_well flag (map (cleared flag p) rs) (cleared_well flag p rs w) (rw (cleared_joined flag p rs w) h)

  pub freeing_none : nothing_to_join (freeing flag p rs) ≡ true
  unfolding freeing
  freeing_none = join_none flag (map (cleared flag p) rs) (cleared_well flag p rs w)

  pub freeing_standing : (kind : ℕ) → (kind ≡ 0 → ⊥) → (at : ℕ) → standing kind at (freeing flag p rs) ≡ without p (standing kind at rs)
  unfolding freeing
  freeing_standing kind z at =
      join_standing flag kind z at (map (cleared flag p) rs) (cleared_well flag p rs w) ∙ cleared_standing flag p kind z at rs w

  pub freeing_all :
      (P : List ℕ → Type 0) → ((n : ℕ) → 16 ≤ n → n ≤ largest_integer → P (free_record flag n)) → length (joined rs) ≤ largest_integer → AllOf P rs →
      AllOf P (freeing flag p rs)
  unfolding freeing
  freeing_all P keep h a =
      join_all P flag keep (map (cleared flag p) rs) (cleared_well flag p rs w) (rw (cleared_joined flag p rs w) h) (cleared_all P flag keep p rs w a)
