-- A page's tiles and its records of a type by its pieces. Assumes nothing.
use Rattle.std.specs.Prelude.{Some}
use Prim.Native.Nat.{ℕ, zero, suc, ◌+◌, ◌≤◌, ◌<◌}
use mathlib.Core.Path.{◌≡◌, refl, sym, ap, ap₂, ◌∙◌}
use mathlib.Core.List.{List, [], ◌∷◌, ◌++◌, map, map-append, append_assoc}
use mathlib.Core.Bool.{Bool, true, false}
use native.Mathlib.Omega.{arith}
use lib.ListN.{length, length-append, length-map}
use lib.Dec.{eqb}
use borrow.Author.Tests.{eqb-true}
use Rattle.wire.specs.Pick.{pick}
use Rattle.wire.specs.Tests.{passes}
use Rattle.wire.specs.Bytes.{part}
use Rattle.wire.specs.Lists.{below}
use Rattle.wire.proofs.ListLaws.{below_long}
use Rattle.wire.proofs.PlaceLaws.{Placed, placed_self}
use Rattle.record.specs.Record.{type_at}
use Rattle.record.specs.Chain.{records, find, first_record, joined, starts_of, WellFormed}
use Rattle.header.specs.Fields.{element_count}
use Rattle.bodies.specs.TileRecord.{tile_index, section_length, element_content_at}
use Rattle.check_records.specs.declared.Rule.TheVariants.{Body}
use Rattle.check_records.specs.TileBody.{tile_right}
use Rattle.check_records.specs.Faults.{body_right, right_of}
use Rattle.tile_routes.specs.Ways.{carries, walked_to}
use Rattle.pieces.specs.Pieces.{pieces_of, pieces}
use Rattle.pieces.specs.Standing.{standing}
use Rattle.alone.specs.Alone.{SameRecord, SameHeader, Front, AllAlone}
use Rattle.alone.proofs.HeaderLaws.{header_sym, front_header, front_end}
use Rattle.alone.proofs.MovedLaws.{type_same}
use Rattle.alone.proofs.TileLaws.{index_same, tile_alone}
use Rattle.alone.proofs.PieceLaws.{placed_same, alone_is, pieces_joined, starts_are}
use Rattle.correct.specs.Storing.{tile_at}
use Rattle.page_laws.specs.Tiles.{contents_in, contents_of, tiles_of, standing_of}
use Rattle.page_laws.specs.TileMap.{contents_alone, held_in}

-- a tile record that stands at two places

pub carries_same : {s : List ℕ} {x : ℕ} {t : List ℕ} {y : ℕ} → SameRecord s x t y → (j : ℕ) → carries s j x ≡ carries t j y
unfolding carries
carries_same r j = rw (type_same r, index_same r)

-- functions that agree below n
pub below_map : {A : Type 0} (n : ℕ) (f g : ℕ → A) → ((e : ℕ) → e < n → f e ≡ g e) → map f (below n) ≡ map g (below n)
unfolding below
below_map {A = A} zero f g h = refl
below_map {A = A} (suc n) f g h =
    map-append f (below n) (n ∷ [])
    ∙ ap₂ (λ (a b : List A). a ++ b) (below_map n f g (λ e l. h e (omega arith))) (ap (λ (a : A). a ∷ []) (h n (omega arith)))
    ∙ sym (map-append g (below n) (n ∷ []))

pub contents_alone_lem : (t : List ℕ) (x : ℕ) (r : List ℕ) → SameRecord t x r 0 → tile_right t x ≡ true → contents_in t x ≡ contents_alone (element_count t) r
unfolding contents_in contents_alone
contents_alone_lem t x r q k = below_map (element_count t) _ _ (tile_alone t x r 0 q k).contents

pub below_count : (n : ℕ) → length (below n) ≡ n
below_count n = sym (length-map (below n) (λ (x : ℕ). x)) ∙ below_long (λ x. x) n

-- a tile record of a page that has an element holds something
pub contents_some : (s : List ℕ) (x : ℕ) → 1 ≤ element_count s → contents_in s x ≡ [] → ⊥
unfolding contents_in
contents_some s x h e =
    let l = length-map (below (element_count s)) (λ e. part s (element_content_at s x e) (section_length s x e)) in
    let m = below_count (element_count s) in
    let z : length (map (λ e. part s (element_content_at s x e) (section_length s x e)) (below (element_count s))) ≡ 0 = ap length e in
    absurd (omega arith)

body_tile : (t : List ℕ) (x : ℕ) → right_of t Body x ≡ true → type_at t x ≡ 2 → tile_right t x ≡ true
unfolding right_of body_right
body_tile t x b k = rw k at b

-- the walk over the pieces

module _ (f : List ℕ) (w : Front f) where
  walk :
      (t : List ℕ) → SameHeader t f → (a : List ℕ) (rs : List (List ℕ)) → t ≡ a ++ joined rs → WellFormed rs → AllAlone f Body rs → (j : ℕ) →
      contents_of t (find (carries t j) (starts_of (length a) rs)) ≡ held_in (element_count f) j (standing 2 (length a) rs)
  unfolding find standing held_in carries passes
  walk t h a [] e v k j = refl
  walk t h a (r ∷ rs) e v k j =
      let p : Placed t (length a) r = record { before = a; behind = joined rs; whole = e; start = refl } in
      let q = placed_same p (placed_self r) v.0.0 v.0.1 in
      go q (alone_is f w h p v.0.0 v.0.1 Body ∙ k.0) (eqb (type_at r 0) 2) refl (eqb (tile_index r 0) j) refl
      (rw (length-append a r) at (walk t h (a ++ r) rs (e ∙ sym (append_assoc a r (joined rs))) v.1 k.1 j))
    where
      go :
          SameRecord t (length a) r 0 → right_of t Body (length a) ≡ true → (b : Bool) → eqb (type_at r 0) 2 ≡ b → (d : Bool) → eqb (tile_index r 0) j ≡ d →
          contents_of t (find (carries t j) (starts_of (length a + length r) rs)) ≡ held_in (element_count f) j (standing 2 (length a + length r) rs) →
          contents_of t (pick (carries t j (length a)) (Some (length a)) (find (carries t j) (starts_of (length a + length r) rs)))
          ≡ held_in (element_count f) j (standing 2 (length a) (r ∷ rs))
      go q o true x true y i =
          rw (carries_same q j, x, y) (contents_alone_lem t (length a) r q (body_tile t (length a) o (type_same q ∙ eqb-true _ _ x)) ∙ ap (λ (n : ℕ). contents_alone n r) h.count)
      go q o true x false y i = rw (carries_same q j, x, y) i
      go q o false x d y i = rw (carries_same q j, x) i

  -- the tiles are those of the tile records that stand
  pub tiles_stand :
      (rs : List (List ℕ)) → WellFormed rs → AllAlone f Body rs → (j : ℕ) →
      tiles_of (f ++ joined rs) j ≡ held_in (element_count f) j (standing 2 (length f) rs)
  unfolding tiles_of tile_at walked_to first_record records
  tiles_stand rs v k j =
      ap (λ (l : List ℕ). contents_of (f ++ joined rs) (find (carries (f ++ joined rs) j) l)) (starts_are f w rs v)
      ∙ walk (f ++ joined rs) (header_sym (front_header w (joined rs))) f rs refl v k j

  pub pieces_are : (rs : List (List ℕ)) → WellFormed rs → pieces (f ++ joined rs) ≡ rs
  unfolding pieces
  pieces_are rs v = ap (pieces_of (f ++ joined rs)) (starts_are f w rs v) ∙ pieces_joined (f ++ joined rs) f rs refl v

  pub stands_of : (kind : ℕ) (rs : List (List ℕ)) → WellFormed rs → standing_of kind (f ++ joined rs) ≡ standing kind (length f) rs
  unfolding standing_of
  stands_of kind rs v = rw (front_end w (joined rs), pieces_are rs v)

-- two pages whose headers say the same

module _ {f g : List ℕ} (w : Front f) (u : Front g) (h : SameHeader f g) (rs qs : List (List ℕ)) (v : WellFormed rs) (x : WellFormed qs) where
  pub tiles_same :
      AllAlone f Body rs → AllAlone g Body qs → standing 2 (length f) rs ≡ standing 2 (length g) qs → (j : ℕ) →
      tiles_of (f ++ joined rs) j ≡ tiles_of (g ++ joined qs) j
  tiles_same a b e j =
      tiles_stand f w rs v a j ∙ ap₂ (λ (n : ℕ) (ps : List (ℕ × List ℕ)). held_in n j ps) h.count e ∙ sym (tiles_stand g u qs x b j)
