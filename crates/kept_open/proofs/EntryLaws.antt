-- The references of a full tile directory after an edit: tile records and references correspond again. Assumes nothing.
use Prim.Native.Nat.{ℕ, ◌<◌}
use mathlib.Core.Path.{◌≡◌, refl, sym, ap, ◌∙◌}
use mathlib.Core.List.{List, [], ◌∷◌, ◌++◌, map, Memᴰ}
use mathlib.Core.Logic.{◌⊎◌, inl, inr, ⊎_elim}
use mathlib.Core.Bool.{Bool, true, false}
use lib.ListN.{length}
use lib.Dec.{eqb}
use borrow.Author.Tests.{eqb-true, eqb-false, ne_eqb}
use Rattle.wire.specs.Pick.{pick}
use Rattle.wire.proofs.TestLaws.{means, not_both}
use Rattle.wire.proofs.PlaceLaws.{placed_self}
use Rattle.record.specs.Record.{type_at, content_at}
use Rattle.record.specs.Chain.{records_of, joined, WellFormed}
use Rattle.geometry.specs.Tiles.{tile_count}
use Rattle.bodies.specs.TileRecord.{tile_index}
use Rattle.bodies.specs.TileDirectory.{tile_reference}
use Rattle.check_directory.specs.TileRules.{tiles_listed, tiles_only}
use Rattle.check_directory.specs.Correspondence.{TileRecord, OneToOne}
use Rattle.check_directory.proofs.CorrespondLaws.{if_listed, if_only}
use Rattle.tile_routes.specs.Ways.{carries}
use Rattle.pieces.specs.Standing.{standing, place_of, without, Inserted}
use Rattle.alone.specs.Alone.{Front}
use Rattle.alone.proofs.TileLaws.{index_same}
use Rattle.alone.proofs.PieceLaws.{placed_same}
use Rattle.alone.proofs.StandLaws.{stands, records_are, member_place}
use Rattle.page_laws.proofs.MapLaws.{held_carries}

-- what carries an index is a tile record of it
pub carried : (r : List ℕ) (i : ℕ) → carries r i 0 ≡ true → (type_at r 0 ≡ 2) × (tile_index r 0 ≡ i)
unfolding carries
carried r i e = let a = means _ e in (a.0, a.1.0)

-- members of a list of pieces with their places

pub place_member : (l : List (ℕ × List ℕ)) {q : ℕ × List ℕ} → Memᴰ q l → Memᴰ q.0 (map place_of l)
place_member [] m = absurd (mathlib.Core.List.Memᴰ.not-nil m)
place_member (p ∷ l) m = ⊎_elim (λ e. mathlib.Core.List.Memᴰ.head (ap place_of e)) (λ n. mathlib.Core.List.Memᴰ.tail (place_member l n)) (mathlib.Core.List.Memᴰ.cases_cons m)

module _ (p : List ℕ → Bool) where
  without_member : (l : List (ℕ × List ℕ)) {q : ℕ × List ℕ} → Memᴰ q (without p l) → Memᴰ q l × (p q.1 ≡ false)
  unfolding without
  without_member [] m = absurd (mathlib.Core.List.Memᴰ.not-nil m)
  without_member (x ∷ l) {q} m = go (p x.1) refl m (λ n. without_member l n)
    where
      go :
          (b : Bool) → p x.1 ≡ b → Memᴰ q (pick b (without p l) (x ∷ without p l)) →
          (Memᴰ q (without p l) → Memᴰ q l × (p q.1 ≡ false)) → Memᴰ q (x ∷ l) × (p q.1 ≡ false)
      go true e n i = (mathlib.Core.List.Memᴰ.tail (i n).0, (i n).1)
      go false e n i =
          ⊎_elim (λ h. (mathlib.Core.List.Memᴰ.head h, ap (λ (z : ℕ × List ℕ). p z.1) h ∙ e)) (λ k. (mathlib.Core.List.Memᴰ.tail (i k).0, (i k).1)) (mathlib.Core.List.Memᴰ.cases_cons n)

  member_without : (l : List (ℕ × List ℕ)) {q : ℕ × List ℕ} → Memᴰ q l → p q.1 ≡ false → Memᴰ q (without p l)
  unfolding without
  member_without [] m e = absurd (mathlib.Core.List.Memᴰ.not-nil m)
  member_without (x ∷ l) {q} m e = go (p x.1) refl (mathlib.Core.List.Memᴰ.cases_cons m) (λ n. member_without l n e)
    where
      go :
          (b : Bool) → p x.1 ≡ b → (q ≡ x) ⊎ Memᴰ q l → (Memᴰ q l → Memᴰ q (without p l)) →
          Memᴰ q (pick b (without p l) (x ∷ without p l))
      go true f (inl h) i = not_both f (sym (ap (λ (z : ℕ × List ℕ). p z.1) h) ∙ e)
      go true f (inr n) i = i n
      go false f (inl h) i = mathlib.Core.List.Memᴰ.head h
      go false f (inr n) i = mathlib.Core.List.Memᴰ.tail (i n)

module _ {l m : List (ℕ × List ℕ)} {q : ℕ × List ℕ} (i : Inserted l q m) where
  inserted_member : {x : ℕ × List ℕ} → Memᴰ x m → (x ≡ q) ⊎ Memᴰ x l
  inserted_member n =
      ⊎_elim (λ a. inr (rw i.first (mathlib.Core.List.Memᴰ.append_left i.behind a)))
      (λ b. ⊎_elim (λ e. inl e) (λ c. inr (rw i.first (mathlib.Core.List.Memᴰ.append_right i.before c))) (mathlib.Core.List.Memᴰ.cases_cons b))
      (mathlib.Core.List.Memᴰ.append_cases i.before (rw i.second at n))

  member_inserted : {x : ℕ × List ℕ} → Memᴰ x l → Memᴰ x m
  member_inserted n =
      rw i.second
      (⊎_elim (λ a. mathlib.Core.List.Memᴰ.append_left (q ∷ i.behind) a) (λ b. mathlib.Core.List.Memᴰ.append_right i.before (mathlib.Core.List.Memᴰ.tail b))
      (mathlib.Core.List.Memᴰ.append_cases i.before (rw i.first at n)))

  inserted_own : Memᴰ q m
  inserted_own = rw i.second (mathlib.Core.List.Memᴰ.append_right i.before (mathlib.Core.List.Memᴰ.head refl))

-- a tile record of tile i among m with that content
pub record Stored (m : List (ℕ × List ℕ)) (i content : ℕ) : Type 0 where
  pub place : ℕ
  pub bytes : List ℕ
  pub among : Memᴰ (place, bytes) m
  pub starts : content_at place ≡ content
  pub index : tile_index bytes 0 ≡ i

-- of the tile records l and, after an edit, m: those of tile i are gone, the others stay, and one of tile i is there whose content is
-- `content`, where that is not zero
pub record Entered (l m : List (ℕ × List ℕ)) (i content : ℕ) : Type 0 where
  pub from :
      {q : ℕ × List ℕ} → Memᴰ q m → (Memᴰ q l × (carries q.1 i 0 ≡ false)) ⊎ ((content_at q.0 ≡ content) × (tile_index q.1 0 ≡ i))
  pub back : {q : ℕ × List ℕ} → Memᴰ q l → carries q.1 i 0 ≡ false → Memᴰ q m
  pub given : (content ≡ 0 → ⊥) → Stored m i content

pub entered_new :
    (l m : List (ℕ × List ℕ)) (i place : ℕ) (v : List ℕ) → Inserted (without (λ r. carries r i 0) l) (place, v) m → tile_index v 0 ≡ i →
    Entered l m i (content_at place)
entered_new l m i place v n e =
    record {
      from = λ a. ⊎_elim (λ h. inr (ap (λ (z : ℕ × List ℕ). content_at z.0) h, ap (λ (z : ℕ × List ℕ). tile_index z.1 0) h ∙ e)) (λ b. inl (without_member (λ r. carries r i 0) l b)) (inserted_member n a);
      back = λ a c. member_inserted n (member_without (λ r. carries r i 0) l a c);
      given = λ z. record { place = place; bytes = v; among = inserted_own n; starts = refl; index = e };
    }

pub entered_none : (l m : List (ℕ × List ℕ)) (i : ℕ) → m ≡ without (λ r. carries r i 0) l → Entered l m i 0
entered_none l m i e =
    record {
      from = λ a. inl (without_member (λ r. carries r i 0) l (rw e at a));
      back = λ a c. rw e (member_without (λ r. carries r i 0) l a c);
      given = λ z. absurd (z refl);
    }

-- the tile records of a page, with their bytes
pub record Indexed (s : List ℕ) (l : List (ℕ × List ℕ)) : Type 0 where
  pub records : records_of s 2 ≡ map place_of l
  pub index : {q : ℕ × List ℕ} → Memᴰ q l → tile_index s q.0 ≡ tile_index q.1 0
  pub type : {q : ℕ × List ℕ} → Memᴰ q l → type_at q.1 0 ≡ 2

pub indexed_of : (t f : List ℕ) → Front f → (rs : List (List ℕ)) → t ≡ f ++ joined rs → WellFormed rs → Indexed t (standing 2 (length f) rs)
indexed_of t f w rs e v =
    record {
      records = ap (λ (l : List ℕ). records_of l 2) e ∙ records_are f w rs v 2;
      index = λ {q} m. let a = stands t f rs e v 2 m in index_same (placed_same a.placed (placed_self q.1) a.ok a.stated);
      type = λ m. (stands t f rs e v 2 m).type;
    }

-- what the directory gives after it
pub record Referred (s t : List ℕ) (i content : ℕ) : Type 0 where
  pub own : tile_reference t i ≡ content
  pub others : (j : ℕ) → j < tile_count s → (j ≡ i → ⊥) → tile_reference t j ≡ tile_reference s j

module _
    {s t : List ℕ} {l m : List (ℕ × List ℕ)} {i content : ℕ} (a : Indexed s l) (b : Indexed t m) (n : Entered l m i content) (r : Referred s t i content)
    (one : OneToOne s) (count : tile_count s ≡ tile_count t)
  where
    other_index_lem : {q : ℕ × List ℕ} → Memᴰ q l → carries q.1 i 0 ≡ false → tile_index q.1 0 ≡ i → ⊥
    other_index_lem {q} k e = eqb-false _ _ (sym (held_carries q.1 i (a.type k)) ∙ e)

    not_carried : {q : ℕ × List ℕ} → Memᴰ q l → (tile_index q.1 0 ≡ i → ⊥) → carries q.1 i 0 ≡ false
    not_carried {q} k e = held_carries q.1 i (a.type k) ∙ ne_eqb _ _ e

    listed_at : (x : ℕ) (v : List ℕ) → Memᴰ (x, v) m → tile_reference t (tile_index t x) ≡ content_at x
    listed_at x v k =
        ⊎_elim
        (λ (o : Memᴰ (x, v) l × (carries v i 0 ≡ false)).
        let old : Memᴰ x (records_of s 2) = rw a.records (place_member l o.0) in
        let e : tile_index t x ≡ tile_index s x = b.index k ∙ sym (a.index o.0) in
        let d : tile_index s x ≡ i → ⊥ = λ z. other_index_lem o.0 o.1 (sym (a.index o.0) ∙ z) in
        rw e (r.others (tile_index s x) (one.below old) d ∙ one.listed old))
        (λ (o : (content_at x ≡ content) × (tile_index v 0 ≡ i)). let e : tile_index t x ≡ i = b.index k ∙ o.1 in rw e (r.own ∙ sym o.0))
        (n.from k)

    pub entered_listed : tiles_listed t ≡ true
    entered_listed = if_listed t (λ x k. member_place m (rw b.records at k) (λ v h. listed_at x v h))

    stored_there : Stored m i content → TileRecord t i
    stored_there o =
        record {
          start = o.place;
          among = rw b.records (place_member m o.among);
          index = b.index o.among ∙ o.index;
          content = o.starts ∙ sym r.own;
        }

    old_there : (j : ℕ) → j < tile_count s → (j ≡ i → ⊥) → TileRecord s j → TileRecord t j
    old_there j h z o =
        member_place l (rw a.records at o.among)
        (λ v k.
        let e : tile_index v 0 ≡ j = sym (a.index k) ∙ o.index in
        let there : Memᴰ (o.start, v) m = n.back k (not_carried k (λ y. z (sym e ∙ y))) in
        record {
          start = o.start;
          among = rw b.records (place_member m there);
          index = b.index there ∙ e;
          content = o.content ∙ sym (r.others j h z);
        })

    pub entered_only : tiles_only t ≡ true
    entered_only = if_only t (λ j h z. go j (rw count h) z (eqb j i) refl)
      where
        go : (j : ℕ) → j < tile_count s → (tile_reference t j ≡ 0 → ⊥) → (c : Bool) → eqb j i ≡ c → TileRecord t j
        go j h z true e =
            let y : j ≡ i = eqb-true _ _ e in
            rw y (stored_there (n.given (λ x. z (ap (tile_reference t) y ∙ r.own ∙ x))))
        go j h z false e =
            let y = eqb-false _ _ e in
            old_there j h y (one.given j h (λ x. z (r.others j h y ∙ x)))
