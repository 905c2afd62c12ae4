-- Which records of a type stand where. Assumes nothing.
use Prim.Native.Nat.{ℕ, ◌+◌, ◌<◌}
use mathlib.Core.Path.{◌≡◌, refl, sym, ap, ◌∙◌}
use mathlib.Core.List.Memᴰ
use mathlib.Core.List.{List, [], ◌∷◌, ◌++◌, map, append_assoc, Memᴰ}
use mathlib.Core.Logic.{⊎_elim}
use mathlib.Core.Bool.{Bool, true, false}
use native.Mathlib.Omega.{arith}
use lib.ListN.{length, length-append}
use lib.Dec.{eqb}
use borrow.Author.Tests.{eqb-true}
use Rattle.wire.specs.Pick.{pick}
use Rattle.wire.specs.Lists.{select}
use Rattle.wire.proofs.ByteLaws.{number_before}
use Rattle.wire.proofs.PlaceLaws.{Placed, placed_byte}
use Rattle.record.specs.Record.{length_at, type_at, record_ok}
use Rattle.record.specs.Chain.{joined, starts_of, WellFormed, records_of}
use Rattle.record.proofs.ChainLaws.{ok_means, placed_type}
use Rattle.header.specs.Fields.{metadata_reference}
use Rattle.check_records.specs.declared.Rule.TheVariants.{Body}
use Rattle.check_records.specs.MetadataBody.{metadata_right}
use Rattle.check_records.specs.Faults.{body_right, right_of}
use Rattle.pieces.specs.Standing.{AllOf, standing, place_of}
use Rattle.alone.specs.Alone.{SameRecord, Front, alone}
use Rattle.alone.specs.MetadataKept.{SameMetadataRecords}
use Rattle.alone.specs.Standing.{MetadataStands, StandingKeeps}
use Rattle.alone.proofs.HeaderLaws.{header_sym, front_header, front_long}
use Rattle.alone.proofs.PieceLaws.{placed_same, alone_is, starts_are}
use Rattle.alone.proofs.DirectoryLaws.{metadata_kept}

-- a piece of that type, and where it stands in t
pub record Stands (t : List ℕ) (rs : List (List ℕ)) (kind : ℕ) (p : ℕ × List ℕ) : Type 0 where
  pub placed : Placed t p.0 p.1
  pub ok : record_ok p.1 0 ≡ true
  pub stated : length_at p.1 0 ≡ length p.1
  pub type : type_at p.1 0 ≡ kind
  pub among : Memᴰ p.1 rs

pub stands :
    (t a : List ℕ) (rs : List (List ℕ)) → t ≡ a ++ joined rs → WellFormed rs → (kind : ℕ) {p : ℕ × List ℕ} →
    Memᴰ p (standing kind (length a) rs) → Stands t rs kind p
unfolding standing
stands t a [] e v kind m = absurd (Memᴰ.not-nil m)
stands t a (r ∷ rs) e v kind {p} m = go (eqb (type_at r 0) kind) refl m (λ n. further (stands t (a ++ r) rs (e ∙ sym (append_assoc a r (joined rs))) v.1 kind (there n)))
  where
    there : Memᴰ p (standing kind (length a + length r) rs) → Memᴰ p (standing kind (length (a ++ r)) rs)
    there n = rw (length-append a r) n

    further : Stands t rs kind p → Stands t (r ∷ rs) kind p
    further s = record { placed = s.placed; ok = s.ok; stated = s.stated; type = s.type; among = Memᴰ.tail s.among }

    here : type_at r 0 ≡ kind → p ≡ (length a, r) → Stands t (r ∷ rs) kind p
    here k h =
        rw h
        (record { placed = record { before = a; behind = joined rs; whole = e; start = refl }; ok = v.0.0; stated = v.0.1; type = k; among = Memᴰ.head refl })

    go :
        (b : Bool) → eqb (type_at r 0) kind ≡ b →
        Memᴰ p (pick b ((length a, r) ∷ standing kind (length a + length r) rs) (standing kind (length a + length r) rs)) →
        (Memᴰ p (standing kind (length a + length r) rs) → Stands t (r ∷ rs) kind p) → Stands t (r ∷ rs) kind p
    go true i n f = ⊎_elim (here (eqb-true _ _ i)) f (Memᴰ.cases_cons n)
    go false i n f = f n

-- the places of a type are those of its records
places_are :
    (t a : List ℕ) (rs : List (List ℕ)) → t ≡ a ++ joined rs → WellFormed rs → (kind : ℕ) →
    select (λ x. eqb (type_at t x) kind) (starts_of (length a) rs) ≡ map place_of (standing kind (length a) rs)
unfolding standing select
places_are t a [] e v kind = refl
places_are t a (r ∷ rs) e v kind =
    let k : type_at t (length a) ≡ type_at r 0 = ap (λ (l : List ℕ). type_at l (length a)) e ∙ placed_type a r (joined rs) v.0.0 v.0.1 in
    rw k (go (eqb (type_at r 0) kind) (rw (length-append a r) at (places_are t (a ++ r) rs (e ∙ sym (append_assoc a r (joined rs))) v.1 kind)))
  where
    go :
        (b : Bool) →
        select (λ x. eqb (type_at t x) kind) (starts_of (length a + length r) rs) ≡ map place_of (standing kind (length a + length r) rs) →
        pick b (length a ∷ select (λ x. eqb (type_at t x) kind) (starts_of (length a + length r) rs)) (select (λ x. eqb (type_at t x) kind) (starts_of (length a + length r) rs))
        ≡ map place_of (pick b ((length a, r) ∷ standing kind (length a + length r) rs) (standing kind (length a + length r) rs))
    go true i = ap (λ (l : List ℕ). length a ∷ l) i
    go false i = i

pub records_are : (f : List ℕ) → Front f → (rs : List (List ℕ)) → WellFormed rs → (kind : ℕ) → records_of (f ++ joined rs) kind ≡ map place_of (standing kind (length f) rs)
unfolding records_of
records_are f w rs v kind =
    ap (select (λ x. eqb (type_at (f ++ joined rs) x) kind)) (starts_are f w rs v) ∙ places_are (f ++ joined rs) f rs refl v kind

pub member_place : {C : Type 0} (l : List (ℕ × List ℕ)) {x : ℕ} → Memᴰ x (map place_of l) → ((r : List ℕ) → Memᴰ (x, r) l → C) → C
member_place [] m f = absurd (Memᴰ.not-nil m)
member_place ((y, r) ∷ l) {x} m f =
    ⊎_elim (λ e. f r (Memᴰ.head (ap (λ (z : ℕ). (z, r)) e))) (λ n. member_place l n (λ q i. f q (Memᴰ.tail i))) (Memᴰ.cases_cons m)

pub all_member : (P : List ℕ → Type 0) (rs : List (List ℕ)) → AllOf P rs → {r : List ℕ} → Memᴰ r rs → P r
all_member P [] a m = absurd (Memᴰ.not-nil m)
all_member P (q ∷ qs) a m = ⊎_elim (λ e. rw e a.0) (λ n. all_member P qs a.1 n) (Memᴰ.cases_cons m)

-- where the same pieces of a type stand at the same places, the records of that type are the same
module _
    {f g : List ℕ} (w : Front f) (u : Front g) (rs qs : List (List ℕ)) (v : WellFormed rs) (x : WellFormed qs) (kind : ℕ)
    (e : standing kind (length f) rs ≡ standing kind (length g) qs)
  where
    pub same_at : (y : ℕ) → Memᴰ y (records_of (f ++ joined rs) kind) → SameRecord (f ++ joined rs) y (g ++ joined qs) y
    same_at y m =
        member_place (standing kind (length f) rs) (rw (records_are f w rs v kind) at m)
        (λ r i.
        let a = stands (f ++ joined rs) f rs refl v kind i in
        let b = stands (g ++ joined qs) g qs refl x kind (rw e at i) in
        placed_same a.placed b.placed a.ok a.stated)

    pub places_same : records_of (f ++ joined rs) kind ≡ records_of (g ++ joined qs) kind
    places_same = records_are f w rs v kind ∙ ap (map place_of) e ∙ sym (records_are g u qs x kind)

module _ (f : List ℕ) (rs : List (List ℕ)) (g : List ℕ) (qs : List (List ℕ)) (h : MetadataStands f rs g qs) where
  right_at : (x : ℕ) → Memᴰ x (records_of (f ++ joined rs) 1) → metadata_right (f ++ joined rs) x ≡ true
  unfolding right_of body_right
  right_at x m =
      member_place (standing 1 (length f) rs) (rw (records_are f h.first rs h.formed 1) at m)
      (λ r i.
      let a = stands (f ++ joined rs) f rs refl h.formed 1 i in
      let k : type_at (f ++ joined rs) x ≡ 1 = placed_byte a.placed 4 (four r a.ok a.stated) ∙ a.type in
      let b : right_of (f ++ joined rs) Body x ≡ true =
      alone_is f h.first (header_sym (front_header h.first (joined rs))) a.placed a.ok a.stated Body
      ∙ all_member (λ q. alone f Body q ≡ true) rs h.right a.among in
      rw k at b)
    where
      four : (r : List ℕ) → record_ok r 0 ≡ true → length_at r 0 ≡ length r → 4 < length r
      four r o l = let i = ok_means r 0 o in omega (arith, i.long)

  reference_of_lem : {f : List ℕ} → Front f → (b : List ℕ) → metadata_reference (f ++ b) ≡ metadata_reference f
  reference_of_lem {f} w b = number_before 8 f b 64 (omega (arith, front_long w b))

  kept : SameMetadataRecords (f ++ joined rs) (g ++ joined qs)
  kept =
      record {
        reference = reference_of_lem h.first (joined rs) ∙ h.reference ∙ sym (reference_of_lem h.second (joined qs));
        records = places_same h.first h.second rs qs h.formed h.formed_too 1 h.records;
        directories = places_same h.first h.second rs qs h.formed h.formed_too 4 h.directories;
        record_same = same_at h.first h.second rs qs h.formed h.formed_too 1 h.records;
        record_right = right_at;
        directory_same = same_at h.first h.second rs qs h.formed h.formed_too 4 h.directories;
      }

pub standing_keeps : StandingKeeps
standing_keeps f rs g qs h = metadata_kept (f ++ joined rs) (g ++ joined qs) (kept f rs g qs h)
