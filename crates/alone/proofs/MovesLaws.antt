-- Metadata records that move with their directory's entries. Assumes nothing.
use Prim.Native.Nat.{ℕ}
use mathlib.Core.Path.{◌≡◌, refl, ap, ap₂, ◌∙◌}
use mathlib.Core.List.Memᴰ
use mathlib.Core.List.{List, [], ◌∷◌, ◌++◌, map, map-append, Memᴰ}
use mathlib.Core.Logic.{⊎_elim}
use mathlib.Core.Bool.{Bool, true, false, ◌||◌, not}
use lib.Dec.{eqb}
use borrow.Author.Tests.{eqb-true, eqb-false}
use Rattle.wire.proofs.ListLaws.{every_member, member_every}
use Rattle.record.specs.Chain.{records_of}
use Rattle.metadata_keys.specs.Pairs.{same_key, keys_distinct}
use Rattle.check_lists.specs.Rearranged.{Rearranged, Described, metadata_entries, metadata_record, metadata_records, MetadataRearranged}
use Rattle.check_lists.proofs.RearrangedLaws.{metadata_rearranged, rearranged_metadata}
use Rattle.alone.specs.Alone.{SameMetadata}
use Rattle.alone.specs.Moves.{renamed, MetadataMoves, MovesKeep}
use Rattle.alone.proofs.MetadataLaws.{metadata_alone}

pub rearranged_map : (f : Described → Described) (xs ys : List Described) → Rearranged xs ys → Rearranged (map f xs) (map f ys)
unfolding Rearranged
rearranged_map f [] ys e = ap (map f) e
rearranged_map f (x ∷ xs) ys (a, b, e, r) =
    (map f a, map f b, ap (map f) e ∙ map-append f a (x ∷ b), rw (map-append f a b) at (rearranged_map f xs (a ++ b) r))

-- members of a mapped list
member_map : {C : Type 0} (f : ℕ → ℕ) (l : List ℕ) {y : ℕ} → Memᴰ y (map f l) → ((x : ℕ) → Memᴰ x l → y ≡ f x → C) → C
member_map f [] m k = absurd (Memᴰ.not-nil m)
member_map f (x ∷ l) m k = ⊎_elim (λ e. k x (Memᴰ.head refl) e) (λ n. member_map f l n (λ z i. k z (Memᴰ.tail i))) (Memᴰ.cases_cons m)

module _ (s t : List ℕ) (to named : ℕ → ℕ) (h : MetadataMoves s t to named) where
  fields : (x : ℕ) → Memᴰ x (records_of s 1) → SameMetadata s x t (to x)
  fields x m = metadata_alone s x t (to x) (h.record_same x m) (h.record_right x m)

  one : (x : ℕ) → Memᴰ x (records_of s 1) → metadata_record t (to x) ≡ renamed named (metadata_record s x)
  unfolding metadata_record
  one x m = let f = fields x m in rw (f.name, f.id, f.code, h.agree x m)

  each : (l : List ℕ) → ((x : ℕ) → Memᴰ x l → metadata_record t (to x) ≡ renamed named (metadata_record s x)) → map (metadata_record t) (map to l) ≡ map (renamed named) (map (metadata_record s) l)
  each [] f = refl
  each (x ∷ l) f = ap₂ (λ (a : Described) (b : List Described). a ∷ b) (f x (Memᴰ.head refl)) (each l (λ y m. f y (Memᴰ.tail m)))

  records_renamed : metadata_records t ≡ map (renamed named) (metadata_records s)
  unfolding metadata_records
  records_renamed = ap (map (metadata_record t)) h.records ∙ each (records_of s 1) one

  still : MetadataRearranged s → MetadataRearranged t
  unfolding MetadataRearranged
  still r = rw (records_renamed, h.entries) (rearranged_map (renamed named) (metadata_records s) (metadata_entries s) r)

  key_same : (x y : ℕ) → Memᴰ x (records_of s 1) → Memᴰ y (records_of s 1) → same_key t (to x) (to y) ≡ same_key s x y
  unfolding same_key
  key_same x y m n = let a = fields x m in let b = fields y n in rw (a.name, b.name, a.id, b.id)

  apart : (x y : ℕ) → Memᴰ x (records_of s 1) → Memᴰ y (records_of s 1) → (eqb x y || not (same_key s x y)) ≡ true → (eqb (to x) (to y) || not (same_key t (to x) (to y))) ≡ true
  apart x y m n e = go (eqb x y) refl (eqb (to x) (to y)) refl
    where
      go : (b : Bool) → eqb x y ≡ b → (c : Bool) → eqb (to x) (to y) ≡ c → (eqb (to x) (to y) || not (same_key t (to x) (to y))) ≡ true
      go b i true j = rw j
      go true i false j = absurd (eqb-false _ _ j (ap to (eqb-true _ _ i)))
      go false i false j = rw (j, key_same x y m n) (rw i at e)

  keys : keys_distinct s ≡ true → keys_distinct t ≡ true
  unfolding keys_distinct
  keys e =
      rw h.records
      (member_every _ _
      (λ u m.
      member_every _ _
      (λ v n.
      member_map to (records_of s 1) m
      (λ x i p. member_map to (records_of s 1) n (λ y j q. rw (p, q) (apart x y i j (every_member _ _ (every_member _ _ e i) j)))))))

pub moves_keep : MovesKeep
moves_keep s t to named h a b c =
    let r = rearranged_metadata t (still s t to named h (metadata_rearranged s a b)) in
    (r.0, (r.1, keys s t to named h c))
