-- The file-space and metadata directories, whole, and stage 9. Assumes nothing.
use Prim.Native.Nat.{ℕ}
use mathlib.Core.Path.{◌≡◌, sym, ◌∙◌}
use mathlib.Core.List.{List}
use mathlib.Core.Bool.{Bool, true, false, not}
use Rattle.wire.proofs.TestLaws.{means, no, fails, not_both, either_way}
use Rattle.header.specs.Fields.{file_space_reference, metadata_reference}
use Rattle.check_directory.specs.References.{refers_or_zero, no_other}
use Rattle.check_directory.specs.TileRules.{tile_directory_right}
use Rattle.check_directory.proofs.RuleLaws.{not_told, is_told}
use Rattle.check_lists.specs.declared.ListKind.TheVariants.{FreeSpace, Metadata}
use Rattle.check_lists.specs.FileSpace.{free_listed, free_only, free_fits, file_space_right}
use Rattle.metadata_keys.specs.Pairs.{keys_distinct}
use Rattle.check_lists.specs.Metadata.{metadata_listed, metadata_only, metadata_fits, metadata_directory_right}
use Rattle.check_lists.specs.inner.Search.{listed_kind, list_count, list_fits, list_entry_is, list_right}
use Rattle.check_lists.specs.Stage.{directories_right}

-- what a list's rule says, by the rules of its directory

free_says : (s : List ℕ) → list_right s FreeSpace ≡ true → (free_fits s ≡ true) × ((free_listed s ≡ true) × (free_only s ≡ true))
unfolding list_right list_fits listed_kind list_count list_entry_is free_listed free_only
free_says s e = let y = means _ e in (y.0, (y.1.0, y.1.1.0))

free_said : (s : List ℕ) → list_right s FreeSpace ≡ false → free_fits s ≡ true → free_listed s ≡ true → free_only s ≡ true → ⊥
unfolding list_right list_fits listed_kind list_count list_entry_is free_listed free_only
free_said s e a b c = fails _ e (a, (b, (c, tt)))

metadata_says_lem : (s : List ℕ) → list_right s Metadata ≡ true → (metadata_fits s ≡ true) × ((metadata_listed s ≡ true) × (metadata_only s ≡ true))
unfolding list_right list_fits listed_kind list_count list_entry_is metadata_listed metadata_only
metadata_says_lem s e = let y = means _ e in (y.0, (y.1.0, y.1.1.0))

metadata_said : (s : List ℕ) → list_right s Metadata ≡ false → metadata_fits s ≡ true → metadata_listed s ≡ true → metadata_only s ≡ true → ⊥
unfolding list_right list_fits listed_kind list_count list_entry_is metadata_listed metadata_only
metadata_said s e a b c = fails _ e (a, (b, (c, tt)))

-- the file-space directory

module _ (s : List ℕ) (r : ℕ) (a : Bool) (p : r ≡ file_space_reference s) (q : a ≡ refers_or_zero s 3 r) where
  pub space_reference : not a ≡ true → false ≡ file_space_right s
  unfolding file_space_right
  space_reference e = no _ (λ y. not_both y.0 (rw (← p) (not_told q e)))

  module _ (b : Bool) (t : b ≡ no_other s 3 r) where
    pub space_other : not b ≡ true → false ≡ file_space_right s
    unfolding file_space_right
    space_other e = no _ (λ y. not_both y.1.0 (rw (← p) (not_told t e)))

    pub space_is : (c : Bool) → not a ≡ false → not b ≡ false → c ≡ list_right s FreeSpace → c ≡ file_space_right s
    unfolding file_space_right
    space_is c e f g =
        either_way _ c
        (λ z. let y = free_says s (sym g ∙ z) in (rw (← p) (is_told q e), (rw (← p) (is_told t f), (y.0, (y.1.0, (y.1.1, tt))))))
        (λ z w. free_said s (sym g ∙ z) w.1.1.0 w.1.1.1.0 w.1.1.1.1.0)

-- the metadata directory

module _ (s : List ℕ) (r : ℕ) (a : Bool) (p : r ≡ metadata_reference s) (q : a ≡ refers_or_zero s 4 r) where
  pub metadata_reference_lem : not a ≡ true → false ≡ metadata_directory_right s
  unfolding metadata_directory_right
  metadata_reference_lem e = no _ (λ y. not_both y.0 (rw (← p) (not_told q e)))

  module _ (b : Bool) (t : b ≡ no_other s 4 r) where
    pub metadata_other : not b ≡ true → false ≡ metadata_directory_right s
    unfolding metadata_directory_right
    metadata_other e = no _ (λ y. not_both y.1.0 (rw (← p) (not_told t e)))

    pub metadata_is : (c d : Bool) → not a ≡ false → not b ≡ false → c ≡ list_right s Metadata → c ≡ true → d ≡ keys_distinct s → d ≡ metadata_directory_right s
    unfolding metadata_directory_right
    metadata_is c d e f g h i =
        let y = metadata_says_lem s (sym g ∙ h) in
        either_way _ d
        (λ z. (rw (← p) (is_told q e), (rw (← p) (is_told t f), (y.0, (y.1.0, (y.1.1, (sym i ∙ z, tt)))))))
        (λ z w. not_both w.1.1.1.1.1.0 (sym i ∙ z))

pub metadata_list : (s : List ℕ) (c : Bool) → c ≡ list_right s Metadata → c ≡ false → false ≡ metadata_directory_right s
unfolding metadata_directory_right
metadata_list s c g h = no _ (λ w. metadata_said s (sym g ∙ h) w.1.1.0 w.1.1.1.0 w.1.1.1.1.0)

-- stage 9

pub no_tiles : (s : List ℕ) (a : Bool) → a ≡ tile_directory_right s → a ≡ false → false ≡ directories_right s
unfolding directories_right
no_tiles s a p e = no _ (λ y. not_both y.0 (sym p ∙ e))

pub no_metadata : (s : List ℕ) (a : Bool) → a ≡ metadata_directory_right s → a ≡ false → false ≡ directories_right s
unfolding directories_right
no_metadata s a p e = no _ (λ y. not_both y.1.0 (sym p ∙ e))

pub stage_is :
    (s : List ℕ) (a b c : Bool) → a ≡ tile_directory_right s → a ≡ true → b ≡ metadata_directory_right s → b ≡ true → c ≡ file_space_right s →
    c ≡ directories_right s
unfolding directories_right
stage_is s a b c p e q f t = either_way _ c (λ z. (sym p ∙ e, (sym q ∙ f, (sym t ∙ z, tt)))) (λ z w. not_both w.1.1.0 (sym t ∙ z))
