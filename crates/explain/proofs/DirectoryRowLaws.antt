-- Stage 9: the rows pass just where the check's rules hold. Assumes nothing.
use Prim.Native.Nat.{ℕ, ◌+◌}
use mathlib.Core.Path.{◌≡◌, refl, sym, ap, ◌∙◌}
use mathlib.Core.List.{List, [], ◌∷◌}
use mathlib.Core.Bool.{Bool, true, false, ◌||◌}
use lib.ListN.{length}
use lib.Dec.{leb, eqb}
use borrow.Author.Tests.{eqb-true, eq-eqb}
use Rattle.wire.specs.Pick.{pick}
use Rattle.wire.specs.Lists.{every, count_below}
use Rattle.wire.specs.Tests.{both, passes}
use Rattle.wire.specs.Bytes.{largest_integer}
use Rattle.wire.proofs.TestLaws.{not_both, iff, below_same}
use Rattle.record.specs.Record.{content_at, padded}
use Rattle.record.specs.Chain.{records_of}
use Rattle.record.specs.Types.{free_type, metadata_type, tile_type, tile_directory_type, metadata_directory_type, file_space_directory_type}
use Rattle.header.specs.Fields.{tile_directory_reference, metadata_reference, file_space_reference}
use Rattle.geometry.specs.Tiles.{tile_count}
use Rattle.bodies.specs.TileRecord.{tile_index}
use Rattle.bodies.specs.TileDirectory.{tile_directory_at, references_end, tile_reference}
use Rattle.bodies.specs.ListDirectories.{file_space_at, free_count, free_entry_at, metadata_at, metadata_count, metadata_entry_at}
use Rattle.check_directory.specs.References.{refers_to, refers_or_zero, no_other}
use Rattle.check_directory.specs.TileRules.{form_right, span_right, rectangle_right, tiles_listed, gives_tile, tiles_only, tile_directory_right}
use Rattle.check_lists.specs.declared.ListKind.TheVariants.{FreeSpace, Metadata}
use Rattle.check_lists.specs.Listed.{listed_once, nothing_else}
use Rattle.check_lists.specs.FileSpace.{free_entry_is, free_listed, free_only, free_not_empty, free_fits, file_space_right}
use Rattle.metadata_keys.specs.Pairs.{keys_distinct}
use Rattle.check_lists.specs.Metadata.{metadata_entry_is, metadata_listed, metadata_only, metadata_fits, metadata_directory_right}
use Rattle.check_lists.specs.Stage.{directories_right}
use Rattle.check_lists.specs.inner.Search.{list_entry_is}
use Rattle.check_lists.proofs.ListLaws.{entry_alone}
use Rattle.check_lists.proofs.FindLaws.{else_count, count_else}
use Rattle.reasons.specs.Rows.{Row, tests, keeps, rows_below}
use Rattle.reasons.proofs.ReasonLaws.{both_assoc, both_end, keeps_none, keeps_below}
use Rattle.explain.specs.DirectoryRows.{then_rows, rows_over, other_rows, padded_rows, span_rows, listed_tile_rows, given_right, given_rows, form_rows, rectangle_rows, tile_referred_rows, tile_frame_rows, tile_list_rows, tile_directory_rows, once_rows, list_rows, key_rows, metadata_fitting_rows, metadata_fit_rows, metadata_referred_rows, metadata_frame_rows, metadata_directory_rows, free_fitting_rows, free_fit_rows, file_space_referred_rows, file_space_frame_rows, file_space_rows, directory_rows}
use Rattle.record_reasons.proofs.RecordRowLaws.{two_keep, one_keeps}

over_keeps : (f : ℕ → ℕ → List Row) (p : ℕ → Bool) → ((k x : ℕ) → keeps (f k x) ≡ p x) → (k : ℕ) (xs : List ℕ) → keeps (rows_over f k xs) ≡ every p xs
unfolding rows_over every passes
over_keeps f p h k [] = keeps_none
over_keeps f p h k (x ∷ xs) = two_keep (f k x) _ _ _ (h k x) (over_keeps f p h (k + 1) xs ∙ sym (both_end (every p xs)))

other_one : (rule reference k x : ℕ) → keeps (other_rows rule reference k x) ≡ eqb (content_at x) reference
unfolding keeps tests passes other_rows
other_one rule reference k x = both_end _

other_keeps : (s : List ℕ) (rule kind reference : ℕ) → keeps (rows_over (other_rows rule reference) 0 (records_of s kind)) ≡ no_other s kind reference
unfolding no_other
other_keeps s rule kind reference = over_keeps _ (λ x. eqb (content_at x) reference) (other_one rule reference) 0 (records_of s kind)

padded_keeps : (s : List ℕ) (rule at end : ℕ) → keeps (padded_rows s rule at end) ≡ padded s at end
unfolding keeps tests passes padded_rows padded
padded_keeps s rule at end = refl

-- the tile directory

span_keeps : (i p q start side tiles : ℕ) → keeps (span_rows i p q start side tiles) ≡ span_right start side tiles
unfolding keeps tests passes span_rows span_right
span_keeps i p q start side tiles = refl

form_keeps : (s : List ℕ) → keeps (form_rows s (tile_directory_at s)) ≡ form_right s
unfolding keeps tests passes form_rows form_right
form_keeps s = refl

rectangle_keeps : (s : List ℕ) → keeps (rectangle_rows s (tile_directory_at s)) ≡ rectangle_right s
unfolding rectangle_rows rectangle_right passes
rectangle_keeps s = two_keep _ _ _ _ (span_keeps _ _ _ _ _ _) (span_keeps _ _ _ _ _ _ ∙ sym (both_end _))

listed_one : (s : List ℕ) (k x : ℕ) → keeps (listed_tile_rows s k x) ≡ eqb (tile_reference s (tile_index s x)) (content_at x)
unfolding keeps tests passes listed_tile_rows
listed_one s k x = both_end _

listed_keeps : (s : List ℕ) → keeps (rows_over (listed_tile_rows s) 0 (records_of s tile_type)) ≡ tiles_listed s
unfolding tiles_listed
listed_keeps s = over_keeps (listed_tile_rows s) _ (listed_one s) 0 (records_of s tile_type)

given_one : (s : List ℕ) (i : ℕ) → keeps (given_rows s i) ≡ (eqb (tile_reference s i) 0 || gives_tile s i)
unfolding keeps tests passes given_rows given_right
given_one s i = both_end _

given_keeps : (s : List ℕ) → keeps (rows_below (tile_count s) (given_rows s)) ≡ tiles_only s
unfolding tiles_only
given_keeps s = keeps_below (tile_count s) (given_rows s) ∙ below_same (tile_count s) _ _ (λ i h. given_one s i)

then_keep : (xs ys : List Row) (a b : Bool) → keeps xs ≡ a → keeps ys ≡ b → keeps (then_rows xs ys) ≡ both a b
unfolding then_rows
then_keep xs ys a b p q = two_keep xs ys a b p q

pub tile_referred_keeps : (s : List ℕ) → keeps (tile_referred_rows s) ≡ refers_to s tile_directory_type (tile_directory_reference s)
unfolding keeps tests passes tile_referred_rows
tile_referred_keeps s = both_end _

tile_frame_keeps :
    (s : List ℕ) →
    keeps (tile_frame_rows s)
    ≡ both (no_other s tile_directory_type (tile_directory_reference s)) (both (form_right s) (both (rectangle_right s) (padded s (tile_directory_at s) (references_end s))))
unfolding tile_frame_rows
tile_frame_keeps s =
    two_keep _ _ _ _ (other_keeps s 50 tile_directory_type (tile_directory_reference s))
    (two_keep _ _ _ _ (form_keeps s) (two_keep _ _ _ _ (rectangle_keeps s) (padded_keeps s 56 (tile_directory_at s) (references_end s))))

tile_list_keeps : (s : List ℕ) → keeps (tile_list_rows s) ≡ both (tiles_listed s) (tiles_only s)
unfolding tile_list_rows
tile_list_keeps s = then_keep _ _ _ _ (listed_keeps s) (given_keeps s)

frame_joined : (a b c d x y : Bool) → both (both a (both b (both c d))) (both x y) ≡ both a (both b (both c (both d (both x (both y true)))))
frame_joined false b c d x y = refl
frame_joined true false c d x y = refl
frame_joined true true false d x y = refl
frame_joined true true true d x y = ap (λ (z : Bool). both d (both x z)) (sym (both_end y))

tile_directory_keeps : (s : List ℕ) → keeps (tile_directory_rows s) ≡ tile_directory_right s
unfolding tile_directory_rows tile_directory_right passes
tile_directory_keeps s =
    then_keep _ _ _ _ (tile_referred_keeps s) (then_keep _ _ _ _ (tile_frame_keeps s) (tile_list_keeps s))
    ∙ ap (both (refers_to s tile_directory_type (tile_directory_reference s)))
    (frame_joined (no_other s tile_directory_type (tile_directory_reference s)) (form_right s) (rectangle_right s)
    (padded s (tile_directory_at s) (references_end s)) (tiles_listed s) (tiles_only s))

-- a list of entries

once_one : (rule n : ℕ) (entryIs : ℕ → ℕ → Bool) (k x : ℕ) → keeps (once_rows rule n entryIs k x) ≡ eqb (count_below n (entryIs x)) 1
unfolding keeps tests passes once_rows
once_one rule n entryIs k x = both_end _

pub both_two : {a b : Bool} → both a b ≡ true → (a ≡ true) × (b ≡ true)
both_two {a} {b} e = go a e
  where
    go : (c : Bool) → both c b ≡ true → (c ≡ true) × (b ≡ true)
    go true f = (refl, f)
    go false f = not_both f refl

both_made : (a b : Bool) → a ≡ true → b ≡ true → both a b ≡ true
both_made a b p q = rw (p, q) refl

list_rows_lem :
    (s : List ℕ) (rule p kind n : ℕ) (entryIs : ℕ → ℕ → Bool) →
    keeps (list_rows s rule p kind n entryIs) ≡ both (eqb n (length (records_of s kind))) (listed_once s kind n entryIs)
unfolding list_rows listed_once
list_rows_lem s rule p kind n entryIs = one_keeps _ _ _ (over_keeps _ _ (once_one (rule + 1) n entryIs) 0 (records_of s kind))

metadata_entry_alone : (s : List ℕ) (x y k : ℕ) → metadata_entry_is s x k ≡ true → metadata_entry_is s y k ≡ true → x ≡ y
unfolding list_entry_is
metadata_entry_alone s = entry_alone s Metadata

free_entry_alone : (s : List ℕ) (x y k : ℕ) → free_entry_is s x k ≡ true → free_entry_is s y k ≡ true → x ≡ y
unfolding list_entry_is
free_entry_alone s = entry_alone s FreeSpace

list_keeps :
    (s : List ℕ) (rule p kind n : ℕ) (entryIs : ℕ → ℕ → Bool) → ((x y k : ℕ) → entryIs x k ≡ true → entryIs y k ≡ true → x ≡ y) →
    keeps (list_rows s rule p kind n entryIs) ≡ both (listed_once s kind n entryIs) (nothing_else s kind n entryIs)
list_keeps s rule p kind n entryIs alone =
    list_rows_lem s rule p kind n entryIs
    ∙ iff _ _
    (λ e.
    let h = both_two {a = eqb n (length (records_of s kind))} e in
    both_made _ _ h.1 (count_else s kind n entryIs alone h.1 (eqb-true _ _ h.0)))
    (λ e.
    let h = both_two {a = listed_once s kind n entryIs} e in
    both_made _ _ (eq-eqb _ _ (else_count s kind n entryIs alone h.0 h.1)) h.0)

-- the metadata directory

keys_keep : (s : List ℕ) → keeps (key_rows s) ≡ keys_distinct s
unfolding keeps tests passes key_rows
keys_keep s = both_end _

fit_by : (b : Bool) (xs : List Row) → keeps (pick b [] xs) ≡ (b || keeps xs)
fit_by true xs = keeps_none
fit_by false xs = refl

metadata_fit_keeps : (s : List ℕ) → keeps (metadata_fit_rows s) ≡ metadata_fits s
unfolding metadata_fit_rows metadata_fitting_rows metadata_fits passes
metadata_fit_keeps s =
    fit_by (eqb (metadata_reference s) 0) _
    ∙ ap (λ (b : Bool). eqb (metadata_reference s) 0 || b)
    (one_keeps _ _ _ (padded_keeps s 63 (metadata_at s) (metadata_entry_at s (metadata_count s)) ∙ sym (both_end _)))

metadata_list : (s : List ℕ) → keeps (list_rows s 65 (metadata_reference s) metadata_type (metadata_count s) (metadata_entry_is s)) ≡ both (metadata_listed s) (metadata_only s)
unfolding metadata_listed metadata_only
metadata_list s = list_keeps s 65 (metadata_reference s) metadata_type (metadata_count s) (metadata_entry_is s) (metadata_entry_alone s)

pub metadata_referred_keeps : (s : List ℕ) → keeps (metadata_referred_rows s) ≡ refers_or_zero s metadata_directory_type (metadata_reference s)
unfolding keeps tests passes metadata_referred_rows
metadata_referred_keeps s = both_end _

pub metadata_frame_keeps : (s : List ℕ) → keeps (metadata_frame_rows s) ≡ both (no_other s metadata_directory_type (metadata_reference s)) (metadata_fits s)
unfolding metadata_frame_rows
metadata_frame_keeps s = two_keep _ _ _ _ (other_keeps s 61 metadata_directory_type (metadata_reference s)) (metadata_fit_keeps s)

list_joined : (a b x y z : Bool) → both (both a b) (both (both x y) z) ≡ both a (both b (both x (both y (both z true))))
list_joined false b x y z = refl
list_joined true false x y z = refl
list_joined true true false y z = refl
list_joined true true true y z = ap (both y) (sym (both_end z))

metadata_directory_keeps : (s : List ℕ) → keeps (metadata_directory_rows s) ≡ metadata_directory_right s
unfolding metadata_directory_rows metadata_directory_right passes
metadata_directory_keeps s =
    then_keep _ _ _ _ (metadata_referred_keeps s)
    (then_keep _ _ _ _ (metadata_frame_keeps s) (then_keep _ _ _ _ (metadata_list s) (keys_keep s)))
    ∙ ap (both (refers_or_zero s metadata_directory_type (metadata_reference s)))
    (list_joined (no_other s metadata_directory_type (metadata_reference s)) (metadata_fits s) (metadata_listed s) (metadata_only s) (keys_distinct s))

-- the file-space directory

free_fit_keeps : (s : List ℕ) → keeps (free_fit_rows s) ≡ free_fits s
unfolding free_fit_rows free_fitting_rows free_fits free_not_empty passes
free_fit_keeps s =
    fit_by (eqb (file_space_reference s) 0) _
    ∙ ap (λ (b : Bool). eqb (file_space_reference s) 0 || b)
    (one_keeps _ _ _ (one_keeps _ _ _ (padded_keeps s 72 (file_space_at s) (free_entry_at s (free_count s)) ∙ sym (both_end _)))
    ∙ sym
    (both_assoc (leb 1 (free_count s)) true
    (both (leb (free_count s) largest_integer) (both (padded s (file_space_at s) (free_entry_at s (free_count s))) true))))

free_list_lem : (s : List ℕ) → keeps (list_rows s 74 (file_space_reference s) free_type (free_count s) (free_entry_is s)) ≡ both (free_listed s) (free_only s)
unfolding free_listed free_only
free_list_lem s = list_keeps s 74 (file_space_reference s) free_type (free_count s) (free_entry_is s) (free_entry_alone s)

pub file_space_referred_keeps : (s : List ℕ) → keeps (file_space_referred_rows s) ≡ refers_or_zero s file_space_directory_type (file_space_reference s)
unfolding keeps tests passes file_space_referred_rows
file_space_referred_keeps s = both_end _

pub file_space_frame_keeps : (s : List ℕ) → keeps (file_space_frame_rows s) ≡ both (no_other s file_space_directory_type (file_space_reference s)) (free_fits s)
unfolding file_space_frame_rows
file_space_frame_keeps s = two_keep _ _ _ _ (other_keeps s 69 file_space_directory_type (file_space_reference s)) (free_fit_keeps s)

space_joined : (a b x y : Bool) → both (both a b) (both x y) ≡ both a (both b (both x (both y true)))
space_joined false b x y = refl
space_joined true false x y = refl
space_joined true true x y = ap (both x) (sym (both_end y))

file_space_keeps : (s : List ℕ) → keeps (file_space_rows s) ≡ file_space_right s
unfolding file_space_rows file_space_right passes
file_space_keeps s =
    then_keep _ _ _ _ (file_space_referred_keeps s) (then_keep _ _ _ _ (file_space_frame_keeps s) (free_list_lem s))
    ∙ ap (both (refers_or_zero s file_space_directory_type (file_space_reference s)))
    (space_joined (no_other s file_space_directory_type (file_space_reference s)) (free_fits s) (free_listed s) (free_only s))

pub directory_keeps : (s : List ℕ) → keeps (directory_rows s) ≡ directories_right s
unfolding directory_rows directories_right passes
directory_keeps s =
    then_keep _ _ _ _ (tile_directory_keeps s)
    (then_keep _ _ _ _ (metadata_directory_keeps s) (file_space_keeps s ∙ sym (both_end (file_space_right s))))
