-- A file with no metadata or free-space record, and no directory of them, is right. Assumes nothing.
use Prim.Native.Nat.{ℕ}
use mathlib.Core.Path.{◌≡◌, sym}
use mathlib.Core.List.{List, []}
use mathlib.Core.Bool.{Bool, true}
use Rattle.wire.specs.Tests.{all_below}
use Rattle.wire.proofs.TestLaws.{yes}
use Rattle.header.specs.Fields.{metadata_reference, file_space_reference}
use Rattle.record.specs.Chain.{records_of}
use Rattle.wire.specs.Lists.{every}
use Rattle.check_directory.specs.References.{refers_or_zero, no_other}
use Rattle.bodies.specs.ListDirectories.{entry_count, metadata_count, free_count}
use Rattle.check_lists.specs.Listed.{listed_once, nothing_else}
use Rattle.metadata_keys.specs.Pairs.{keys_distinct}
use Rattle.check_lists.specs.Metadata.{metadata_entry_is, metadata_listed, metadata_only, metadata_fits, metadata_directory_right}
use Rattle.check_lists.specs.FileSpace.{free_entry_is, free_listed, free_only, free_fits, file_space_right}

-- of either list: the directory's type is d, that of the records listed is k
record Empty (s : List ℕ) (d k r : ℕ) (entryIs : ℕ → ℕ → Bool) : Type 0 where
  refers : refers_or_zero s d r ≡ true
  alone : no_other s d r ≡ true
  listed : listed_once s k (entry_count s r) entryIs ≡ true
  only : nothing_else s k (entry_count s r) entryIs ≡ true

empty : (s : List ℕ) (d k r : ℕ) (entryIs : ℕ → ℕ → Bool) → r ≡ 0 → records_of s d ≡ [] → records_of s k ≡ [] → Empty s d k r entryIs
unfolding refers_or_zero no_other every listed_once nothing_else all_below entry_count
empty s d k r entryIs e p q = record { refers = rw e; alone = rw p; listed = rw q; only = rw e }

pub metadata_empty : (s : List ℕ) → metadata_reference s ≡ 0 → records_of s 4 ≡ [] → records_of s 1 ≡ [] → metadata_directory_right s ≡ true
unfolding metadata_directory_right metadata_fits metadata_listed metadata_only metadata_count keys_distinct every
metadata_empty s e p q =
    let h = empty s 4 1 (metadata_reference s) (metadata_entry_is s) e p q in
    sym (yes _ (h.refers, (h.alone, (rw e, (h.listed, (h.only, (rw q, tt)))))))

pub space_empty : (s : List ℕ) → file_space_reference s ≡ 0 → records_of s 3 ≡ [] → records_of s 0 ≡ [] → file_space_right s ≡ true
unfolding file_space_right free_fits free_listed free_only free_count
space_empty s e p q =
    let h = empty s 3 0 (file_space_reference s) (free_entry_is s) e p q in
    sym (yes _ (h.refers, (h.alone, (rw e, (h.listed, (h.only, tt))))))
