-- Stage 9's rules of a full tile directory where it and the tile records stay. Assumes nothing.
use Prim.Native.Nat.{ℕ, ◌+◌, ◌*◌, ◌≤◌, ◌<◌}
use mathlib.Core.Path.{◌≡◌, sym, ◌∙◌}
use mathlib.Core.List.{List, ◌++◌}
use mathlib.Core.Bool.{true}
use native.Mathlib.Omega.{arith}
use lib.Dec.{eqb}
use borrow.Author.Tests.{eqb-true}
use Rattle.wire.proofs.TestLaws.{means}
use Rattle.wire.proofs.ByteLaws.{number_before}
use Rattle.wire.proofs.ListLaws.{some_member}
use Rattle.record.specs.Record.{length_at, content_at}
use Rattle.record.specs.Chain.{records_of, joined}
use Rattle.header.specs.Fields.{tile_directory_reference}
use Rattle.geometry.specs.Tiles.{tile_count}
use Rattle.bodies.specs.TileDirectory.{tile_directory_at, reference_size, tile_reference}
use Rattle.check_header.proofs.Judged.{judged_sym}
use Rattle.check_directory.specs.References.{refers_to}
use Rattle.check_directory.specs.TileRules.{tile_directory_right}
use Rattle.check_directory.specs.Correspondence.{OneToOne}
use Rattle.writable.specs.Writable.{directory_full}
use Rattle.alone.specs.Alone.{SameRecord, Front}
use Rattle.alone.proofs.HeaderLaws.{front_judged, front_long}
use Rattle.alone.proofs.MovedLaws.{offset_of, offset_self, offset_number, offset_byte}
use Rattle.alone.proofs.TileLaws.{index_same}
use Rattle.alone.proofs.StandLaws.{same_at, places_same}
use Rattle.page_laws.specs.TilesKept.{SameTileRecords, TilesKept, TilesStandKept}
use Rattle.page_laws.proofs.FrontLaws.{judged_trans}
use Rattle.page_laws.proofs.ListedLaws.{SameListed, listed_same, only_same}
use Rattle.page_laws.proofs.FormLaws.{directory_room, SameForm, form_one, form_kept, full_same, count_same, reference_first, reference_second, reference_stays, reference_room}

module _ (s t : List ℕ) (k : SameTileRecords s t) (right : tile_directory_right s ≡ true) (full : directory_full s ≡ true) where
  abbrev Kept : Type 0
  Kept = (tile_directory_right t ≡ true) × (directory_full t ≡ true)

  -- the directory, at d
  module _ (d : ℕ) (r : SameRecord s d t d) (e : content_at d ≡ tile_directory_reference s) where
    at_d : tile_directory_at s ≡ d
    unfolding tile_directory_at
    at_d = omega (arith, e)

    room : 36 ≤ length_at s d
    room = rw at_d at (directory_room s right)

    form : SameForm s t d
    form =
        let l = room in
        record {
          judged = k.judged;
          reference = k.reference;
          directories = k.directories;
          own = e;
          head = record {
            in_first = omega (arith, r.moved.in_first);
            in_second = omega (arith, r.moved.in_second);
            each = λ i a b. offset_byte r.moved (offset_self d i a) (omega arith);
          };
          in_first = r.moved.in_first;
          in_second = r.moved.in_second;
        }

    one : OneToOne s
    one = form_one form right

    reference_same : (i : ℕ) → i < tile_count s → tile_reference s i ≡ tile_reference t i
    reference_same i h =
        reference_first form right full i h
        ∙ reference_stays form i (offset_number r.moved (offset_of d d (32 + reference_size s * i)) (reference_size s) (omega (arith, reference_room form right full i h)))
        ∙ sym (reference_second form right full i h)

    listed_too : SameListed s t
    listed_too =
        record { count = count_same form; records = k.records; index = k.index; reference = reference_same }

    all : Kept
    all = (form_kept form right (listed_same s t listed_too one) (only_same s t listed_too one), sym (full_same form) ∙ full)

  kept : Kept
  unfolding tile_directory_right refers_to
  kept =
      some_member Kept (λ x. eqb (content_at x) (tile_directory_reference s)) (records_of s 5) (means _ right).0
      (λ d m h. all d (k.directory_same d m) (eqb-true _ _ h))

pub tiles_kept : TilesKept
tiles_kept s t k right full = kept s t k right full

pub tiles_stand_kept : TilesStandKept
tiles_stand_kept f rs g qs h =
    tiles_kept (f ++ joined rs) (g ++ joined qs)
    (record {
      judged = judged_trans (judged_sym (front_judged h.first (joined rs))) (judged_trans h.judged (front_judged h.second (joined qs)));
      reference = reference_of_lem h.first (joined rs) ∙ h.reference ∙ sym (reference_of_lem h.second (joined qs));
      records = places_same h.first h.second rs qs h.formed h.formed_too 2 h.records;
      directories = places_same h.first h.second rs qs h.formed h.formed_too 5 h.directories;
      index = λ x m. index_same (same_at h.first h.second rs qs h.formed h.formed_too 2 h.records x m);
      directory_same = same_at h.first h.second rs qs h.formed h.formed_too 5 h.directories;
    })
  where
    reference_of_lem : {f : List ℕ} → Front f → (b : List ℕ) → tile_directory_reference (f ++ b) ≡ tile_directory_reference f
    reference_of_lem {f} w b = number_before 8 f b 80 (omega (arith, front_long w b))
