-- Headers that say the same, and a front with whatever stands behind it. Assumes nothing.
use Prim.Native.Nat.{ℕ, ◌-◌, ◌≤◌, ◌<◌}
use mathlib.Core.Path.{◌≡◌, sym, ◌∙◌}
use mathlib.Core.List.{List, ◌++◌}
use mathlib.Core.Bool.{true}
use native.Mathlib.Omega.{arith}
use lib.ListN.{length, length-append}
use Rattle.wire.specs.Bytes.{Same}
use Rattle.wire.proofs.TestLaws.{means}
use Rattle.wire.proofs.ByteLaws.{same_append}
use Rattle.record.specs.Chain.{header_end}
use Rattle.header.specs.Fields.{element_count}
use Rattle.header.specs.Element.{entries_read}
use Rattle.header.proofs.SameLaws.{element_same}
use Rattle.geometry.specs.Tiles.{tile_count}
use Rattle.geometry.specs.Sizes.{element_bytes}
use Rattle.check_header.specs.HeaderRecord.{header_right}
use Rattle.check_header.specs.Ceilings.{within_ceilings}
use Rattle.check_header.specs.Judged.{SameJudged}
use Rattle.check_header.proofs.Judged.{end_same, header_long, header_fit, same_rest, option, rows, columns, tile_rows_lem, tile_columns_lem}
use Rattle.alone.specs.Alone.{SameHeader, Front}

read_all : (s : List ℕ) (i : ℕ) → element_count s ≤ 16 → i < element_count s → i < entries_read s
unfolding entries_read
read_all s i c h = omega arith

pub header_sym : {s t : List ℕ} → SameHeader s t → SameHeader t s
header_sym h =
    record {
      flag = sym h.flag;
      tiles = sym h.tiles;
      count = sym h.count;
      sizes = λ e l. sym (h.sizes e (rw h.count l));
    }

pub header_trans : {s t u : List ℕ} → SameHeader s t → SameHeader t u → SameHeader s u
header_trans h k =
    record {
      flag = h.flag ∙ k.flag;
      tiles = h.tiles ∙ k.tiles;
      count = h.count ∙ k.count;
      sizes = λ e l. h.sizes e l ∙ k.sizes e (rw (← h.count) l);
    }

-- two headers that agree in what stages 1 to 4 judge, one of which stage 3 passes; of 16 elements at most, as stage 4 wants
pub judged_header : (s t : List ℕ) (n : ℕ) → SameJudged s t → header_right s n ≡ true → element_count s ≤ 16 → SameHeader s t
unfolding tile_count element_bytes
judged_header s t n j e c =
    let f = header_fit s t j n e in
    record {
      flag = option s t j 128 (omega arith) (omega arith);
      tiles = rw (rows s t j, columns s t j, tile_rows_lem s t j, tile_columns_lem s t j);
      count = f.count;
      sizes = λ i h. rw (tile_rows_lem s t j, tile_columns_lem s t j, element_same s t (same_rest s t j) i (entries_read s) (read_all s i c h) f.last);
    }

pub count_within : (s : List ℕ) (n : ℕ) → within_ceilings s n ≡ true → element_count s ≤ 16
unfolding within_ceilings
count_within s n e = (means _ e).1.1.1.0

-- what stands behind a front does not matter
module _ {f : List ℕ} (w : Front f) (b : List ℕ) where
  keeps : (c d : ℕ) → d ≤ length f → Same f (f ++ b) c d
  keeps c d h = same_append f b c d h

  pub front_long : 288 ≤ length f
  front_long = omega (arith, header_long f (length f) w.right, w.whole)

  pub front_end : header_end (f ++ b) ≡ length f
  front_end = sym (end_same (keeps 16 21 (omega (arith, front_long)))) ∙ w.whole

  pub front_judged : SameJudged f (f ++ b)
  front_judged =
      let l = front_long in
      record {
        block = keeps 0 14 (omega arith);
        frame = keeps 16 21 (omega arith);
        sides = keeps 104 120 (omega arith);
        options = keeps 128 131 (omega arith);
        rest = keeps 280 (header_end f - 4) (omega (arith, w.whole));
        in_first = omega (arith, w.whole);
        in_second = omega (arith, w.whole, length-append f b);
      }

  pub front_header : SameHeader f (f ++ b)
  front_header = judged_header f (f ++ b) (length f) front_judged w.right w.few
