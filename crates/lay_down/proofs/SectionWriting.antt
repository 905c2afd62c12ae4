-- The sections of a tile's elements as they are written, one behind the other. Assumes nothing.
use Prim.Native.Nat.{ℕ, ◌+◌, ◌≤◌, ◌<◌}
use mathlib.Core.Path.{◌≡◌, refl, sym, ap, ◌∙◌}
use mathlib.Core.List.{List}
use native.Mathlib.Omega.{arith}
use native.Mathlib.Numerals.{add-one}
use lib.ListN.{length}
use Rattle.wire.specs.Tests.{sum_below}
use Rattle.wire.specs.Bytes.{part, put}
use Rattle.wire.proofs.TestLaws.{sum_none, sum_more, sum_each}
use Rattle.wire.proofs.ByteLaws.{part_length}
use Rattle.wire.proofs.PutLaws.{length_put, put_nil, first, then}
use Rattle.header.specs.Fields.{element_count}
use Rattle.header.specs.Element.{entries_read}
use Rattle.geometry.specs.Sizes.{stored_size, element_bytes, tile_bytes}
use Rattle.written_records.specs.Pieces.{section}
use Rattle.written_records.specs.Tile.{sections, sections_of}
use Rattle.written_records.proofs.TileLaws.{stored_before, sections_length, element_within}
use Rattle.written_records.proofs.PieceLaws.{section_length_lem}
use Rattle.lay_down.proofs.FrontLaws.{Front}

-- where a writer stands behind the first e of them
pub record Standing (d : List ℕ) (at : ℕ) (f c l : List ℕ) (p from e : ℕ) : Type 0 where
  pub place : p ≡ at + stored_before f e
  pub given : from ≡ sum_below e (element_bytes f)
  pub kept : length l ≡ length d
  pub is : l ≡ put d at (sections f e c)

pub standing_none : (d : List ℕ) (at : ℕ) (f c : List ℕ) → Standing d at f c d at 0 0
unfolding sections sections_of
standing_none d at f c =
    record {
      place = omega (arith, sum_none (λ k. stored_size (element_bytes f k)));
      given = sym (sum_none (element_bytes f));
      kept = refl;
      is = sym (put_nil d at);
    }

module _
    (d : List ℕ) (at : ℕ) (f c l : List ℕ) (p from e : ℕ) (w : Standing d at f c l p from e) (front : Front f) (u : ℕ) (x : u ≡ element_bytes f e)
    (h : e < entries_read f) (k : at + stored_before f (element_count f) ≤ length d)
  where
    element_among : e < element_count f
    element_among = omega (arith, front.all)

    -- the next section fits, and its bytes are among the tile's

    pub standing_fits : (r : ℕ) → r ≡ stored_size u → p + r ≤ length d
    standing_fits r z =
        let a : stored_size u ≡ stored_size (element_bytes f e) = ap stored_size x in
        omega (arith, w.place, sum_each (element_count f) (λ i. stored_size (element_bytes f i)) e element_among)

    pub standing_given : from + u ≤ 1048576
    standing_given = omega (arith, w.given, element_within f front.all e element_among, front.tile_size)

    pub standing_more :
        (r : ℕ) (y m : List ℕ) → m ≡ put l p (section y) → y ≡ part c from u → r ≡ stored_size u → length c ≡ tile_bytes f →
        Standing d at f c m (p + r) (from + u) (e + 1)
    unfolding sections sections_of
    standing_more r y m v q z t =
        let b = part c (sum_below e (element_bytes f)) (element_bytes f e) in
        let g = element_within f front.all e element_among in
        let a : stored_size u ≡ stored_size (element_bytes f e) = ap stored_size x in
        let s : length (section b) ≡ stored_size (element_bytes f e) = section_length_lem b ∙ ap stored_size (part_length c _ _ (omega arith)) in
        let o = standing_fits r z in
        let i = w.given in
        let n =
        then (first w.is (sections_length f e c (omega arith))) (section b) (stored_size (element_bytes f e)) p (v ∙ rw (q, i, x)) s w.place
        (omega (arith, w.place)) in
        record {
          place = omega (arith, w.place, sum_more e (λ i. stored_size (element_bytes f i)));
          given = omega (arith, sum_more e (element_bytes f));
          kept = ap length v ∙ length_put l p (section y) ∙ w.kept;
          is = rw (add-one e) n.is;
        }

pub standing_all :
    (d : List ℕ) (at : ℕ) (f c l : List ℕ) (p from e n : ℕ) → Standing d at f c l p from e → e ≤ n → n ≤ e →
    (p ≡ at + stored_before f n) × (l ≡ put d at (sections f n c))
standing_all d at f c l p from e n w h k = let q : e ≡ n = omega arith in rw (← q) (w.place, w.is)
