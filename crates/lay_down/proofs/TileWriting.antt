-- A tile record as it is written, and one for each index. Assumes nothing.
use Prim.Native.Nat.{ℕ, ◌+◌, ◌*◌, ◌≤◌, ◌<◌}
use mathlib.Core.Path.{◌≡◌, refl, sym, ap, ap₂, ◌∙◌}
use mathlib.Core.List.{List, ◌∷◌, ◌++◌, append_assoc}
use native.Mathlib.Omega.{arith}
use native.Mathlib.Numerals.{add-one}
use lib.ListN.{length, get_or, take, drop, drop_of_length-le, length-drop}
use lib.Seq.{drop-cons, drop-drop}
use Rattle.wire.specs.Bytes.{part, bytes_of, put}
use Rattle.wire.proofs.ByteLaws.{part_in, part_length, bytes_length}
use Rattle.wire.proofs.ItemLaws.{item_within}
use Rattle.wire.proofs.PutLaws.{length_put, put_put, put_nil, first, then}
use Rattle.header.specs.Fields.{checksum_enabled, element_count}
use Rattle.record.specs.Chain.{joined}
use Rattle.geometry.specs.Sizes.{tile_bytes, plain_tile_length}
use Rattle.written_records.specs.Pieces.{record_head, record_of, closed_at}
use Rattle.written_records.specs.Tile.{sections, plain_record, tile_record}
use Rattle.written_records.proofs.PieceLaws.{head_length_lem, record_length_lem}
use Rattle.written_records.proofs.TileLaws.{stored_before, sections_length, tile_sum, plain_holds, tile_body_length, tile_length_lem}
use Rattle.written_records.proofs.PieceWriting.{closed_put}
use Rattle.lay_down.specs.Page.{tile_records, directory_start}
use Rattle.lay_down.proofs.PageLaws.{tiles_length}
use Rattle.lay_down.proofs.FrontLaws.{Front}

pub tile_put :
    (d a b s l : List ℕ) (at n end flag i : ℕ) (f c : List ℕ) → a ≡ put d at (record_head n 2) → b ≡ put a (at + 8) (bytes_of 4 i) →
    s ≡ put b (at + 12) (sections f (element_count f) c) → end ≡ at + 12 + stored_before f (element_count f) →
    l ≡ closed_at flag s at end n → flag ≡ checksum_enabled f → n ≡ plain_tile_length f → Front f → length c ≡ tile_bytes f → at + n ≤ length d →
    l ≡ put d at (tile_record f i c)
unfolding tile_record plain_record sections
tile_put d a b s l at n end flag i f c p q r e v w x front h k =
    let y = sections f (element_count f) c in
    let body = bytes_of 4 i ++ y in
    let ly = sections_length f (element_count f) c (omega (arith, tile_sum f front.all)) in
    let lb = tile_body_length f front.all i c h in
    let o = plain_holds f front.all in
    let w1 = first p (head_length_lem n 2) in
    let w2 = then w1 (bytes_of 4 i) 4 (at + 8) q (bytes_length 4 i) refl (omega arith) in
    let w3 = then w2 y (stored_before f (element_count f)) (at + 12) r ly (omega arith) (omega arith) in
    let t : length (record_of (checksum_enabled f) 2 body) ≡ plain_tile_length f = tile_length_lem f front.all i c h in
    closed_put d s l at end n flag 2 body (w3.is ∙ ap (put d at) (append_assoc (record_head n 2) (bytes_of 4 i) y))
    (x ∙ sym t ∙ record_length_lem (checksum_enabled f) 2 body) (omega arith) k v
    ∙ ap (λ (z : ℕ). put d at (record_of z 2 body)) w

-- the loop: what is still to be put, and what it comes to
pub record Tiling (d f ix c l : List ℕ) (at from k : ℕ) : Type 0 where
  pub start : at ≡ length f + k * plain_tile_length f
  pub given : from ≡ k * tile_bytes f
  pub kept : length l ≡ length d
  pub is : put l at (joined (tile_records f (drop k ix) (drop from c))) ≡ put d (length f) (joined (tile_records f ix c))

pub tiling_none : (d f ix c : List ℕ) → Tiling d f ix c d (length f) 0 0
tiling_none d f ix c = record { start = omega arith; given = omega arith; kept = refl; is = refl }

module _
    (d f ix c l : List ℕ) (at from k : ℕ) (w : Tiling d f ix c l at from k) (front : Front f) (n : ℕ) (x : n ≡ plain_tile_length f) (t : ℕ)
    (y : t ≡ tile_bytes f) (cells : length c ≡ length ix * tile_bytes f) (room : directory_start f ix ≤ length d) (h : k < length ix)
  where
    -- the next record fits, and its cell bytes are there

    pub tiling_fits : at + n ≤ length d
    unfolding directory_start
    tiling_fits = omega (arith, w.start, item_within (length ix) k (plain_tile_length f) h)

    pub tiling_given : from + t ≤ length c
    tiling_given = omega (arith, w.given, item_within (length ix) k (tile_bytes f) h)

    pub tiling_part : (p : List ℕ) → p ≡ part c from t → length p ≡ tile_bytes f
    tiling_part p e = ap length e ∙ part_length c from t tiling_given ∙ y

    -- and so do those behind it

    indexes_left : length ix ≡ k + 1 + length (drop (k + 1) ix)
    indexes_left = omega (arith, length-drop (k + 1) ix)

    rest_length : length (joined (tile_records f (drop (k + 1) ix) (drop (from + t) c))) ≡ length (drop (k + 1) ix) * plain_tile_length f
    rest_length =
        let a : length c ≡ (k + 1 + length (drop (k + 1) ix)) * tile_bytes f = rw (← indexes_left) cells in
        tiles_length f (drop (k + 1) ix) (drop (from + t) c) front.all (length-drop (from + t) c ∙ omega (arith, w.given))

    rest_fits : at + n + length (drop (k + 1) ix) * plain_tile_length f ≤ length d
    unfolding directory_start
    rest_fits =
        let a : length f + (k + 1 + length (drop (k + 1) ix)) * plain_tile_length f ≤ length d = rw (← indexes_left) room in
        omega (arith, w.start)

    pub tiling_more : (p m : List ℕ) → p ≡ part c from t → m ≡ put l at (tile_record f (get_or ix k 0) p) → Tiling d f ix c m (at + n) (from + t) (k + 1)
    unfolding tile_records
    tiling_more p m e q =
        let i = get_or ix k 0 in
        let r = tile_record f i p in
        let rest = joined (tile_records f (drop (k + 1) ix) (drop (from + t) c)) in
        let lr : length r ≡ plain_tile_length f = tile_length_lem f front.all i p (tiling_part p e) in
        let fits : at + length r + length rest ≤ length l = omega (arith, rest_length, rest_fits, w.kept) in
        let o : drop k ix ≡ i ∷ drop (k + 1) ix = drop-cons ix k 0 h ∙ ap (λ (z : ℕ). i ∷ drop z ix) (sym (add-one k)) in
        let v : take (tile_bytes f) (drop from c) ≡ p = sym (e ∙ part_in c from t tiling_given ∙ ap (λ (z : ℕ). take z (drop from c)) y) in
        let s : drop (tile_bytes f) (drop from c) ≡ drop (from + t) c = rw (← y) (drop-drop t from c) in
        let all : joined (tile_records f (drop k ix) (drop from c)) ≡ r ++ rest = rw (o, v, s) in
        record {
          start = omega (arith, w.start);
          given = omega (arith, w.given);
          kept = ap length q ∙ length_put l at r ∙ w.kept;
          is = ap₂ (λ (z : List ℕ) (j : ℕ). put z j rest) q (omega arith) ∙ put_put l at r rest fits ∙ ap (put l at) (sym all) ∙ w.is;
        }

pub tiling_all : (d f ix c l : List ℕ) (at from k : ℕ) → Tiling d f ix c l at from k → length ix ≤ k → l ≡ put d (length f) (joined (tile_records f ix c))
unfolding tile_records
tiling_all d f ix c l at from k w h =
    sym (put_nil l at) ∙ ap (λ (z : List ℕ). put l at (joined (tile_records f z (drop from c)))) (sym (drop_of_length-le ix h)) ∙ w.is
