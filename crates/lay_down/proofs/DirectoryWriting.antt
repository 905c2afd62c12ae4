-- The tile directory as it is written. Assumes nothing.
use Prim.Native.Nat.{ℕ, ◌+◌, ◌*◌, ◌≤◌}
use mathlib.Core.Path.{◌≡◌, refl, sym, ap, ◌∙◌}
use mathlib.Core.List.{List, ◌++◌, append_assoc}
use native.Mathlib.Omega.{arith}
use lib.ListN.{length}
use Rattle.wire.specs.Bytes.{put}
use Rattle.wire.proofs.PutLaws.{first, then}
use Rattle.header.specs.Fields.{checksum_enabled}
use Rattle.geometry.specs.Tiles.{tiles_across, tiles_down, tile_count}
use Rattle.written_records.specs.Pieces.{record_head, record_length, record_of, closed_at}
use Rattle.written_records.specs.Directory.{directory_form, directory_of}
use Rattle.written_records.proofs.PieceLaws.{head_length_lem}
use Rattle.written_records.proofs.PieceWriting.{closed_put}
use Rattle.written_records.proofs.DirectoryLaws.{form_length}
use Rattle.lay_down.specs.Page.{references, directory_body, directory_record}
use Rattle.lay_down.proofs.PageLaws.{references_length, body_length, directory_holds}

-- the tile directory
pub directory_put :
    (d a b s l : List ℕ) (at n m end flag down across : ℕ) (f ix : List ℕ) → a ≡ put d at (record_head n 5) →
    b ≡ put a (at + 8) (directory_form down across) → down ≡ tiles_down f → across ≡ tiles_across f → s ≡ put b (at + 32) (references f ix (tile_count f)) → end ≡ at + 32 + 4 * m → m ≡ tile_count f → l ≡ closed_at flag s at end n →
    flag ≡ checksum_enabled f → n ≡ record_length (24 + 4 * tile_count f) → at + n ≤ length d → l ≡ put d at (directory_record f ix)
unfolding directory_record directory_body directory_of references
directory_put d a b s l at n m end flag down across f ix p q i j r e g v w x k =
    let y = directory_form (tiles_down f) (tiles_across f) in
    let z = references f ix (tile_count f) in
    let o = directory_holds f in
    let lb : length (y ++ z) ≡ 24 + 4 * tile_count f = body_length f ix in
    let w1 = first p (head_length_lem n 5) in
    let w2 = then w1 y 24 (at + 8) (q ∙ rw (i, j)) (form_length (tiles_down f) (tiles_across f)) refl (omega arith) in
    let w3 = then w2 z (4 * tile_count f) (at + 32) r (references_length f ix (tile_count f)) (omega arith) (omega arith) in
    closed_put d s l at end n flag 5 (y ++ z) (w3.is ∙ ap (put d at) (append_assoc (record_head n 5) y z)) (x ∙ ap record_length (sym lb)) (omega arith) k v
    ∙ ap (λ (u : ℕ). put d at (record_of u 5 (y ++ z))) w
