-- `unpack::rows::rows_with` meets its contract. Assumes nothing.
use Rattle.huffman.proofs.JumpLaws.{jumps_made, coded}
use Rattle.unpack.proofs.rows.rows_with.Goals as goal

pub returns : goal.returns
returns c t x = c.unpack_rows.ensures t (coded _ _ t x (jumps_made _ _ _ c.requires.few c.make_jumps.ensures))
