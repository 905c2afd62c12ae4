-- `huffman::read_tree` meets its contract. Assumes nothing.
use Rattle.huffman.proofs.+read_tree.Given as goal

abbrev pub decreases-read_tree : goal.decreases-read_tree
decreases-read_tree l = l.left
