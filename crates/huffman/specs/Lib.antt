-- The bits of a content, its Huffman tree, and the symbols that its codes give. `Nodes` is the tree as it lies in a list, and `Jumps`
-- where several bits at once lead in it, for the functions; `Stored` ties the reading to the standard's own writer.
-- The pages stand in the order in which to read them.
pub mod Bits
pub mod Tree
pub mod Symbols
pub mod Nodes
pub mod Jumps
pub mod Stored
pub mod Samples
