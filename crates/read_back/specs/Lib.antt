-- A page laid down is accepted, and reads back: definitions and proofs, no code.
--
-- It is about the check, cells and the lay-down, and stands above all three. So an edit of the writer is checked again without the
-- proofs of the other two. That a file which is laid down obeys over the list of records that were put into it is shown once
-- (`laid_obeys`); laws of the check and of cells do the rest.
--
-- The theorem asks that the front and the cells are lists of bytes. A slice of `u8` holds no others, so every call meets it. Of
-- larger numbers a checksum could take more than four bytes, and stage 7 would not find it again.
--
-- `part` is empty where bytes do not lie whole, so two equal parts say something only with their extents beside them: each content is
-- also said to lie whole in the file and among the bytes given. The header is said by the names of its fields, so that a reader need
-- not work out offsets.
-- The pages stand in the order in which to read them.
pub mod ReadBack
pub mod Sample
