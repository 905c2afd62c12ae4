-- The fields of the header record, its element entries, and what follows them, for any bytes.
--
-- A type code above 3 is described as an Integer's. Of an element number at or above the count, what stands behind the entries is
-- read as one. So the definitions are total, and neither decides anything: stage 3 refuses such a code, and every read asks first
-- whether the element is there.
-- The pages stand in the order in which to read them.
pub mod Names
pub mod NameSamples
pub mod Fields
pub mod Element
pub mod Texts
pub mod Tail
