-- Stages 1 to 5 of the check, and a front by itself.
--
-- The stages take the bytes and the file's length as two arguments, so that a file's first bytes and its stated length suffice for
-- them (`Depends`). Of a whole file the length is the number of its bytes. Bytes that are not there are never evidence of fit: where
-- fewer are given than the header takes, the header is at fault (3), if stages 1 and 2 pass. Req 12's first half (`Start`) asks for the
-- bytes first, and says 16 where one is missing.
-- The pages stand in the order in which to read them.
pub mod Identification
pub mod HeaderRecord
pub mod Ceilings
pub mod Stages
pub mod Passed
pub mod Judged
pub mod Depends
