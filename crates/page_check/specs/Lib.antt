-- The whole check, its parts, and what an accepted file is.
--
-- That a page is sound, and that a file obeys, is stated over a list of records (`SoundBy`, `ObeysBy`): it is the whole chain behind
-- the header, and each record in it keeps stages 7 and 8. A writer knows the records that it has put, and can show the rules of each
-- without first reading them back. A whole chain is the file's own list (`whole_starts`); with that list it is `Sound`, or `Obeys`.
-- The pages stand in the order in which to read them.
pub mod Stages
pub mod Halves
pub mod Accepted
