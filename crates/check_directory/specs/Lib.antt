-- Stage 9 of the check: the header's references, and the tile directory.
--
-- A directory's fields are read at their offsets whatever its record's length. That they lie in the record is said by the rule that
-- counts fit (`padded`), whose end is behind them all. All rules of the stage are asked together, so a 0 that was read where the fit
-- fails decides nothing.
--
-- Where every tile record is listed at its own index, nothing else is listed just where there are as many references that are not
-- zero as tile records (`only_is`). The functions count, in time that grows with the file's length. The definitions say it reference
-- by reference, as document 01 does.
-- The pages stand in the order in which to read them; `inner` only serves faster bodies, and no rule rests on it.
pub mod References
pub mod TileRules
pub mod Correspondence
pub mod inner
