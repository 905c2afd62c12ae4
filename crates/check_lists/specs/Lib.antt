-- Stage 9 of the check: the file-space and metadata directories, and the stage whole.
--
-- Both directories list records by one rule, 'listed once ... and nothing else is', which `Listed` says once over both. Two records
-- never share an entry, so where every record is listed once, nothing else is just where there are as many entries as records
-- (`else_count`, `count_else`). The functions count; the definitions say it entry by entry.
-- The pages stand in the order in which to read them; `inner` only serves faster bodies, and no rule rests on it.
pub mod Listed
pub mod FileSpace
pub mod Metadata
pub mod Stage
pub mod Rearranged
pub mod inner
