-- Whether the scores of a rectangle of a page are certain, doubtful or unread. A page is known by the store's face alone.
-- The pages stand in the order in which to read them; `Tallies` only serves the functions behind the call.
pub mod Deeds
pub mod Sound
pub mod Samples
pub mod Tallies
