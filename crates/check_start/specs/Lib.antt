-- Req 12, the first half of the check. The pages stand in the order in which to read them.
pub mod Start
pub mod StartSamples
