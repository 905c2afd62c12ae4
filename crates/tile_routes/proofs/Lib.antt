pub mod WayLaws
pub mod WayReads
