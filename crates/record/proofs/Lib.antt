pub mod ChainLaws
pub mod SeekLaws
pub mod FindLaws
pub mod TallyLaws
pub mod FitLaws
pub mod WalkLaws
