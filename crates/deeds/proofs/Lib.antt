pub mod ScoreLaws
pub mod TallyLaws
pub mod RunLaws
pub mod PieceLaws
pub mod DeedLaws
pub mod SoundLaws
pub mod Samples
