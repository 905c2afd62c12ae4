pub mod CellLaws
pub mod PageLaws
pub mod SoundLaws
pub mod Samples
