pub mod TileLaws
pub mod SizeLaws
pub mod Samples
pub mod GridLaws
