-- Samples of what a page says.
pub mod Pages
pub mod Told
