-- Correcting a page where it lies: what the calls read of a page before they write, and what storing a tile is to do.
pub mod Layouts
