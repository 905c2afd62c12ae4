-- Definitions for private functions alone; no public contract names them.
pub mod Wanted
