pub mod SplitLaws
pub mod FreeLaws
pub mod MoveLaws
pub mod FreeingLaws
pub mod PlacedLaws
