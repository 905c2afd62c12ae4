pub mod SortLaws
pub mod GridLaws
pub mod SideLaws
pub mod MarkLaws
pub mod CountLaws
pub mod PlaceLaws
