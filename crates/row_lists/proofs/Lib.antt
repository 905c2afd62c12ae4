pub mod EntryLaws
pub mod PlacingLaws
pub mod ListedLaws
pub mod CutLaws
pub mod RowLaws
