pub mod RowLaws
pub mod InverseLaws
pub mod Samples
pub mod SmallLaws
