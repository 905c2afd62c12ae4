pub mod FirstLaws
pub mod ReadLaws
pub mod WeighLaws
pub mod TableLaws
pub mod GridLaws
pub mod SheetLaws
