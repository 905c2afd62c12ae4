pub mod EntryLaws
pub mod HandLaws
pub mod StepLaws
pub mod LogLaws
pub mod TileLaws
