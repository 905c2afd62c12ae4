pub mod ValueLaws
pub mod NumberLaws
pub mod StoodLaws
pub mod HeadLaws
pub mod RowLaws
pub mod TileLaws
pub mod AnswerLaws
pub mod Samples
