pub mod ReasonLaws
pub mod StageLaws
pub mod PlaceLaws
pub mod HeadLaws
pub mod SampleLaws
