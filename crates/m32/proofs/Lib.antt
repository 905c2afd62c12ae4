pub mod StepLaws
pub mod CodeLaws
pub mod BackLaws
pub mod OnlyLaws
pub mod WriteLaws
pub mod ReadLaws
pub mod Samples
