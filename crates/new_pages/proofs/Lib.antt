pub mod CarriedLaws
pub mod NewPageLaws
pub mod FrontSamples
pub mod SampleLaws
