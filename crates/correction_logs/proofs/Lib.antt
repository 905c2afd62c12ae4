pub mod LogLaws
pub mod SampleLaws
