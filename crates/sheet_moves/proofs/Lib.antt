pub mod KeptLaws
pub mod MoveLaws
pub mod OutLaws
pub mod Samples
