pub mod Utf8
pub mod CodePoints
pub mod TextSamples
pub mod inner
