pub mod OctetLaws
pub mod LeadLaws
pub mod StepLaws
pub mod Exact
pub mod RangeLaws
pub mod Encodings
pub mod Decoding
pub mod TextSamples
