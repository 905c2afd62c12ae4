pub mod NameLaws
pub mod EntryLaws
pub mod SameLaws
pub mod TextLaws
pub mod NameSamples
