pub mod RecordLaws
pub mod SectionLaws
