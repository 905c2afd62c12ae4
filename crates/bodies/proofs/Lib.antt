pub mod SectionLaws
pub mod MetadataLaws
pub mod DirectoryLaws
pub mod CountLaws
