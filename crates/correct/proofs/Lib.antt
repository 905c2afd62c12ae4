pub mod RecordLaws
pub mod TileLaws
pub mod CellLaws
pub mod ReferenceLaws
pub mod FieldLaws
pub mod DirectoryLaws
pub mod ListLaws
pub mod ReferredLaws
