pub mod ItemLaws
pub mod MethodLaws
pub mod MetadataLaws
pub mod TileLaws
pub mod SaidLaws
pub mod FurtherLaws
pub mod InFileLaws
