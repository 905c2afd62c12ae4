pub mod HeaderLaws
pub mod StageLaws
pub mod Judged
pub mod Depends
pub mod PassedLaws
