pub mod FreeListLaws
pub mod BehindLaws
pub mod SpaceLaws
pub mod ClosedLaws
