pub mod FrontLaws
pub mod PieceLaws
pub mod DirectoryLaws
pub mod OpenedLaws
