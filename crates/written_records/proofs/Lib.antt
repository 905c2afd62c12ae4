pub mod PieceLaws
pub mod SealLaws
pub mod TileLaws
pub mod DirectoryLaws
pub mod FullLaws
pub mod PieceWriting
