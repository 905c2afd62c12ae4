pub mod Search
pub mod Windows
