pub mod Twins
pub mod Keys
pub mod Ranked
