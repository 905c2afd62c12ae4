pub mod KeptLaws
pub mod CheckLaws
pub mod TightLaws
pub mod PackLaws
