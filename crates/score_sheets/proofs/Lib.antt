pub mod SheetLaws
pub mod PartLaws
pub mod WholeLaws
