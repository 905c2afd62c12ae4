pub mod SequenceLaws
pub mod PlacingLaws
pub mod RefusalLaws
pub mod ContentLaws
pub mod CellLaws
