pub mod RecordRowLaws
pub mod BodyLaws
pub mod ChainRowLaws
pub mod LoopLaws
