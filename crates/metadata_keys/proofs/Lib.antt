pub mod PairLaws
pub mod TwinLaws
pub mod OrderLaws
pub mod KeyLaws
pub mod RankedLaws
pub mod RoundLaws
