pub mod TestLaws
pub mod JoinLaws
pub mod OpenLaws
pub mod PartLaws
