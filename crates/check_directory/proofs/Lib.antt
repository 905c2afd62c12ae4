pub mod TileLaws
pub mod SearchLaws
pub mod OnlyLaws
pub mod RuleLaws
pub mod MemberLaws
pub mod CorrespondLaws
