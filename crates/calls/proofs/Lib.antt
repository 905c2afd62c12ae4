pub mod ReadLaws
pub mod InnerLaws
pub mod StoreLaws
pub mod OpenLaws
pub mod LengthLaws
pub mod JudgeLaws
pub mod AnswerLaws
