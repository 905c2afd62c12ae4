pub mod PageBytes
pub mod HarmlessLaws
pub mod MarkLaws
pub mod CaseLaws
pub mod StepLaws
