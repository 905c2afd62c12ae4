pub mod ListedLaws
pub mod MadeLaws
pub mod AnsweredLaws
pub mod WholeLaws
pub mod LoggedLaws
pub mod RuledLaws
pub mod SqueezedLaws
