pub mod BlockLaws
pub mod TableLaws
pub mod FoldLaws
pub mod InsideLaws
pub mod WalkLaws
