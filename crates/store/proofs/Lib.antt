pub mod OpenedLaws
pub mod LookupLaws
pub mod NamedLaws
pub mod DescriptionLaws
pub mod ManyLaws
pub mod PieceLaws
