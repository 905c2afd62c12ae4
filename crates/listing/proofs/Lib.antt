pub mod TextLaws
pub mod PutsLaws
pub mod IndexLaws
pub mod LineLaws
pub mod ListLaws
pub mod SampleLaws
