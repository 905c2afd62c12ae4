pub mod CellLaws
pub mod ApartLaws
pub mod RouteLaws
pub mod ReadLaws
pub mod HeldLaws
pub mod DemandLaws
pub mod ManyLaws
