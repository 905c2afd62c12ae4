pub mod CutLaws
pub mod CallLaws
pub mod PhaseLaws
pub mod PowerLaws
