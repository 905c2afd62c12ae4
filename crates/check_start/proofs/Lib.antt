pub mod StartLaws
pub mod StartAgrees
pub mod StartSamples
