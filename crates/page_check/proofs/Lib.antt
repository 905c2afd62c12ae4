pub mod StageLaws
pub mod AcceptedLaws
pub mod GivenLaws
pub mod HalfLaws
