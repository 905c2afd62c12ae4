pub mod PieceLaws
pub mod GivenLaws
