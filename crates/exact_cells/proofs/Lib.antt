pub mod ExactLaws
pub mod PackedLaws
pub mod WrongLaws
