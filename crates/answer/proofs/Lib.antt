pub mod SignedLaws
pub mod FloatLaws
pub mod ValueLaws
pub mod VerdictLaws
