-- What the check answers, exactly.
pub mod Refused
