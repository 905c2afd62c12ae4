-- Stage 9 of the check: pairs of name and ID. 'inner' only serves faster bodies, and no rule rests on it.
pub mod Pairs
pub mod inner
