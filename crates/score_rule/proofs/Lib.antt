pub mod RuleLaws
pub mod Samples
