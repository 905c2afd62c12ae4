-- Samples of the check: files that break one rule, or two, and what each answers.
pub mod Rows
