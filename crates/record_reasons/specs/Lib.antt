-- Stages 6 to 8 of the check as rows.
pub mod RecordRows
