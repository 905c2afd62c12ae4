-- The three predictors: cells from their residuals, row by row, and residuals from their cells; that each undoes the other.
-- The pages stand in the order in which to read them.
pub mod Predict
pub mod Inverse
pub mod Samples
