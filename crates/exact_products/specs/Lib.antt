-- What deeds, comparisons, rectangles, score sheets and replays answer, in plain facts: that what is not refused is answered, and the
-- refusals where the pages below do not say when. Definitions and proofs, no code.
pub mod Rules
pub mod Comparisons
pub mod Deeds
pub mod Rectangles
pub mod Sheets
pub mod Logs
pub mod Replays
pub mod Samples
pub mod SheetSample
pub mod LayDowns
pub mod Said
