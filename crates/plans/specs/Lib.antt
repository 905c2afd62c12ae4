-- Plans of new starts (Req 11): what the tight plan is answered by, and what a plan holds while records move. What a plan is, and what it
-- makes of a page, stands in `correct`.
pub mod Tight
pub mod Moved
