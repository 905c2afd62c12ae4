-- How two pages are compared tile by tile. What is said of them stands in `comparisons`; these pages only serve the functions behind the
-- call.
pub mod Sides
pub mod Counting
