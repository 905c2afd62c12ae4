-- Small pages, byte by byte, that samples are computed on.
pub mod Pages
