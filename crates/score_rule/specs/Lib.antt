-- Req 08: the score rule that a page says by its metadata records. A page is known by the store's face alone.
pub mod Rules
pub mod Samples
