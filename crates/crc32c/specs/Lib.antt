-- The checksum CRC32C, bit by bit; `inner` only serves a faster body, and no rule rests on it.
pub mod Crc
pub mod Samples
pub mod inner
