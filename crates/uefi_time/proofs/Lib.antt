pub mod TimeBytes
pub mod TimeRanges
