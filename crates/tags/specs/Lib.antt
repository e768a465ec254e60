pub mod Scan
pub mod Spans
pub mod Attributes
