pub mod Staying
pub mod Writers
pub mod Counts
pub mod Sending
