pub mod Sending
pub mod Sinking
pub mod Uses
