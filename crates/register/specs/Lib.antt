pub mod Cadenas
pub mod Copied
pub mod Phases
pub mod States
pub mod Sending
