pub mod Laid
pub mod Live
pub mod Places
pub mod Copies
pub mod Cadenas
pub mod Asking
pub mod Entering
