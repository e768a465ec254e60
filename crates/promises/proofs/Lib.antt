pub mod Places
pub mod Stored
pub mod CadenaShorter
pub mod StoredCopies
pub mod Sending
pub mod ReadingOut
pub mod RegisterLaws
pub mod RegisterExample
