pub mod RegisterLaws
pub mod Stored
