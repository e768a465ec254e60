pub mod Tree
pub mod Slots
pub mod Names
