pub mod Found
pub mod Meeting
pub mod Rooted
pub mod Layers
