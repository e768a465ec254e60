pub mod Joining
pub mod Walked
pub mod Rows
pub mod Opening
pub mod Passing
