pub mod Passing
pub mod Leaving
pub mod Entering
pub mod Into
pub mod Turning
pub mod Starting
pub mod Stands
