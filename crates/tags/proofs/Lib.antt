pub mod Fronts
pub mod Parts
pub mod Starts
