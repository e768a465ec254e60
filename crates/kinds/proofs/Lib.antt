pub mod Steps
pub mod Trims
pub mod Numbers
pub mod Solid
pub mod AmountParts
pub mod Counts
pub mod Same
pub mod Letters
