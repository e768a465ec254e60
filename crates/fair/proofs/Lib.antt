pub mod Progress
pub mod RowTexts
pub mod Parts
pub mod Copies
pub mod Copying
