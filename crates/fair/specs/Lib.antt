pub mod Rows
pub mod Copy
pub mod Texts
