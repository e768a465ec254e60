pub mod Reading
pub mod Pieces
pub mod Characters
