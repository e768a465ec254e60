pub mod Answered
pub mod OfShape
