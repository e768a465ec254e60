pub mod Joined
pub mod Totals
pub mod Wrote
pub mod Texts
