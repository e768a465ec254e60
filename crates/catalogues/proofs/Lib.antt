mod Passing
mod Scans
mod Untils
mod Orders
pub mod FactLines
pub mod Feeds
pub mod Places
pub mod FirstFault
pub mod Answering
pub mod Indexing
pub mod Taking
