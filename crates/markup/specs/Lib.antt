pub mod Tags
pub mod Machine
pub mod Scans
pub mod Reads
pub mod Laws
