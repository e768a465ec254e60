pub mod Spell
pub mod Judged
pub mod Bytes
