pub mod On
pub mod FairCopy
pub mod Shape
pub mod Readings
pub mod Kinds
pub mod Schema
pub mod Grounds
pub mod Catalogues
