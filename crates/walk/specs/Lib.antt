pub mod Events
pub mod Opening
pub mod Coming
