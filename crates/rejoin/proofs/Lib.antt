pub mod Pieces
pub mod Walks
pub mod Slots
pub mod Spelled
pub mod Rows
pub mod Fields
pub mod ByField
