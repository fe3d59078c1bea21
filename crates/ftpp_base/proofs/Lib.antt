pub mod SetLaws
pub mod Counts
pub mod Items
pub mod Among
pub mod Changed
pub mod Adding
