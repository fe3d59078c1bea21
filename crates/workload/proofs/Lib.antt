pub mod Steps
pub mod Cycles
pub mod Members
pub mod Drawn
pub mod Played
pub mod Given
