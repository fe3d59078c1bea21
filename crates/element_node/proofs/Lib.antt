-- Lemmas of this crate.
pub mod Dialogs
pub mod Pieces
pub mod ActCases
pub mod FrameCases
pub mod Rounds
pub mod Cycles
pub mod Spelled
