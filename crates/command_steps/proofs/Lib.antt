-- Lemmas of this crate.
pub mod Migrating
pub mod Pieces
pub mod Stepping
pub mod Writing
