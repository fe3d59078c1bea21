-- Lemmas of this crate.
pub mod Walked
pub mod Played
