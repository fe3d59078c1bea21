-- Lemmas of this crate.
pub mod Outcomes
pub mod Places
